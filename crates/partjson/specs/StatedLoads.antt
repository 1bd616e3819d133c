-- What OSDs carry as a JSON text (RFC 8259) states it, numbers untested. The form is this program's own.
use Rattle.std.specs.Prelude.{List, Option, option_map}
use Rattle.serde_json.specs.Data.{Data}
use Rattle.partjson.specs.declared.loads.RawLoad.{RawLoad}
use Rattle.jsonstream.specs.Json.{whole_number, stated_list, both_of}

-- an OSD and what it carries: [osd, carried]
unfoldable pub load_of : Data → Option RawLoad
load_of d = option_map (λ one. record { osd = one.0; carried = one.1 }) (both_of whole_number whole_number d)

-- a list of them
abbrev pub stated_loads : Data → Option (List RawLoad)
stated_loads d = stated_list load_of d
