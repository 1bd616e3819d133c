-- What texts state by a profile: a text with a kind of bucket or a step that the profile has not states nothing.
use Rattle.std.specs.Prelude.{Bool, true, ◌&&◌, Option, Some, None, if◌then◌else◌}
use Rattle.std.specs.Option.{option_map_or}
use Rattle.serde_json.specs.Data.{Data}
use Rattle.mapparts.specs.declared.parts.MapParts.{MapParts}
use Rattle.mapparts.specs.declared.parts.CrushParts.{CrushParts}
use Rattle.mapparts.specs.declared.profile.Profile.{Profile}
use Rattle.mapparts.specs.Profiles.{has_kinds, has_words}
use Rattle.mapparts.specs.declared.change.RawChange.{RawChange}
use Rattle.jsonstream.specs.Json.{◌>>=◌}
use Rattle.partjson.specs.StatedMaps.{stated_map}
use Rattle.partjson.specs.StatedChanges.{stated_change, unbased_change}

-- whether a profile has the kinds of all buckets of a CRUSH map, and the steps of its rules, where there is one
abbrev pub brings_kinds : Profile → Option CrushParts → Bool
brings_kinds profile crush = option_map_or (λ c. has_kinds profile c.buckets && has_words profile c.rules) crush true

-- the parts of a map that a profile allows
abbrev pub map_allowed : Profile → MapParts → Option MapParts
map_allowed profile p = if has_kinds profile p.buckets && has_words profile p.rules then Some p else None

-- the parts of a change that it allows
abbrev pub change_allowed : Profile → RawChange → Option RawChange
change_allowed profile c = if brings_kinds profile c.crush then Some c else None

-- the parts of the map that a value states, where the profile allows them
abbrev pub map_in : Profile → Data → Option MapParts
map_in profile d = stated_map d >>= map_allowed profile

-- the parts of the change that a value states, where it allows them
abbrev pub change_in : Profile → Data → Option RawChange
change_in profile d = stated_change d >>= change_allowed profile

-- the parts of the change that a value states without a base, where it allows them
abbrev pub unbased_in : Profile → Data → Option RawChange
unbased_in profile d = unbased_change d >>= change_allowed profile
