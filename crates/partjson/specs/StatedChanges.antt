-- The parts of a change that a JSON text (RFC 8259) states, numbers untested. The form is this program's own.
use Rattle.std.specs.Prelude.{ℤ, List, codes, Option, option_map}
use Rattle.mapparts.specs.declared.parts.GrowPart.{GrowPart}
use Rattle.mapparts.specs.declared.parts.CrushParts.{CrushParts}
use Rattle.mapparts.specs.declared.parts.PoolPart.{PoolPart}
use Rattle.mapparts.specs.declared.parts.ExceptionPart.{ExceptionPart}
use Rattle.mapparts.specs.declared.parts.PairPart.{PairPart}
use Rattle.mapparts.specs.declared.pg_parts.PgParts.{PgParts}
use Rattle.serde_json.specs.Data.{Data}
use Rattle.mapparts.specs.declared.change.RawChange.{RawChange}
use Rattle.mapparts.specs.declared.change.ReweightPart.{ReweightPart}
use Rattle.jsonstream.specs.Json.{whole_number, stated_list, both_of}
use Rattle.partjson.specs.Fields.{Form, must, may, may_list, unstated, no_more, ◌&◌, stated_as}
use Rattle.partjson.specs.StatedMaps as texts

-- an OSD and its new reweight: [osd, reweight]
unfoldable pub reweight_of : Data → Option ReweightPart
reweight_of d = option_map (λ one. record { osd = one.0; weight = one.1 }) (both_of whole_number whole_number d)

-- a forest and rules, both required; steps that set tries are always allowed
unfoldable pub crush_of : Data → Option CrushParts
crush_of d = stated_as (
    must (codes "buckets") (stated_list texts.stated_bucket)
    & must (codes "rules") (stated_list texts.stated_rule)
    & no_more) (λ (buckets, p). let (rules, p) = p in record { buckets = buckets; rules = rules }) d

-- a change of the parts of its fields
abbrev pub change_with : ℤ × (List ℤ × (List GrowPart × (Option CrushParts × (List (ExceptionPart PairPart)
    × (List PoolPart × (List (ExceptionPart ℤ) × (List PgParts × (List ℤ × (List PgParts × (List ℤ
    × (List ReweightPart × Unit {0}))))))))))) → RawChange
change_with p =
    let (base, p) = p in let (down, p) = p in let (grow_pool, p) = p in let (new_crush, p) = p in
    let (new_items, p) = p in let (new_pools, p) = p in let (new_upmap, p) = p in let (old_items, p) = p in
    let (old_pools, p) = p in let (old_upmap, p) = p in let (up, p) = p in let (weight, p) = p in record {
      base = base;
      pools = record { gone = old_pools; come = new_pools; grow = grow_pool };
      crush = new_crush;
      osds = record { down = down; up = up };
      weights = weight;
      explicit = record { gone = old_upmap; come = new_upmap };
      items = record { gone = old_items; come = new_items };
    }

-- the parts of a change, by the form of its base: lists and a CRUSH map, which may be missing
abbrev pub change_by : Form ℤ → Data → Option RawChange
change_by base d = stated_as (
    base
    & may_list (codes "down") whole_number
    & may_list (codes "grow_pool") texts.stated_growth
    & may (codes "new_crush") crush_of
    & may_list (codes "new_items") (texts.stated_exception texts.stated_pair)
    & may_list (codes "new_pools") texts.stated_pool
    & may_list (codes "new_upmap") (texts.stated_exception whole_number)
    & may_list (codes "old_items") texts.stated_pg
    & may_list (codes "old_pools") whole_number
    & may_list (codes "old_upmap") texts.stated_pg
    & may_list (codes "up") whole_number
    & may_list (codes "weight") reweight_of
    & no_more) change_with d

-- the parts of a change, whose base is required
unfoldable pub stated_change : Data → Option RawChange
stated_change d = change_by (must (codes "base") whole_number) d

-- the parts of a change without a base, which then is 0
unfoldable pub unbased_change : Data → Option RawChange
unbased_change d = change_by (unstated (codes "base")) d
