-- The parts of a map that a JSON text (RFC 8259) states. The form is this program's own.
use Rattle.std.specs.Prelude.{ℕ, pos, Bool, true, false, not, ◌&&◌, List, codes, Option, Some, None, option_map, if◌then◌else◌}
use Rattle.std.specs.List.{list_any}
use Rattle.std.specs.Ordering.{int_eq}
use Rattle.std.specs.Str.{bytes_eq}
use Rattle.serde_json.specs.Data.{Data}
use Rattle.serde_json.specs.Find.{as_bool, as_str}
use Rattle.buckets.specs.declared.bucket.BucketKind.{BucketKind}
use Rattle.buckets.specs.declared.bucket.BucketKind.TheVariants.{Uniform, List as Listed, Tree, Straw2}
use Rattle.crush.specs.declared.step.Mode.{Mode}
use Rattle.crush.specs.declared.step.Mode.TheVariants.{Firstn, Indep}
use Rattle.crush.specs.declared.step.RuleKind.{RuleKind}
use Rattle.crush.specs.declared.step.RuleKind.TheVariants.{Replicated, Erasure}
use Rattle.mapparts.specs.declared.parts.MapParts.{MapParts}
use Rattle.mapparts.specs.declared.parts.BucketPart.{BucketPart}
use Rattle.mapparts.specs.declared.parts.ItemPart.{ItemPart}
use Rattle.mapparts.specs.declared.parts.RulePart.{RulePart}
use Rattle.mapparts.specs.declared.parts.StepPart.{StepPart}
use Rattle.mapparts.specs.declared.parts.StepPart.TheVariants.{SetChooseTries, SetChooseleafTries, SetChooseleafVaryR, SetChooseleafStable, Take, Choose, Emit}
use Rattle.mapparts.specs.declared.parts.PoolPart.{PoolPart}
use Rattle.mapparts.specs.declared.parts.GrowPart.{GrowPart}
use Rattle.mapparts.specs.declared.parts.OsdPart.{OsdPart}
use Rattle.mapparts.specs.declared.parts.ExceptionPart.{ExceptionPart}
use Rattle.mapparts.specs.declared.parts.PairPart.{PairPart}
use Rattle.mapparts.specs.declared.pg_parts.PgParts.{PgParts}
use Rattle.mapparts.specs.PgText.{parts_in}
use Rattle.jsonstream.specs.Json.{◌>>=◌, whole_number, stated_list, has_count, place, both_of, three_of}
use Rattle.partjson.specs.Fields.{must, may_list, no_more, ◌&◌, stated_as}

-- ---- the forest

-- how a bucket picks, by its word
abbrev pub bucket_kind : List ℕ → Option BucketKind
bucket_kind word =
    if bytes_eq word (codes "uniform") then Some Uniform
    else if bytes_eq word (codes "list") then Some Listed
    else if bytes_eq word (codes "tree") then Some Tree
    else if bytes_eq word (codes "straw2") then Some Straw2
    else None

-- the kind of a bucket, by its word
abbrev pub bucket_kind_of : Data → Option BucketKind
bucket_kind_of d = as_str d >>= bucket_kind

-- an item: [item, weight]
unfoldable pub stated_item : Data → Option ItemPart
stated_item d = option_map (λ item. record { id = item.0; weight = item.1 }) (both_of whole_number whole_number d)

-- a bucket: id, items, kind and type
unfoldable pub stated_bucket : Data → Option BucketPart
stated_bucket d = stated_as (
    must (codes "id") whole_number
    & must (codes "items") (stated_list stated_item)
    & must (codes "kind") bucket_kind_of
    & must (codes "type") whole_number
    & no_more) (λ (id, p). let (items, p) = p in let (kind, p) = p in let (level, p) = p in record {
      id = id;
      level = level;
      kind = kind;
      items = items;
    }) d

-- ---- rules

-- what a rule or a pool is for, by its word
abbrev pub rule_kind : List ℕ → Option RuleKind
rule_kind word =
    if bytes_eq word (codes "replicated") then Some Replicated
    else if bytes_eq word (codes "erasure") then Some Erasure
    else None

-- the kind of a rule, by its word
abbrev pub rule_kind_of : Data → Option RuleKind
rule_kind_of d = as_str d >>= rule_kind

-- ["emit"]
unfoldable pub emit_of : Data → Option StepPart
emit_of d = if has_count 1 d then Some Emit else None

-- ["take", bucket]
unfoldable pub take_of : Data → Option StepPart
take_of d = if has_count 2 d then (do
  id ← place whole_number 1 d
  Some (Take id)) else None

-- [word, count, type], where the word gives the mode and whether a device is taken below
unfoldable pub choose_of : Mode → Bool → Data → Option StepPart
choose_of mode to_leaf d = if has_count 3 d then (do
  count ← place whole_number 1 d
  level ← place whole_number 2 d
  Some (Choose (record { mode = mode; to_leaf = to_leaf; count = count; level = level }))) else None

-- ["set_choose_tries", n] and ["set_chooseleaf_tries", n]
unfoldable pub tries_of : Data → Option StepPart
tries_of d = if has_count 2 d then (do
  tries ← place whole_number 1 d
  Some (SetChooseTries tries)) else None

-- ["set_chooseleaf_tries", n]
unfoldable pub leaf_tries_of : Data → Option StepPart
leaf_tries_of d = if has_count 2 d then (do
  tries ← place whole_number 1 d
  Some (SetChooseleafTries tries)) else None

-- ["set_chooseleaf_vary_r", n] and ["set_chooseleaf_stable", n]
unfoldable pub leaf_vary_of : Data → Option StepPart
leaf_vary_of d = if has_count 2 d then (do
  vary ← place whole_number 1 d
  Some (SetChooseleafVaryR vary)) else None

-- ["set_chooseleaf_stable", n]
unfoldable pub leaf_stable_of : Data → Option StepPart
leaf_stable_of d = if has_count 2 d then (do
  stable ← place whole_number 1 d
  Some (SetChooseleafStable stable)) else None

-- a step, by its word
unfoldable pub step_by : List ℕ → Data → Option StepPart
step_by word d =
    if bytes_eq word (codes "take") then take_of d
    else if bytes_eq word (codes "choose_firstn") then choose_of Firstn false d
    else if bytes_eq word (codes "choose_indep") then choose_of Indep false d
    else if bytes_eq word (codes "chooseleaf_firstn") then choose_of Firstn true d
    else if bytes_eq word (codes "chooseleaf_indep") then choose_of Indep true d
    else if bytes_eq word (codes "emit") then emit_of d
    else if bytes_eq word (codes "set_choose_tries") then tries_of d
    else if bytes_eq word (codes "set_chooseleaf_tries") then leaf_tries_of d
    else if bytes_eq word (codes "set_chooseleaf_vary_r") then leaf_vary_of d
    else if bytes_eq word (codes "set_chooseleaf_stable") then leaf_stable_of d
    else None

-- a step, whose word stands first
unfoldable pub stated_step : Data → Option StepPart
stated_step d = do
  word ← place as_str 0 d
  step_by word d

-- a rule: id, kind and steps
unfoldable pub stated_rule : Data → Option RulePart
stated_rule d = stated_as (
    must (codes "id") whole_number
    & must (codes "kind") rule_kind_of
    & must (codes "steps") (stated_list stated_step)
    & no_more) (λ (id, p). let (kind, p) = p in let (steps, p) = p in record { id = id; kind = kind; steps = steps }) d

-- ---- pools and OSDs

-- a pool: id, kind, pg_num, pgp_num, rule and size
unfoldable pub stated_pool : Data → Option PoolPart
stated_pool d = stated_as (
    must (codes "id") whole_number
    & must (codes "kind") rule_kind_of
    & must (codes "pg_num") whole_number
    & must (codes "pgp_num") whole_number
    & must (codes "rule") whole_number
    & must (codes "size") whole_number
    & no_more) (λ (id, p). let (kind, p) = p in let (pg_num, p) = p in let (pgp_num, p) = p in
    let (rule, p) = p in let (size, p) = p in record {
      id = id;
      kind = kind;
      pg_num = pg_num;
      pgp_num = pgp_num;
      rule = rule;
      size = size;
    }) d

-- a pool and its new numbers of groups: [pool, pg_num, pgp_num]
unfoldable pub stated_growth : Data → Option GrowPart
stated_growth d =
    option_map (λ three. record { pool = three.0; pg_num = three.1; pgp_num = three.2 })
    (three_of whole_number whole_number whole_number d)

-- an OSD: exists, id, up and weight
unfoldable pub osd_of : Data → Option OsdPart
osd_of d = stated_as (
    must (codes "exists") as_bool
    & must (codes "id") whole_number
    & must (codes "up") as_bool
    & must (codes "weight") whole_number
    & no_more) (λ (exists, p). let (id, p) = p in let (up, p) = p in let (weight, p) = p in record {
      id = id;
      exists = exists;
      up = up;
      weight = weight;
    }) d

-- ---- exceptions

-- a group, by its text
abbrev pub stated_pg : Data → Option PgParts
stated_pg d = as_str d >>= parts_in

-- a pair: [from, to]
unfoldable pub stated_pair : Data → Option PairPart
stated_pair d = option_map (λ pair. record { from = pair.0; to = pair.1 }) (both_of whole_number whole_number d)

-- an exception: [group, [entry, ..]], by what states an entry
unfoldable pub stated_exception : {X : Type 0} → (Data → Option X) → Data → Option (ExceptionPart X)
stated_exception stated d =
    option_map (λ said. record { pg = said.0; entries = said.1 }) (both_of stated_pg (stated_list stated) d)

-- ---- the map

-- whether a step sets how a choose step tries
abbrev pub states_tries : StepPart → Bool
states_tries (SetChooseTries _) = true
states_tries (SetChooseleafTries _) = true
states_tries (SetChooseleafVaryR _) = true
states_tries (SetChooseleafStable _) = true
states_tries (Take _) = false
states_tries (Choose _) = false
states_tries Emit = false

-- the parts of a map: all are required but the exceptions, which may be missing
unfoldable pub map_of : Data → Option MapParts
map_of d = stated_as (
    must (codes "buckets") (stated_list stated_bucket)
    & must (codes "epoch") whole_number
    & must (codes "max_osd") whole_number
    & must (codes "osds") (stated_list osd_of)
    & may_list (codes "pg_upmap") (stated_exception whole_number)
    & may_list (codes "pg_upmap_items") (stated_exception stated_pair)
    & must (codes "pools") (stated_list stated_pool)
    & must (codes "rules") (stated_list stated_rule)
    & must (codes "version") whole_number
    & no_more) (λ (buckets, p). let (epoch, p) = p in let (max_osd, p) = p in let (osds, p) = p in
    let (pg_upmap, p) = p in let (pg_upmap_items, p) = p in let (pools, p) = p in let (rules, p) = p in
    let (version, p) = p in record {
      version = version;
      epoch = epoch;
      max_osd = max_osd;
      buckets = buckets;
      rules = rules;
      pools = pools;
      osds = osds;
      pg_upmap = pg_upmap;
      pg_upmap_items = pg_upmap_items;
    }) d

-- rules set tries in maps of version 2 alone
abbrev pub in_its_version : MapParts → Option MapParts
in_its_version p =
    if not (int_eq p.version (pos 2)) && list_any (λ r. list_any states_tries r.steps) p.rules then None
    else Some p

-- the parts of a map of its version
unfoldable pub stated_map : Data → Option MapParts
stated_map d = map_of d >>= in_its_version
