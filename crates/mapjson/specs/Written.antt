-- What is written of a map: its parts as a JSON value (RFC 8259), each object with all its keys, in compact text.
use Rattle.std.specs.Prelude.{◌≡◌, ℕ, ℤ, Bool, true, false, List, [], ◌∷◌, map, codes, Some}
use Rattle.std.specs.List.{All}
use Rattle.serde_json.specs.Data.{Data, boolean, number, string, array, object, Members, no_members, member}
use Rattle.serde_json.specs.Find.{of_integer}
use Rattle.serde_json.specs.View.{items_of}
use Rattle.serde_json.specs.Written.{compact_text}
use Rattle.buckets.specs.declared.bucket.BucketKind.{BucketKind}
use Rattle.buckets.specs.declared.bucket.BucketKind.TheVariants.{Uniform, List as Listed, Tree, Straw2}
use Rattle.crush.specs.declared.step.Mode.{Mode}
use Rattle.crush.specs.declared.step.Mode.TheVariants.{Firstn, Indep}
use Rattle.crush.specs.declared.step.RuleKind.{RuleKind}
use Rattle.crush.specs.declared.step.RuleKind.TheVariants.{Replicated, Erasure}
use Rattle.mapparts.specs.declared.parts.MapParts.{MapParts}
use Rattle.mapparts.specs.declared.parts.BucketPart.{BucketPart}
use Rattle.mapparts.specs.declared.parts.ItemPart.{ItemPart}
use Rattle.mapparts.specs.declared.parts.RulePart.{RulePart}
use Rattle.mapparts.specs.declared.parts.StepPart.{StepPart}
use Rattle.mapparts.specs.declared.parts.StepPart.TheVariants.{SetChooseTries, SetChooseleafTries, SetChooseleafVaryR, SetChooseleafStable, Take, Choose, Emit}
use Rattle.mapparts.specs.declared.parts.PoolPart.{PoolPart}
use Rattle.mapparts.specs.declared.parts.OsdPart.{OsdPart}
use Rattle.mapparts.specs.declared.parts.ExceptionPart.{ExceptionPart}
use Rattle.mapparts.specs.declared.parts.PairPart.{PairPart}
use Rattle.maptypes.specs.Values.{pg_of}
use Rattle.mapparts.specs.declared.pg_parts.PgParts.{PgParts}
use Rattle.mapparts.specs.PgText.{parts_in}
use Rattle.maptypes.specs.GroupText.{group_text}
use Rattle.osdmap.specs.Maps.{ClusterMap}
use Rattle.osdmap.specs.PartsOf.{parts_of}

-- ---- values

-- a whole number
abbrev pub number_data : ℤ → Data
number_data z = number (of_integer z)

-- a list of values
abbrev pub list_of : List Data → Data
list_of ds = array (items_of ds)

-- a list, by what is written of each entry
abbrev pub list_data : {X : Type 0} → (X → Data) → List X → Data
list_data entry xs = list_of (map entry xs)

-- the members of an object
abbrev pub members : List (List ℕ × Data) → Members
members [] = no_members
members (m ∷ ms) = member m.0 m.1 (members ms)

-- an object; its keys stand in byte order
abbrev pub object_of : List (List ℕ × Data) → Data
object_of ms = object (members ms)

-- ---- the forest

-- how a bucket picks, as a word
abbrev pub kind_word : BucketKind → List ℕ
kind_word Uniform = codes "uniform"
kind_word Listed = codes "list"
kind_word Tree = codes "tree"
kind_word Straw2 = codes "straw2"

-- an item: [item, weight]
abbrev pub item_data : ItemPart → Data
item_data i = list_data number_data (i.id ∷ i.weight ∷ [])

-- a bucket, its keys in order
unfoldable pub bucket_data : BucketPart → Data
bucket_data b = object_of (
    (codes "id", number_data b.id)
    ∷ (codes "items", list_data item_data b.items)
    ∷ (codes "kind", string (kind_word b.kind))
    ∷ (codes "type", number_data b.level)
    ∷ [])

-- ---- rules

-- what a rule or a pool is for, as a word
abbrev pub use_word : RuleKind → List ℕ
use_word Replicated = codes "replicated"
use_word Erasure = codes "erasure"

-- the word of a choose step, by its mode and whether a device is taken below
abbrev pub choose_word : Mode → Bool → List ℕ
choose_word Firstn false = codes "choose_firstn"
choose_word Indep false = codes "choose_indep"
choose_word Firstn true = codes "chooseleaf_firstn"
choose_word Indep true = codes "chooseleaf_indep"

-- a step: ["take", bucket], [word, count, type] or ["emit"]
unfoldable pub step_data : StepPart → Data
step_data (SetChooseTries tries) = list_of (string (codes "set_choose_tries") ∷ number_data tries ∷ [])
step_data (SetChooseleafTries tries) = list_of (string (codes "set_chooseleaf_tries") ∷ number_data tries ∷ [])
step_data (SetChooseleafVaryR vary) = list_of (string (codes "set_chooseleaf_vary_r") ∷ number_data vary ∷ [])
step_data (SetChooseleafStable stable) = list_of (string (codes "set_chooseleaf_stable") ∷ number_data stable ∷ [])
step_data (Take id) = list_of (string (codes "take") ∷ number_data id ∷ [])
step_data (Choose c) = list_of (string (choose_word c.mode c.to_leaf) ∷ number_data c.count ∷ number_data c.level ∷ [])
step_data Emit = list_of (string (codes "emit") ∷ [])

-- a rule, its keys in order
unfoldable pub rule_data : RulePart → Data
rule_data r = object_of (
    (codes "id", number_data r.id)
    ∷ (codes "kind", string (use_word r.kind))
    ∷ (codes "steps", list_data step_data r.steps)
    ∷ [])

-- ---- pools and OSDs

-- a pool, its keys in order
unfoldable pub pool_data : PoolPart → Data
pool_data p = object_of (
    (codes "id", number_data p.id)
    ∷ (codes "kind", string (use_word p.kind))
    ∷ (codes "pg_num", number_data p.pg_num)
    ∷ (codes "pgp_num", number_data p.pgp_num)
    ∷ (codes "rule", number_data p.rule)
    ∷ (codes "size", number_data p.size)
    ∷ [])

-- an OSD, its keys in order
unfoldable pub osd_data : OsdPart → Data
osd_data o = object_of (
    (codes "exists", boolean o.exists)
    ∷ (codes "id", number_data o.id)
    ∷ (codes "up", boolean o.up)
    ∷ (codes "weight", number_data o.weight)
    ∷ [])

-- ---- exceptions

-- a group
abbrev pub group_data : PgParts → Data
group_data g = string (group_text (pg_of g))

-- the text of a group states that group
abbrev pub IsNamed : PgParts → Type 0
IsNamed g = parts_in (group_text (pg_of g)) ≡ Some g

-- the same of the group of each of some exceptions
abbrev pub AreNamed : {X : Type 0} → List (ExceptionPart X) → Type 0
AreNamed es = All (λ e. IsNamed e.pg) es

-- a pair: [from, to]
abbrev pub pair_data : PairPart → Data
pair_data p = list_data number_data (p.from ∷ p.to ∷ [])

-- an exception: [group, [entry, ..]], by what is written of an entry
unfoldable pub exception_data : {X : Type 0} → (X → Data) → ExceptionPart X → Data
exception_data entry e = list_of (group_data e.pg ∷ list_data entry e.entries ∷ [])

-- ---- the map

-- a map, its keys in order
unfoldable pub map_data : MapParts → Data
map_data p = object_of (
    (codes "buckets", list_data bucket_data p.buckets)
    ∷ (codes "epoch", number_data p.epoch)
    ∷ (codes "max_osd", number_data p.max_osd)
    ∷ (codes "osds", list_data osd_data p.osds)
    ∷ (codes "pg_upmap", list_data (exception_data number_data) p.pg_upmap)
    ∷ (codes "pg_upmap_items", list_data (exception_data pair_data) p.pg_upmap_items)
    ∷ (codes "pools", list_data pool_data p.pools)
    ∷ (codes "rules", list_data rule_data p.rules)
    ∷ (codes "version", number_data p.version)
    ∷ [])

-- the text of a map: its buckets by id downwards, its rules, pools and OSDs by id upwards, and its exceptions by group
-- upwards
unfoldable pub written : ClusterMap → List ℕ
written m = compact_text (map_data (parts_of m))
