-- What is written of the parts of a map states those parts.
use Rattle.std.proofs.Common.{All, ◌≡◌, suc, ℤ, pos, negsuc, Bool, true, false, List, [], ◌∷◌, Option, Some, refl, arith}
use Rattle.std.specs.Prelude.{⊤}
use Rattle.serde_json.specs.Data.{Data, string}
use Rattle.buckets.specs.declared.bucket.BucketKind.{BucketKind}
use Rattle.buckets.specs.declared.bucket.BucketKind.TheVariants.{Uniform, List as Listed, Tree, Straw2}
use Rattle.crush.specs.declared.step.Mode.{Mode}
use Rattle.crush.specs.declared.step.Mode.TheVariants.{Firstn, Indep}
use Rattle.crush.specs.declared.step.RuleKind.{RuleKind}
use Rattle.crush.specs.declared.step.RuleKind.TheVariants.{Replicated, Erasure}
use Rattle.mapparts.specs.declared.parts.MapParts.{MapParts}
use Rattle.mapparts.specs.declared.parts.BucketPart.{BucketPart}
use Rattle.mapparts.specs.declared.parts.ItemPart.{ItemPart}
use Rattle.mapparts.specs.declared.parts.RulePart.{RulePart}
use Rattle.mapparts.specs.declared.parts.StepPart.{StepPart}
use Rattle.mapparts.specs.declared.parts.StepPart.TheVariants.{SetChooseTries, SetChooseleafTries, SetChooseleafVaryR, SetChooseleafStable, Take, Choose, Emit}
use Rattle.mapparts.specs.declared.parts.PoolPart.{PoolPart}
use Rattle.mapparts.specs.declared.parts.OsdPart.{OsdPart}
use Rattle.mapparts.specs.declared.parts.ExceptionPart.{ExceptionPart}
use Rattle.mapparts.specs.declared.parts.PairPart.{PairPart}
use Rattle.jsonstream.specs.Json.{whole_number, stated_list}
use Rattle.partjson.specs.StatedMaps.{stated_item, bucket_kind_of, stated_bucket, rule_kind_of, stated_step, step_by, take_of, choose_of, emit_of, tries_of, leaf_tries_of, leaf_vary_of, leaf_stable_of, stated_rule, stated_pool, osd_of, stated_pair, stated_exception, map_of, in_its_version, stated_map}
use Rattle.mapjson.specs.Written.{number_data, list_data, item_data, kind_word, bucket_data, use_word, step_data, rule_data, pool_data, osd_data, IsNamed, AreNamed, pair_data, exception_data, map_data}

-- ---- values

-- a number reads back as itself
pub number_back : (z : ℤ) → whole_number (number_data z) ≡ Some z
number_back (pos n) = refl
number_back (negsuc n) = refl

-- a list of which each value is read back that has what P says
pub entries_back : {X : Type 0} (stated : Data → Option X) (entry : X → Data) (P : X → Type 0) → ((x : X) → P x → stated (entry x) ≡ Some x)
    → (xs : List X) → All P xs → stated_list stated (list_data entry xs) ≡ Some xs
entries_back stated entry P back [] all = refl
entries_back stated entry P back (x ∷ xs) all =
    rw (back x (all 0 x (omega arith)), entries_back stated entry P back xs (λ k d below. all (suc k) d (omega arith)))

-- a list reads back where each of its entries does
pub list_back : {X : Type 0} (stated : Data → Option X) (entry : X → Data) → ((x : X) → stated (entry x) ≡ Some x) → (xs : List X) → stated_list stated (list_data entry xs) ≡ Some xs
list_back stated entry back xs = entries_back stated entry (λ x. ⊤) (λ x h. back x) xs (λ k d below. tt)

-- ---- the forest

-- the word of a kind of bucket reads back as that kind
kind_back : (k : BucketKind) → bucket_kind_of (string (kind_word k)) ≡ Some k
kind_back Uniform = refl
kind_back Listed = refl
kind_back Tree = refl
kind_back Straw2 = refl

-- an item reads back as itself
item_back : (i : ItemPart) → stated_item (item_data i) ≡ Some i
unfolding stated_item
item_back i = rw (number_back i.id, number_back i.weight)

-- a bucket reads back as itself
pub bucket_back : (b : BucketPart) → stated_bucket (bucket_data b) ≡ Some b
unfolding stated_bucket bucket_data
bucket_back b = rw (number_back b.id, number_back b.level, kind_back b.kind, list_back stated_item item_data item_back b.items)

-- ---- rules

-- the word of what a rule is for reads back as that
use_back : (k : RuleKind) → rule_kind_of (string (use_word k)) ≡ Some k
use_back Replicated = refl
use_back Erasure = refl

-- a choose step reads back as itself
choose_back : (mode : Mode) (to_leaf : Bool) (count level : ℤ) → let c : StepPart = Choose (record { mode = mode; to_leaf = to_leaf; count = count; level = level }) in stated_step (step_data c) ≡ Some c
unfolding stated_step step_by take_of choose_of emit_of step_data
choose_back Firstn false count level = rw (number_back count, number_back level)
choose_back Indep false count level = rw (number_back count, number_back level)
choose_back Firstn true count level = rw (number_back count, number_back level)
choose_back Indep true count level = rw (number_back count, number_back level)

-- a step reads back as itself
step_back : (s : StepPart) → stated_step (step_data s) ≡ Some s
unfolding stated_step step_by take_of choose_of emit_of tries_of leaf_tries_of leaf_vary_of leaf_stable_of step_data
step_back (SetChooseTries tries) = rw (number_back tries)
step_back (SetChooseleafTries tries) = rw (number_back tries)
step_back (SetChooseleafVaryR tries) = rw (number_back tries)
step_back (SetChooseleafStable tries) = rw (number_back tries)
step_back (Take id) = rw (number_back id)
step_back (Choose c) = choose_back c.mode c.to_leaf c.count c.level
step_back Emit = refl

-- a rule reads back as itself
pub rule_back : (r : RulePart) → stated_rule (rule_data r) ≡ Some r
unfolding stated_rule rule_data
rule_back r = rw (number_back r.id, use_back r.kind, list_back stated_step step_data step_back r.steps)

-- ---- pools and OSDs

-- a pool reads back as itself
pub pool_back : (p : PoolPart) → stated_pool (pool_data p) ≡ Some p
unfolding stated_pool pool_data
pool_back p = rw (number_back p.id, use_back p.kind, number_back p.pg_num, number_back p.pgp_num, number_back p.rule, number_back p.size)

-- an OSD reads back as itself
osd_back : (o : OsdPart) → osd_of (osd_data o) ≡ Some o
unfolding osd_of osd_data
osd_back o = rw (number_back o.id, number_back o.weight)

-- ---- exceptions

-- a pair reads back as itself
pub pair_back : (p : PairPart) → stated_pair (pair_data p) ≡ Some p
unfolding stated_pair
pair_back p = rw (number_back p.from, number_back p.to)

-- an exception of a named group reads back where each of its entries does
exception_back : {X : Type 0} (stated : Data → Option X) (entry : X → Data) → ((x : X) → stated (entry x) ≡ Some x)
    → (e : ExceptionPart X) → IsNamed e.pg → stated_exception stated (exception_data entry e) ≡ Some e
unfolding stated_exception exception_data
exception_back stated entry back e named = rw (named, list_back stated entry back e.entries)

-- exceptions of named groups read back where each of their entries does
pub exceptions_back : {X : Type 0} (stated : Data → Option X) (entry : X → Data) → ((x : X) → stated (entry x) ≡ Some x)
    → (es : List (ExceptionPart X)) → AreNamed es → stated_list (stated_exception stated) (list_data (exception_data entry) es) ≡ Some es
exceptions_back stated entry back es named = entries_back (stated_exception stated) (exception_data entry) (λ e. IsNamed e.pg) (exception_back stated entry back) es named

-- ---- the map

-- the parts of a map read back as themselves, whatever the version
parts_back : (p : MapParts) → AreNamed p.pg_upmap → AreNamed p.pg_upmap_items → map_of (map_data p) ≡ Some p
unfolding map_of map_data
parts_back p explicit items = rw (
  number_back p.version,
  number_back p.epoch,
  number_back p.max_osd,
  list_back stated_bucket bucket_data bucket_back p.buckets,
  list_back stated_rule rule_data rule_back p.rules,
  list_back stated_pool pool_data pool_back p.pools,
  list_back osd_of osd_data osd_back p.osds,
  exceptions_back whole_number number_data number_back p.pg_upmap explicit,
  exceptions_back stated_pair pair_data pair_back p.pg_upmap_items items,
)

-- parts that set tries in version 2 alone
pub map_back : (p : MapParts) → AreNamed p.pg_upmap → AreNamed p.pg_upmap_items → in_its_version p ≡ Some p → stated_map (map_data p) ≡ Some p
unfolding stated_map
map_back p explicit items version = rw (parts_back p explicit items, version) refl
