-- What is written of a map nests five deep at most.
use Rattle.std.proofs.Common.{ℕ, suc, ◌≤◌, ℤ, List, [], ◌∷◌, arith}
use Rattle.serde_json.specs.Data.{Data, depth}
use Rattle.mapparts.specs.declared.parts.MapParts.{MapParts}
use Rattle.mapparts.specs.declared.parts.BucketPart.{BucketPart}
use Rattle.mapparts.specs.declared.parts.ItemPart.{ItemPart}
use Rattle.mapparts.specs.declared.parts.RulePart.{RulePart}
use Rattle.mapparts.specs.declared.parts.StepPart.{StepPart}
use Rattle.mapparts.specs.declared.parts.StepPart.TheVariants.{SetChooseTries, SetChooseleafTries, SetChooseleafVaryR, SetChooseleafStable, Take, Choose, Emit}
use Rattle.mapparts.specs.declared.parts.PoolPart.{PoolPart}
use Rattle.mapparts.specs.declared.parts.OsdPart.{OsdPart}
use Rattle.mapparts.specs.declared.parts.ExceptionPart.{ExceptionPart}
use Rattle.mapparts.specs.declared.parts.PairPart.{PairPart}
use Rattle.mapjson.specs.Written.{number_data, list_data, item_data, bucket_data, step_data, rule_data, pool_data, osd_data, pair_data, exception_data, map_data}

-- a list nests one level more than its entries
pub list_flat : {X : Type 0} (n : ℕ) (entry : X → Data) → ((x : X) → depth (entry x) ≤ n) → (xs : List X) → depth (list_data entry xs) ≤ suc n
list_flat n entry h [] = omega arith
list_flat n entry h (x ∷ xs) = omega (arith, h x, list_flat n entry h xs)

-- an item nests one level
item_flat : (i : ItemPart) → depth (item_data i) ≤ 1
item_flat i = omega arith

-- a bucket nests three levels
pub bucket_flat : (b : BucketPart) → depth (bucket_data b) ≤ 3
unfolding bucket_data
bucket_flat b = omega (arith, list_flat 1 item_data item_flat b.items)

-- a step nests one level
step_flat : (s : StepPart) → depth (step_data s) ≤ 1
unfolding step_data
step_flat (SetChooseTries tries) = omega arith
step_flat (SetChooseleafTries tries) = omega arith
step_flat (SetChooseleafVaryR tries) = omega arith
step_flat (SetChooseleafStable tries) = omega arith
step_flat (Take id) = omega arith
step_flat (Choose c) = omega arith
step_flat Emit = omega arith

-- a rule nests three levels at most
pub rule_flat : (r : RulePart) → depth (rule_data r) ≤ 3
unfolding rule_data
rule_flat r = omega (arith, list_flat 1 step_data step_flat r.steps)

-- a pool nests one level
pub pool_flat : (p : PoolPart) → depth (pool_data p) ≤ 1
unfolding pool_data
pool_flat p = omega arith

-- an OSD nests one level
osd_flat : (o : OsdPart) → depth (osd_data o) ≤ 1
unfolding osd_data
osd_flat o = omega arith

-- a number nests no level
pub number_flat : (z : ℤ) → depth (number_data z) ≤ 0
number_flat z = omega arith

-- a pair nests one level
pub pair_flat : (p : PairPart) → depth (pair_data p) ≤ 1
pair_flat p = omega arith

-- an exception nests two levels more than its entries
pub exception_flat : {X : Type 0} (n : ℕ) (entry : X → Data) → ((x : X) → depth (entry x) ≤ n) → (e : ExceptionPart X) → depth (exception_data entry e) ≤ suc (suc n)
unfolding exception_data
exception_flat n entry h e = omega (arith, list_flat n entry h e.entries)

-- the parts of a map nest five levels, so that their text reads back
pub map_flat : (p : MapParts) → depth (map_data p) ≤ 5
unfolding map_data
map_flat p = omega (
  arith,
  list_flat 3 bucket_data bucket_flat p.buckets,
  list_flat 1 osd_data osd_flat p.osds,
  list_flat 2 (exception_data number_data) (exception_flat 0 number_data number_flat) p.pg_upmap,
  list_flat 3 (exception_data pair_data) (exception_flat 1 pair_data pair_flat) p.pg_upmap_items,
  list_flat 1 pool_data pool_flat p.pools,
  list_flat 3 rule_data rule_flat p.rules,
)
