-- Values of a map are those that their own parts state.
use Rattle.std.proofs.Common.{◌≡◌, ℕ, ◌≤◌, pos, nat_abs, true, List, [], ◌∷◌, map, refl, arith}
use Rattle.std.proofs.lemmas.Bool.Decides.{nat_tests}
use Rattle.buckets.specs.declared.bucket.Bucket.{Bucket}
use Rattle.buckets.specs.declared.bucket.Item.{Item}
use Rattle.crush.specs.declared.step.Step.{Step as RuleStep}
use Rattle.crush.specs.declared.step.Step.TheVariants as step
use Rattle.mapparts.specs.Parts.{is_between}
use Rattle.maptypes.specs.declared.exception.Exception.{Exception}
use Rattle.maptypes.specs.declared.exception.Pair.{Pair}
use Rattle.maptypes.specs.declared.rules.NumberedRule.{NumberedRule}
use Rattle.maptypes.specs.Pools.{PoolFacts}
use Rattle.maptypes.specs.Values.{item_of, bucket_of, step_of, pool_of, pair_of, exception_of, rule_of}
use Rattle.osdmap.specs.PartsOf.{item_part, bucket_part, step_part, rule_part, pool_part, pair_part, exception_part}

-- a natural number between two limits is, as a stated one
pub natural_fits : (low high n : ℕ) → low ≤ n → n ≤ high → is_between (pos low) (pos high) (pos n) ≡ true
unfolding is_between
natural_fits low high n least most = grind (arith, nat_tests, least, most)

-- what is stated entry by entry is read back so
pub map_own : {X Y : Type 0} (f : Y → X) (g : X → Y) → ((x : X) → f (g x) ≡ x) → (xs : List X) → map f (map g xs) ≡ xs
map_own f g own [] = refl
map_own f g own (x ∷ xs) = rw (own x, map_own f g own xs) refl

-- an item is the one that its part states
item_own : (i : Item) → item_of (item_part i) ≡ i
item_own i = refl

-- so is a bucket
pub bucket_own : (b : Bucket) → bucket_of (bucket_part b) ≡ b
bucket_own b = rw (map_own item_of item_part item_own b.items) refl

-- a step
pub step_own : (s : RuleStep) → step_of (step_part s) ≡ s
step_own (step.SetChooseTries n) = refl
step_own (step.SetChooseleafTries n) = refl
step_own (step.SetChooseleafVaryR n) = refl
step_own (step.SetChooseleafStable n) = refl
step_own (step.Take id) = refl
step_own (step.Choose c) = refl
step_own step.Emit = refl

-- a rule
pub rule_own : (r : NumberedRule) → rule_of (rule_part r) ≡ r
rule_own r = rw (map_own step_of step_part step_own r.rule.steps) refl

-- a pool
pub pool_own : (p : PoolFacts) → pool_of (pool_part p) ≡ p
pool_own p = refl

-- a number
pub number_own : (n : ℕ) → nat_abs (pos n) ≡ n
number_own n = refl

-- a pair
pub pair_own : (p : Pair) → pair_of (pair_part p) ≡ p
pair_own p = refl

-- and an exception
pub exception_own : {E P : Type 0} (entry_of : P → E) (entry_part : E → P) → ((e : E) → entry_of (entry_part e) ≡ e) → (e : Exception E) → exception_of entry_of (exception_part entry_part e) ≡ e
exception_own entry_of entry_part own e = rw (map_own entry_of entry_part own e.entries) refl
