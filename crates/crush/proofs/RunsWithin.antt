-- two lists of reweights that agree on the devices of a set place alike within it: the run of a rule
use Rattle.std.proofs.Common.{◌≡◌, ℕ, ◌-◌, ℤ, List, [], ◌∷◌, ◌++◌, length, map, min, Option, Some, None, ap, refl, ◌∙◌, arith}
use Rattle.std.specs.List.{All, fold}
use Rattle.std.proofs.lemmas.List.Elements.{All-head, All-tail, All-cons, All-append, All-map, All-weaker}
use Rattle.buckets.specs.declared.bucket.Bucket.{Bucket}
use Rattle.crush.specs.declared.choose.Choice.{Choice}
use Rattle.crush.specs.declared.choose.Position.{Position}
use Rattle.crush.specs.declared.choose.Position.TheVariants.{Open, Hole, Filled}
use Rattle.crush.specs.declared.choose.Tries.{Tries}
use Rattle.crush.specs.declared.step.Mode.{Mode}
use Rattle.crush.specs.declared.step.Mode.TheVariants.{Firstn, Indep}
use Rattle.crush.specs.declared.step.Step.{Step}
use Rattle.crush.specs.declared.step.Step.TheVariants.{SetChooseTries, SetChooseleafTries, SetChooseleafVaryR, SetChooseleafStable, Take, Choose as Chooses, Emit}
use Rattle.crush.specs.Choosing.{Choosing}
use Rattle.crush.specs.Forest.{bucket_at}
use Rattle.crush.specs.World.{World}
use Rattle.crush.specs.Firstn.{firstn}
use Rattle.crush.specs.Indep.{indep, leaf_at}
use Rattle.crush.specs.Run.{segment_by, segment_of, after_bucket, after_entry, choosing_of, Progress, no_progress, after_step, run_of}
use Rattle.crush.proofs.DescentsWithin.{other, HasIn, AreAlike}
use Rattle.crush.proofs.ChoicesWithin.{other_step, LeadsIn, leads_in, firstn_same, firstn_in, HoldsIn, indep_same, indep_in}

-- an entry that names nothing outside the set
abbrev pub IsIn : (ℤ → Type 0) → Option ℤ → Type 0
IsIn R None = Unit {0}
IsIn R (Some item) = R item

-- a step that takes nothing outside the set
abbrev pub TakesIn : (ℤ → Type 0) → Step → Type 0
TakesIn R (SetChooseTries n) = Unit {0}
TakesIn R (SetChooseleafTries n) = Unit {0}
TakesIn R (SetChooseleafVaryR n) = Unit {0}
TakesIn R (SetChooseleafStable n) = Unit {0}
TakesIn R (Take id) = R id
TakesIn R (Chooses c) = Unit {0}
TakesIn R Emit = Unit {0}

-- the segment below a bucket
segment_by_same : (R : ℤ → Type 0) (mode : Mode) (k : Choosing) (vs : List ℕ) (b : Bucket) (room : ℕ) → AreAlike R k.world vs → HasIn R k.world.buckets b → segment_by mode k b room ≡ segment_by mode (other_step k vs) b room
segment_by_same R Firstn k vs b room s h = ap (map (λ (e : Choice). Some e.leaf)) (firstn_same R k vs b room s h)
segment_by_same R Indep k vs b room s h = ap (map leaf_at) (indep_same R k vs b (min k.numrep room) s h)

-- the device of a position that holds nothing outside the set
leaf_is_in : (R : ℤ → Type 0) (p : Position) → HoldsIn R p → IsIn R (leaf_at p)
leaf_is_in R Open h = tt
leaf_is_in R Hole h = tt
leaf_is_in R (Filled e) h = h

-- the segment below a bucket is in the set of what its items lead to
pub segment_by_in : (D : ℤ → Type 0) (mode : Mode) (k : Choosing) (b : Bucket) (room : ℕ) → LeadsIn D k b → All (IsIn D) (segment_by mode k b room)
segment_by_in D Firstn k b room s = All-map (IsIn D) (λ (e : Choice). Some e.leaf) (firstn k b room) (firstn_in D k b room s)
segment_by_in D Indep k b room s =
    let ps = indep k b (min k.numrep room) in
    All-map (IsIn D) leaf_at ps (All-weaker (HoldsIn D) (λ p. IsIn D (leaf_at p)) (leaf_is_in D) ps (indep_in D k b (min k.numrep room) s))

-- an entry of the working list
bucket_same : (R : ℤ → Type 0) (k : Choosing) (vs : List ℕ) (size : ℕ) (found : List (Option ℤ)) (o : Option Bucket) → AreAlike R k.world vs → ((b : Bucket) → o ≡ Some b → HasIn R k.world.buckets b) → after_bucket k size found o ≡ after_bucket (other_step k vs) size found o
unfolding segment_of
bucket_same R k vs size found None s h = refl
bucket_same R k vs size found (Some b) s h = ap (λ ys. found ++ ys) (segment_by_same R k.choose.mode k vs b (size - length found) s (h b refl))

-- so is what a bucket of the working list adds
pub bucket_in : (D : ℤ → Type 0) (k : Choosing) (size : ℕ) (found : List (Option ℤ)) (o : Option Bucket) → ((b : Bucket) → o ≡ Some b → LeadsIn D k b) → All (IsIn D) found → All (IsIn D) (after_bucket k size found o)
unfolding segment_of
bucket_in D k size found None s all = all
bucket_in D k size found (Some b) s all = All-append (IsIn D) found _ all (segment_by_in D k.choose.mode k b (size - length found) (s b refl))

-- an entry adds the same
entry_same : (R : ℤ → Type 0) (k : Choosing) (vs : List ℕ) (size : ℕ) (found : List (Option ℤ)) (entry : Option ℤ) → AreAlike R k.world vs → IsIn R entry → after_entry k size found entry ≡ after_entry (other_step k vs) size found entry
entry_same R k vs size found None s holds = refl
entry_same R k vs size found (Some item) s holds = bucket_same R k vs size found (bucket_at k.world.buckets item) s (λ b is. s.below item b holds is)

-- and nothing outside the set
entry_in : (R : ℤ → Type 0) (k : Choosing) (vs : List ℕ) (size : ℕ) (found : List (Option ℤ)) (entry : Option ℤ) → AreAlike R k.world vs → IsIn R entry → All (IsIn R) found → All (IsIn R) (after_entry k size found entry)
entry_in R k vs size found None s holds all = all
entry_in R k vs size found (Some item) s holds all = bucket_in R k size found (bucket_at k.world.buckets item) (λ b is. leads_in R k vs b s (s.below item b holds is)) all

-- the working list
working_same : (R : ℤ → Type 0) (k : Choosing) (vs : List ℕ) (size : ℕ) (found working : List (Option ℤ)) → AreAlike R k.world vs → All (IsIn R) working → fold (after_entry k size) found working ≡ fold (after_entry (other_step k vs) size) found working
working_same R k vs size found [] s all = refl
working_same R k vs size found (entry ∷ working) s all =
    ap (λ ys. fold (after_entry k size) ys working) (entry_same R k vs size found entry s (All-head (IsIn R) entry working all))
    ∙ working_same R k vs size (after_entry (other_step k vs) size found entry) working s (All-tail (IsIn R) entry working all)

-- and nothing outside the set
working_in : (R : ℤ → Type 0) (k : Choosing) (vs : List ℕ) (size : ℕ) (found working : List (Option ℤ)) → AreAlike R k.world vs → All (IsIn R) working → All (IsIn R) found → All (IsIn R) (fold (after_entry k size) found working)
working_in R k vs size found [] s all holds = holds
working_in R k vs size found (entry ∷ working) s all holds =
    working_in R k vs size (after_entry k size found entry) working s (All-tail (IsIn R) entry working all) (entry_in R k vs size found entry s (All-head (IsIn R) entry working all) holds)

-- an empty working list
pub nothing : (R : ℤ → Type 0) → All (IsIn R) []
nothing R k d within = absurd (omega arith)

-- what the steps have come to
progress_of : Tries → List (Option ℤ) → List (Option ℤ) → Progress
progress_of tries working emitted = record { tries = tries; working = working; emitted = emitted }

-- one step
step_same : (R : ℤ → Type 0) (w : World) (vs : List ℕ) (size : ℕ) (p : Progress) (step : Step) → AreAlike R w vs → All (IsIn R) p.working → after_step w size p step ≡ after_step (other w vs) size p step
unfolding after_step progress_of
step_same R w vs size p (SetChooseTries n) s all = refl
step_same R w vs size p (SetChooseleafTries n) s all = refl
step_same R w vs size p (SetChooseleafVaryR n) s all = refl
step_same R w vs size p (SetChooseleafStable n) s all = refl
step_same R w vs size p (Take id) s all = refl
step_same R w vs size p (Chooses c) s all = ap (λ ys. progress_of p.tries ys p.emitted) (working_same R (choosing_of w size p.tries c) vs size [] p.working s all)
step_same R w vs size p Emit s all = refl

-- and it works on nothing outside the set
pub step_in : (R : ℤ → Type 0) (w : World) (vs : List ℕ) (size : ℕ) (p : Progress) (step : Step) → AreAlike R w vs → TakesIn R step → All (IsIn R) p.working → All (IsIn R) (after_step w size p step).working
unfolding after_step
step_in R w vs size p (SetChooseTries n) s takes all = all
step_in R w vs size p (SetChooseleafTries n) s takes all = all
step_in R w vs size p (SetChooseleafVaryR n) s takes all = all
step_in R w vs size p (SetChooseleafStable n) s takes all = all
step_in R w vs size p (Take id) s takes all = All-cons (IsIn R) (Some id) [] takes (nothing R)
step_in R w vs size p (Chooses c) s takes all = working_in R (choosing_of w size p.tries c) vs size [] p.working s all (nothing R)
step_in R w vs size p Emit s takes all = nothing R

-- the steps one after another
steps_same : (R : ℤ → Type 0) (w : World) (vs : List ℕ) (size : ℕ) (p : Progress) (steps : List Step) → AreAlike R w vs → All (TakesIn R) steps → All (IsIn R) p.working → fold (after_step w size) p steps ≡ fold (after_step (other w vs) size) p steps
steps_same R w vs size p [] s takes all = refl
steps_same R w vs size p (step ∷ steps) s takes all =
    let next = step_in R w vs size p step s (All-head (TakesIn R) step steps takes) all in
    steps_same R w vs size (after_step w size p step) steps s (All-tail (TakesIn R) step steps takes) next
    ∙ ap (λ q. fold (after_step (other w vs) size) q steps) (step_same R w vs size p step s all)

-- a rule whose takes are in the set gives the same under both lists
pub run_same : (R : ℤ → Type 0) (w : World) (vs : List ℕ) (steps : List Step) (size : ℕ) → AreAlike R w vs → All (TakesIn R) steps → run_of w steps size ≡ run_of (other w vs) steps size
unfolding run_of
run_same R w vs steps size s takes = ap (λ p. p.emitted) (steps_same R w vs size no_progress steps s takes (nothing R))
