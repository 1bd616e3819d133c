-- What a rule places by, and what it places: the devices that it reaches.
use Rattle.std.proofs.Common.{ℕ, ℤ, pos, List, [], ◌∷◌, ◌++◌, Some, refl}
use Rattle.std.specs.List.{All, fold}
use Rattle.std.proofs.lemmas.List.Elements.{All-head, All-tail, All-append, All-take, All-contains}
use Rattle.crush.specs.declared.step.Step.{Step}
use Rattle.crush.specs.declared.step.Step.TheVariants.{SetChooseTries, SetChooseleafTries, SetChooseleafVaryR, SetChooseleafStable, Take, Choose as Chooses, Emit}
use Rattle.crush.specs.Run.{Progress, no_progress, after_step, run_of}
use Rattle.crush.specs.World.{World, world_of}
use Rattle.crush.proofs.DescentsWithin.{AreAlike}
use Rattle.crush.proofs.ReadsReached as crush
use Rattle.crush.proofs.RunsWithin.{IsIn, TakesIn, nothing, step_in}
use Rattle.crush_laws.specs.Runs.{RunPlacesReached, RunReadsReached}

-- a step emits nothing outside the set
emitted_in : (R : ℤ → Type 0) (w : World) (size : ℕ) (p : Progress) (step : Step) → All (IsIn R) p.working → All (IsIn R) p.emitted → All (IsIn R) (after_step w size p step).emitted
unfolding after_step
emitted_in R w size p (SetChooseTries n) all out = out
emitted_in R w size p (SetChooseleafTries n) all out = out
emitted_in R w size p (SetChooseleafVaryR n) all out = out
emitted_in R w size p (SetChooseleafStable n) all out = out
emitted_in R w size p (Take id) all out = out
emitted_in R w size p (Chooses c) all out = out
emitted_in R w size p Emit all out = All-take (IsIn R) size (p.emitted ++ p.working) (All-append (IsIn R) p.emitted p.working out all)

-- nor do the steps one after another
steps_in : (R : ℤ → Type 0) (w : World) (vs : List ℕ) (size : ℕ) (p : Progress) (steps : List Step) → AreAlike R w vs → All (TakesIn R) steps → All (IsIn R) p.working → All (IsIn R) p.emitted → All (IsIn R) (fold (after_step w size) p steps).emitted
steps_in R w vs size p [] s takes all out = out
steps_in R w vs size p (step ∷ steps) s takes all out =
    let next = step_in R w vs size p step s (All-head (TakesIn R) step steps takes) all in
    steps_in R w vs size (after_step w size p step) steps s (All-tail (TakesIn R) step steps takes) next (emitted_in R w size p step all out)

-- and places nothing outside the set
pub run_in : (R : ℤ → Type 0) (w : World) (vs : List ℕ) (steps : List Step) (size : ℕ) → AreAlike R w vs → All (TakesIn R) steps → All (IsIn R) (run_of w steps size)
unfolding run_of
run_in R w vs steps size s takes = steps_in R w vs size no_progress steps s takes (nothing R) (nothing R)

-- the law: a rule reads no reweight but those of what it reaches
pub run_reads_reached : RunReadsReached
run_reads_reached = crush.run_reads_reached

-- and places nothing else
pub run_places_reached : RunPlacesReached
run_places_reached buckets kind steps weights x size forest lawful osd there =
    let all = run_in (crush.IsHeld buckets steps) (world_of buckets weights x) weights steps size (crush.held_alike buckets kind steps weights weights x forest lawful (λ osd h. refl)) (crush.takes_held buckets steps) in
    crush.held_reached buckets kind steps osd forest lawful (All-contains (IsIn (crush.IsHeld buckets steps)) (run_of (world_of buckets weights x) steps size) (Some (pos osd)) all there)
