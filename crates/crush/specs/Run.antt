-- The run of a rule (CRUSH paper, algorithm 1; Ceph, mapper.c, crush_do_rule).
use Rattle.std.specs.Prelude.{ℕ, ◌+◌, ◌-◌, ◌^◌, Bool, true, false, ℤ, List, [], ◌∷◌, ◌++◌, length, map, take, min, ◌==◌, Option, Some, None, is_some, if◌then◌else◌}
use Rattle.std.specs.List.{fold, count_by}
use Rattle.buckets.specs.declared.bucket.Bucket.{Bucket}
use Rattle.crush.specs.declared.choose.Tries.{Tries}
use Rattle.crush.specs.declared.step.Choose.{Choose}
use Rattle.crush.specs.declared.step.Mode.{Mode}
use Rattle.crush.specs.declared.step.Mode.TheVariants.{Firstn, Indep}
use Rattle.crush.specs.declared.step.Step.{Step}
use Rattle.crush.specs.declared.step.Step.TheVariants.{SetChooseTries, SetChooseleafTries, SetChooseleafVaryR, SetChooseleafStable, Take, Choose as Chooses, Emit}
use Rattle.crush.specs.Choosing.{Choosing}
use Rattle.crush.specs.Forest.{bucket_at}
use Rattle.crush.specs.World.{World}
use Rattle.crush.specs.Firstn.{firstn}
use Rattle.crush.specs.Indep.{indep, leaf_at}

-- what a choose step gives below one bucket, with room for so many places
abbrev pub segment_by : Mode → Choosing → Bucket → ℕ → List (Option ℤ)
segment_by Firstn k b room = map (λ e. Some e.leaf) (firstn k b room)
segment_by Indep k b room = map leaf_at (indep k b (min k.numrep room))

-- what a choose step gives below one bucket, by the mode of the step
unfoldable pub segment_of : Choosing → Bucket → ℕ → List (Option ℤ)
segment_of k b room = segment_by k.choose.mode k b room

-- a bucket of the working list adds its segment, with the room that is left of the size
abbrev pub after_bucket : Choosing → ℕ → List (Option ℤ) → Option Bucket → List (Option ℤ)
after_bucket k size found None = found
after_bucket k size found (Some b) = found ++ segment_of k b (size - length found)

-- devices and holes of the working list are passed over
abbrev pub after_entry : Choosing → ℕ → List (Option ℤ) → Option ℤ → List (Option ℤ)
after_entry k size found None = found
after_entry k size found (Some item) = after_bucket k size found (bucket_at k.world.buckets item)

-- what a choose step makes of the working list: a segment for each bucket
abbrev pub chosen_from : Choosing → ℕ → List (Option ℤ) → List (Option ℤ)
chosen_from k size working = fold (after_entry k size) [] working

-- how many items a choose step seeks below a bucket in a pool of this size: a count of 0 is the size
abbrev pub numrep_of : Choose → ℕ → ℕ
numrep_of c size = if c.count == 0 then size else c.count

-- what a choose step of a rule goes by
abbrev pub choosing_of : World → ℕ → Tries → Choose → Choosing
choosing_of w size tries c = record { world = w; choose = c; tries = tries; numrep = numrep_of c size }

-- what the steps of a rule have come to: how often the next choose steps try, what they work on, and what was emitted
pub record Progress : Type 0 where
  pub tries : Tries
  pub working : List (Option ℤ)
  pub emitted : List (Option ℤ)

-- before the first step, as the tunables called jewel have it: 50 tries after the first one (Ceph's
-- choose_total_tries), one for a leaf (chooseleaf_descend_once), which is sought from the replica number of its bucket
-- on (chooseleaf_vary_r 1), however many items are chosen (chooseleaf_stable 1)
abbrev pub no_progress : Progress
no_progress = record { tries = record { total = 51; leaf = 1; vary = 1; stable = 1 }; working = []; emitted = [] }

-- a step that sets tries holds for all choose steps up to the next of its kind; take sets the working list, a choose
-- step makes a new one of it, emit appends it to the result, cut at the size
unfoldable pub after_step : World → ℕ → Progress → Step → Progress
after_step w size s (SetChooseTries n) = record s { tries = record s.tries { total = n } }
after_step w size s (SetChooseleafTries n) = record s { tries = record s.tries { leaf = n } }
after_step w size s (SetChooseleafVaryR n) = record s { tries = record s.tries { vary = n } }
after_step w size s (SetChooseleafStable n) = record s { tries = record s.tries { stable = n } }
after_step w size s (Take id) = record s { working = Some id ∷ [] }
after_step w size s (Chooses c) = record s { working = chosen_from (choosing_of w size s.tries c) size s.working }
after_step w size s Emit = record s { working = []; emitted = take size (s.emitted ++ s.working) }

-- whether an entry of a working list is a bucket, below which a choose step chooses
abbrev pub is_start : World → Option ℤ → Bool
is_start w None = false
is_start w (Some item) = is_some (bucket_at w.buckets item)

-- how many buckets a step chooses below
unfoldable pub searches_by : World → Progress → Step → ℕ
searches_by w s (SetChooseTries _) = 0
searches_by w s (SetChooseleafTries _) = 0
searches_by w s (SetChooseleafVaryR _) = 0
searches_by w s (SetChooseleafStable _) = 0
searches_by w s (Take _) = 0
searches_by w s (Chooses c) = count_by (is_start w) s.working
searches_by w s Emit = 0

-- how many buckets some steps choose below, from there on
abbrev pub searches_from : World → ℕ → Progress → List Step → ℕ
searches_from w size s [] = 0
searches_from w size s (step ∷ steps) = searches_by w s step + searches_from w size (after_step w size s step) steps

-- how many buckets the run of a rule chooses below
abbrev pub searches_of : World → List Step → ℕ → ℕ
searches_of w steps size = searches_from w size no_progress steps

-- the places that the steps of a rule give in a pool of this size
unfoldable pub run_of : World → List Step → ℕ → List (Option ℤ)
run_of w steps size = (fold (after_step w size) no_progress steps).emitted

-- whether a step is a choose step
abbrev pub is_choose : Step → Bool
is_choose (SetChooseTries _) = false
is_choose (SetChooseleafTries _) = false
is_choose (SetChooseleafVaryR _) = false
is_choose (SetChooseleafStable _) = false
is_choose (Take _) = false
is_choose (Chooses _) = true
is_choose Emit = false

-- how many of some steps are choose steps
abbrev pub count_choose : List Step → ℕ
count_choose steps = count_by is_choose steps

-- a count of choose steps after one more step; it stays at the greatest number
abbrev pub counted_with : Step → ℕ → ℕ
counted_with step n = if is_choose step then min (n + 1) (2 ^ 64 - 1) else n

-- what is known of a Work: what its last run left, and how many runs and choose steps there were
pub record Ran : Type 0 where
  pub result : List (Option ℤ)
  pub runs : ℕ
  pub choose_steps : ℕ
  pub name : ℕ
  pub searches : ℕ
