-- How a Ceph monitor reads a rule where it looks whether a set may stand (Ceph 16.2, CrushWrapper.cc: verify_upmap).
use Rattle.std.specs.Prelude.{ℕ, suc, ◌*◌, ◌-◌, ◌==◌, Bool, false, not, ◌&&◌, ◌||◌, ℤ, pos, min, nat_le, take, drop, length, List, [], ◌∷◌, Option, Some, None, option_and_then, if◌then◌else◌}
use Rattle.std.specs.List.{list_any}
use Rattle.std.specs.Ordering.{int_eq}
use Rattle.buckets.specs.declared.bucket.Bucket.{Bucket}
use Rattle.crush.specs.declared.step.Choose.{Choose}
use Rattle.crush.specs.declared.step.Step.{Step}
use Rattle.crush.specs.declared.step.Step.TheVariants as step
use Rattle.crush.specs.Limits.{max_size}
use Rattle.crush.specs.Paths.{is_above, ancestor_of}
use Rattle.crush.specs.Run.{numrep_of}
use Rattle.maptypes.specs.Sets.{is_of}
use Rattle.upmap_cleanup.specs.declared.cause.Cause.{Cause}
use Rattle.upmap_cleanup.specs.declared.cause.Cause.TheVariants.{Crowded, Spread, Outside}
use Rattle.upmap_cleanup.specs.Causes.{first}

-- whether a step takes a bucket, or one above it
abbrev pub takes_at : List Bucket → ℤ → Step → Bool
takes_at buckets id (step.Take top) = int_eq top id || is_above buckets top id
takes_at buckets id (step.SetChooseTries _) = false
takes_at buckets id (step.SetChooseleafTries _) = false
takes_at buckets id (step.SetChooseleafVaryR _) = false
takes_at buckets id (step.SetChooseleafStable _) = false
takes_at buckets id (step.Choose _) = false
takes_at buckets id step.Emit = false

-- a bucket that a rule takes, or that stands below one that it takes
abbrev pub within_takes : List Bucket → List Step → ℤ → Option ℤ
within_takes buckets steps id = if list_any (takes_at buckets id) steps then Some id else None

-- the bucket of a type below which the OSD of a place stands (get_parent_of_type)
unfoldable pub holder : List Bucket → List Step → ℕ → Option ℕ → Option ℤ
holder buckets steps level None = None
holder buckets steps level (Some osd) =
    option_and_then (within_takes buckets steps) (ancestor_of buckets (pos osd) level)

-- whether two are the same bucket
abbrev pub is_same : Option ℤ → Option ℤ → Bool
is_same None other = false
is_same (Some a) None = false
is_same (Some a) (Some b) = int_eq a b

-- whether two places have different OSDs below one bucket of a type
unfoldable pub clash : List Bucket → List Step → ℕ → Option ℕ → Option ℕ → Bool
clash buckets steps level None other = false
clash buckets steps level (Some osd) other =
    not (is_of osd other) && is_same (holder buckets steps level (Some osd)) (holder buckets steps level other)

-- the first of some places whose OSD clashes with that of a place before them
unfoldable pub clash_with : List Bucket → List Step → ℕ → Option ℕ → List (Option ℕ) → Option ℕ
clash_with buckets steps level place [] = None
clash_with buckets steps level place (other ∷ others) =
    if clash buckets steps level place other then other else clash_with buckets steps level place others

-- two OSDs below one bucket of a type, by this step, where there is a second
abbrev pub crowd : ℕ → Option ℕ → Option ℕ → Option Cause
crowd step (Some one) (Some other) = Some (Crowded step one other)
crowd step (Some one) None = None
crowd step None other = None

-- the first two places that have different OSDs below one bucket of a type
unfoldable pub crowded : List Bucket → List Step → ℕ → ℕ → List (Option ℕ) → Option Cause
crowded buckets steps level step [] = None
crowded buckets steps level step (place ∷ rest) =
    first (crowd step place (clash_with buckets steps level place rest)) (crowded buckets steps level step rest)

-- whether a place stands below a bucket of a type below which none of the others does
abbrev pub is_new : List Bucket → List Step → ℕ → Option ℕ → List (Option ℕ) → Bool
is_new buckets steps level place others =
    is_same (holder buckets steps level place) (holder buckets steps level place)
    && not (list_any (λ other. is_same (holder buckets steps level place) (holder buckets steps level other)) others)

-- below how many buckets of a type some places stand
unfoldable pub spread : List Bucket → List Step → ℕ → List (Option ℕ) → ℕ
spread buckets steps level [] = 0
spread buckets steps level (place ∷ rest) =
    if is_new buckets steps level place rest then suc (spread buckets steps level rest)
    else spread buckets steps level rest

-- why a set may not stand by a choice, the step of this number: of leaves, as two OSDs stand below one bucket; else as
-- it stands below more buckets than the step chooses, whatever was chosen before it
unfoldable pub misfit : List Bucket → List Step → ℕ → List (Option ℕ) → ℕ → Choose → Option Cause
misfit buckets steps size places step c =
    if c.level == 0 then None
    else if c.to_leaf then crowded buckets steps c.level step places
    else if nat_le (spread buckets steps c.level places) (numrep_of c size) then None
    else Some (Spread step (spread buckets steps c.level places))

-- whether an OSD stands at a place, below a bucket
abbrev pub is_below : List Bucket → ℤ → Option ℕ → Bool
is_below buckets top None = false
is_below buckets top (Some osd) = is_above buckets top (pos osd)

-- the first of some places that has no OSD below a bucket, by the step of this number
abbrev pub outside : List Bucket → ℤ → ℕ → List (Option ℕ) → Option Cause
outside buckets top step [] = None
outside buckets top step (place ∷ places) =
    if is_below buckets top place then outside buckets top step places else Some (Outside step place)

-- how many places the next block has
abbrev pub block : ℕ → List (Option ℕ) → ℕ
block room places = min room (length places)

-- the number of the step with which the rest of a rule begins
abbrev pub number_of : List Step → List Step → ℕ
number_of steps rest = length steps - length rest

-- what is wrong with a set as a rule is read from a step on: what was taken last, for how many places was chosen since,
-- and the places that no block has had
unfoldable pub fault_from : List Bucket → List Step → ℕ → List (Option ℕ) → ℤ → ℕ → List (Option ℕ) → List Step
    → Option Cause
fault_from buckets steps size places top room rest [] = None
fault_from buckets steps size places top room rest (step.SetChooseTries _ ∷ others) =
    fault_from buckets steps size places top room rest others
fault_from buckets steps size places top room rest (step.SetChooseleafTries _ ∷ others) =
    fault_from buckets steps size places top room rest others
fault_from buckets steps size places top room rest (step.SetChooseleafVaryR _ ∷ others) =
    fault_from buckets steps size places top room rest others
fault_from buckets steps size places top room rest (step.SetChooseleafStable _ ∷ others) =
    fault_from buckets steps size places top room rest others
fault_from buckets steps size places top room rest (step.Take id ∷ others) =
    fault_from buckets steps size places id room rest others
fault_from buckets steps size places top room rest (step.Choose c ∷ others) =
    first (misfit buckets steps size places (number_of steps (step.Choose c ∷ others)) c)
    (fault_from buckets steps size places top (min (room * numrep_of c size) max_size) rest others)
fault_from buckets steps size places top room rest (step.Emit ∷ others) =
    first (outside buckets top (number_of steps (step.Emit ∷ others)) (take (block room rest) rest))
    (fault_from buckets steps size places top 1 (drop (block room rest) rest) others)

-- what a rule finds wrong with a set, in a pool of this size
abbrev pub rule_fault : List Bucket → List Step → ℕ → List (Option ℕ) → Option Cause
rule_fault buckets steps size places = fault_from buckets steps size places (pos 0) 1 places steps
