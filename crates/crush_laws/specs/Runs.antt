-- What the run of a rule places, and by which reweights.
use Rattle.std.specs.Prelude.{All, Option, None, ℤ, ◌≡◌, ◌≤◌, length, IsTrue, ℕ, List, pos, Some, slice_index, Contains}
use Rattle.buckets.specs.declared.bucket.Bucket.{Bucket}
use Rattle.crush.specs.declared.step.RuleKind.{RuleKind}
use Rattle.crush.specs.declared.step.Step.{Step}
use Rattle.crush.specs.World.{World, world_of}
use Rattle.crush.specs.Run.{run_of}
use Rattle.crush.specs.Grammar.{IsLawfulRule}
use Rattle.crush.specs.Paths.{reaches}
use Rattle.crush.specs.WellFormed.{IsForest}
use Rattle.crush_laws.specs.Forests.{IsDeviceNumber}

-- a rule places no more than the size of the pool
abbrev pub RunsFit : Type 0
RunsFit = (w : World) (steps : List Step) (size : ℕ) → length (run_of w steps size) ≤ size

-- a place has a device, or none
abbrev pub HoldsDevice : Option ℤ → Type 0
HoldsDevice None = Unit {0}
HoldsDevice (Some id) = IsDeviceNumber id

-- a rule places devices alone
abbrev pub RunPlacesDevices : Type 0
RunPlacesDevices = (buckets : List Bucket) (kind : RuleKind) (steps : List Step) (weights : List ℕ) (x size : ℕ) →
    IsForest buckets → IsLawfulRule kind steps → All HoldsDevice (run_of (world_of buckets weights x) steps size)

-- everything that a rule places is reached
abbrev pub RunPlacesReached : Type 0
RunPlacesReached = (buckets : List Bucket) (kind : RuleKind) (steps : List Step) (weights : List ℕ) (x size : ℕ) →
    IsForest buckets → IsLawfulRule kind steps →
    (osd : ℕ) → Contains (run_of (world_of buckets weights x) steps size) (Some (pos osd)) →
    IsTrue (reaches buckets steps (pos osd))

-- two lists of reweights that agree on the devices that a rule reaches give the same places
abbrev pub RunReadsReached : Type 0
RunReadsReached = (buckets : List Bucket) (kind : RuleKind) (steps : List Step) (weights others : List ℕ) (x size : ℕ) →
    IsForest buckets → IsLawfulRule kind steps →
    ((osd : ℕ) → IsTrue (reaches buckets steps (pos osd)) → slice_index weights osd ≡ slice_index others osd) →
    run_of (world_of buckets weights x) steps size ≡ run_of (world_of buckets others x) steps size
