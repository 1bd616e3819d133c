-- A journal as a store holds it: a first map and the incrementals since.
use Rattle.std.specs.Prelude.{◌≡◌, ◌⊎◌, ◌+◌, ◌<◌, ◌^◌, List, [], ◌∷◌, ◌++◌, None}
use Rattle.maptypes.specs.Incrementals.{Step}
use Rattle.maptypes.specs.Ordered.{IsChange}
use Rattle.osdmap.specs.Maps.{ClusterMap}
use Rattle.osdmap.specs.Changes.{change_fault, after}

-- the first map, and the accepted incrementals in the order of their epochs
pub record Journal : Type 0 where
  pub first : ClusterMap
  pub steps : List Step

-- a journal with one incremental more
abbrev pub with_step : Journal → Step → Journal
with_step j step = record j { steps = j.steps ++ step ∷ [] }

-- this journal, or it with the incremental that was under way
abbrev pub IsBeforeOrAfter : Journal → Step → Journal → Type 0
IsBeforeOrAfter before step left = (left ≡ before) ⊎ (left ≡ with_step before step)

-- an incremental is the next of a journal: its epoch follows on that of the map after the journal, which does not
-- refuse its change
pub record Follows (j : Journal) (step : Step) : Type 0 where
  pub epoch : step.epoch ≡ (after j.first j.steps).epoch + 1
  pub lawful : change_fault (after j.first j.steps) step.change ≡ None

-- what holds of every incremental: its change is one, and its epoch has 64 bits
abbrev pub IsIncremental : Step → Type 0
IsIncremental step = IsChange step.change × (step.epoch < 2 ^ 64)

-- what is left of an accepted journal: all of it, and at most one incremental more, which is the next
abbrev pub HasAll : Journal → Journal → Type 0
HasAll accepted left =
    (left ≡ accepted)
    ⊎ ((step : Step) × Follows accepted step × IsIncremental step × (left ≡ with_step accepted step))
