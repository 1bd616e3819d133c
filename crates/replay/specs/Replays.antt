-- What a kept journal stands for: a text of a first map, and for each change a row of its epoch and its text.
use Rattle.std.specs.Prelude.{◌≡◌, ◌⊎◌, ℕ, codes, ◌+◌, ◌==◌, ◌&&◌, List, [], ◌∷◌, ◌++◌, Option, Some, None, Result, Ok, Err, if◌then◌else◌}
use Rattle.std.specs.Fmt.{decimal}
use Rattle.refusal.specs.declared.refused.Refusal.{Refusal}
use Rattle.refusal.specs.Refusals.{name_of}
use Rattle.refusal.specs.declared.refused.Refusal.TheVariants.{Memory as OutOfMemory, StaleEpoch}
use Rattle.mapparts.specs.declared.profile.Profile.{Profile}
use Rattle.maptypes.specs.declared.change.ChangeParts.{ChangeParts}
use Rattle.maptypes.specs.Incrementals.{Step}
use Rattle.osdmap.specs.Maps.{ClusterMap}
use Rattle.osdmap.specs.Changes.{apply, after, change_fault}
use Rattle.mapjson.specs.MapTexts.{map_text_fault, StatesMap}
use Rattle.mapjson.specs.ChangeTexts.{change_text_fault, StatesChange}
use Rattle.replay.specs.declared.row.Row.{Row}
use Rattle.replay.specs.declared.fault.Fault.{Fault}
use Rattle.replay.specs.declared.fault.Fault.TheVariants as fault

-- what is wrong with a row of this epoch, which states a change to the map of the epoch `base`, behind a map: it is not
-- the next, or the map refuses the change
abbrev pub step_fault : ClusterMap → ℕ → ℕ → ChangeParts → Option Refusal
step_fault m epoch base change =
    if base == m.epoch && epoch == m.epoch + 1 then change_fault m change else Some (StaleEpoch m.epoch)

-- a row makes this incremental of a map: its text states the change, and nothing is wrong with it
pub record MakesStep (profile : Profile) (m : ClusterMap) (row : Row) (step : Step) : Type 0 where
  pub epoch : step.epoch ≡ row.epoch
  pub text : change_text_fault profile row.text.items ≡ None
  pub base : ℕ
  pub states : StatesChange profile row.text.items (base, step.change)
  pub sound : step_fault m row.epoch base step.change ≡ None

-- why a row makes none of a map: memory was short, its text states no change, or something is wrong with what it states
abbrev pub IsRefused : Profile → ClusterMap → Row → Refusal → Type 0
IsRefused profile m row e =
    (e ≡ OutOfMemory)
    ⊎ ((change_text_fault profile row.text.items ≡ Some e)
    ⊎ ((base : ℕ) × (change : ChangeParts) × StatesChange profile row.text.items (base, change)
    × (step_fault m row.epoch base change ≡ Some e)))

-- rows make these incrementals, one after the other, from a map on
unfoldable pub StandFor : Profile → ClusterMap → List Row → List Step → Type 0
StandFor profile m [] [] = Unit {0}
StandFor profile m [] (step ∷ steps) = ⊥
StandFor profile m (row ∷ rows) [] = ⊥
StandFor profile m (row ∷ rows) (step ∷ steps) =
    MakesStep profile m row step × StandFor profile (apply m step) rows steps

-- a row refuses a map's journal: those before it stand for incrementals, and it makes none of the map after them
abbrev pub IsBroken : Profile → ClusterMap → List Row → ℕ → Refusal → Type 0
IsBroken profile first rows epoch e =
    (whole : List Row) × (row : Row) × (others : List Row) × (steps : List Step) × (rows ≡ whole ++ row ∷ others)
    × StandFor profile first whole steps × (row.epoch ≡ epoch) × IsRefused profile (after first steps) row e

-- what a first text and rows stand for: the map after the incrementals that they make, from the map that the text
-- states; or why they stand for none
abbrev pub Stands : {X : Type 0} → Profile → List ℕ → List Row → (X → ClusterMap) → Result X Fault → Type 0
Stands profile text rows map_of (Ok x) =
    (first : ClusterMap) × StatesMap profile text first × (steps : List Step) × StandFor profile first rows steps
    × (map_of x ≡ after first steps)
Stands profile text rows map_of (Err (fault.First e)) = (e ≡ OutOfMemory) ⊎ (map_text_fault profile text ≡ Some e)
Stands profile text rows map_of (Err (fault.Row epoch e)) =
    (first : ClusterMap) × StatesMap profile text first × IsBroken profile first rows epoch e

-- the text of a fault
abbrev pub fault_text : Fault → List ℕ
fault_text (fault.First e) = codes "map: " ++ name_of e
fault_text (fault.Row epoch e) = codes "row " ++ decimal epoch ++ codes ": " ++ name_of e
