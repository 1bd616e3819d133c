-- The text of a change, read back.
use Rattle.std.specs.Prelude.{◌≡◌, ℕ, ◌<◌, ◌^◌, true, List, map, None}
use Rattle.std.specs.List.{All}
use Rattle.maptypes.specs.declared.change.ChangeParts.{ChangeParts}
use Rattle.mapparts.specs.declared.profile.Profile.{Profile}
use Rattle.mapparts.specs.declared.profile.Profile.TheVariants.{Stock}
use Rattle.maptypes.specs.Incrementals.{Step}
use Rattle.osdmap.specs.Maps.{ClusterMap, HoldsTogether}
use Rattle.osdmap.specs.Changes.{change_fault, after, IsLawful}
use Rattle.mapjson.specs.ChangeTexts.{change_text_fault, StatesChange}
use Rattle.mapjson.specs.WrittenChanges.{fits_text, written_change}
use Rattle.map_laws.specs.Laws.{AreChanges}

-- the same change of another profile
abbrev pub of_profile : Profile → ChangeParts → ChangeParts
of_profile profile c = record c { profile = profile }

-- a text without a fault by the profile of a change, which states that change with this base, and nothing else
pub record IsTextOfChange (text : List ℕ) (base : ℕ) (c : ChangeParts) : Type 0 where
  pub faultless : change_text_fault c.profile text ≡ None
  pub states : StatesChange c.profile text (base, c)
  pub alone : (other : ℕ × ChangeParts) → StatesChange c.profile text other → other ≡ (base, c)

-- what is written of a change is such a text by each profile by which a text may state it, whatever base of 64 bits it
-- has
abbrev pub IsChangeReadBack : ChangeParts → Type 0
IsChangeReadBack c = (profile : Profile) → fits_text profile c ≡ true → (base : ℕ) → base < 2 ^ 64
    → IsTextOfChange (written_change base c) base (of_profile profile c)

-- a change of the profile by which it was read, and one that a text may state by it
pub record FitsProfile (profile : Profile) (c : ChangeParts) : Type 0 where
  pub profile_is : c.profile ≡ profile
  pub fits : fits_text profile c ≡ true

-- so is each that a text without a fault states
abbrev pub ReadChangesFit : Type 0
ReadChangesFit = (profile : Profile) (text : List ℕ) (answer : ℕ × ChangeParts) → change_text_fault profile text ≡ None
    → StatesChange profile text answer → FitsProfile profile answer.1

-- by the stock profile a text may state each change that a map does not refuse
abbrev pub AcceptedFits : ClusterMap → ChangeParts → Type 0
AcceptedFits m c = change_fault m c ≡ None → fits_text Stock c ≡ true

-- ---- journals

-- a change of a journal as it is read back by the stock profile
abbrev pub as_stock : Step → Step
as_stock step = record step { change = of_profile Stock step.change }

-- each change of a journal is read back by the stock profile, whatever base of 64 bits it is written with; what is read
-- back is lawful too, and leads to the same map
pub record IsJournalReadBack (m : ClusterMap) (journal : List Step) : Type 0 where
  pub each : All (λ step. (base : ℕ) → base < 2 ^ 64
      → IsTextOfChange (written_change base step.change) base (as_stock step).change) journal
  pub lawful : IsLawful m (map as_stock journal)
  pub leads : after m (map as_stock journal) ≡ after m journal

-- so it is of each lawful journal
abbrev pub JournalsAreReadBack : Type 0
JournalsAreReadBack = (m : ClusterMap) (journal : List Step) → HoldsTogether m → AreChanges journal → IsLawful m journal
    → IsJournalReadBack m journal
