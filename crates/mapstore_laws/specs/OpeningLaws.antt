-- What a store is opened with that held the journal of a monitor, and behind it what a crash leaves of later runs.
use Rattle.std.specs.Prelude.{◌≡◌, ◌<◌, ◌^◌, ◌++◌, ⊤, List, length}
use Rattle.std.specs.List.{All}
use Rattle.refusal.specs.declared.refused.Refusal.TheVariants.{Memory as OutOfMemory}
use Rattle.mapparts.specs.Limits.{max_first_epoch}
use Rattle.maptypes.specs.Incrementals.{Step}
use Rattle.osdmap.specs.Maps.{ClusterMap}
use Rattle.osdmap.specs.Changes.{after, IsLawful}
use Rattle.replay.specs.declared.fault.Fault.{Fault}
use Rattle.replay.specs.declared.fault.Fault.TheVariants.{First, Row}
use Rattle.map_laws.specs.Laws.{IsTextEpoch, AreChanges}
use Rattle.epochlog.specs.Journals.{Journal, HasAll}
use Rattle.mapstore.specs.declared.error.OpenError.{OpenError}
use Rattle.mapstore.specs.declared.error.OpenError.TheVariants.{Store, Journal as NoJournal, NoProfile, LateEpoch}
use Rattle.journalstore.specs.Texts.{Entry, Texts}
use Rattle.mapstore.specs.JournalTexts.{journal_texts, with_steps}
use Rattle.mapstore.specs.Openings.{IsMapOf, IsUnopened}

-- a journal that a monitor may have: lawful changes from a first map, each with an epoch of 64 bits
pub record IsOfMonitor (j : Journal) : Type 0 where
  pub epoch : IsTextEpoch j.first.epoch
  pub changes : AreChanges j.steps
  pub lawful : IsLawful j.first j.steps
  pub numbers : All (λ (step : Step). step.epoch < 2 ^ 64) j.steps

-- memory was short
abbrev pub IsOfMemory : Fault → Type 0
IsOfMemory (First e) = e ≡ OutOfMemory
IsOfMemory (Row epoch e) = e ≡ OutOfMemory

-- why a store with the texts of a monitor's journal may not be opened: the file, the disk, memory, or a map whose epoch
-- no first map may have
abbrev pub MayRefuse : Journal → OpenError → Type 0
MayRefuse j (Store e) = ⊤
MayRefuse j (NoJournal fault) = IsOfMemory fault
MayRefuse j (NoProfile epoch) = ⊥
MayRefuse j (LateEpoch epoch) = ((after j.first j.steps).epoch ≡ epoch) × (max_first_epoch < epoch)

-- memory can hold the text of each entry
abbrev pub AreShort : List Entry → Type 0
AreShort entries = All (λ (e : Entry). length e.1 < 2 ^ 63) entries

-- texts stand for the map after the journal and for no other, and are refused for no other reason
pub record IsOpenedBack (t : Texts) (j : Journal) : Type 0 where
  pub stands : AreShort t.changes → IsMapOf t (after j.first j.steps)
  pub map : (m : ClusterMap) → IsMapOf t m → m ≡ after j.first j.steps
  pub refused : (e : OpenError) → IsUnopened t e → MayRefuse j e

-- a journal with the incrementals of later runs
abbrev pub with_later : Journal → List Step → Journal
with_later j later = record j { steps = j.steps ++ later }

-- so do the texts of each journal from this map on, with those behind them that a crash leaves of later runs
abbrev pub AreOpened : ClusterMap → Type 0
AreOpened first =
    (j : Journal) (later left : List Step) → j.first ≡ first → IsOfMonitor (with_later j later)
    → HasAll (with_later j later) (with_later j left)
    → IsOpenedBack (with_steps (journal_texts j) left) (with_later j left)
