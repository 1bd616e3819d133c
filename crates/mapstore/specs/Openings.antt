-- The map that the texts of a store stand for, and why a store is not opened.
use Rattle.std.specs.Prelude.{◌≡◌, ◌≢◌, ◌<◌, ◌++◌, ⊤, ℕ, List, Result, Ok, Err}
use Rattle.std.specs.List.{AllZip, Contains}
use Rattle.sqlite.specs.Tree.{Trees}
use Rattle.sqlite.specs.Store.{Ghosts}
use Rattle.sqlite.specs.State.{HasCleanDisk}
use Rattle.sqlite.specs.Held.{state}
use Rattle.sqlite.specs.Recovery.{Image}
use Rattle.sqlite.specs.Files.{HoldsDatabase}
use Rattle.mapparts.specs.Limits.{max_first_epoch}
use Rattle.mapparts.specs.declared.profile.Profile.{Profile}
use Rattle.mapparts.specs.declared.profile.Profile.TheVariants.{Stock}
use Rattle.osdmap.specs.Maps.{ClusterMap}
use Rattle.replay.specs.declared.row.Row.{Row}
use Rattle.replay.specs.declared.fault.Fault.{Fault}
use Rattle.replay.specs.Replays.{Stands}
use Rattle.journalstore.specs.Texts.{Entry, Texts, StandsFor}
use Rattle.mapstore.specs.JournalTexts.{word_of}
use Rattle.mapstore.specs.declared.error.OpenError.{OpenError}
use Rattle.mapstore.specs.declared.error.OpenError.TheVariants.{Store, Journal, NoProfile, LateEpoch}
use Rattle.mapstore.specs.declared.store.MapStore.{MapStore}

-- a row has the epoch of an entry, whose text is the word of a profile and the row's
pub record IsRow (entry : Entry) (row : Row) : Type 0 where
  pub epoch : row.epoch ≡ entry.0
  pub profile : Profile
  pub text : entry.1 ≡ word_of profile ++ row.text.items

-- a text begins with the word of no profile
abbrev pub IsWordless : List ℕ → Type 0
IsWordless text = (profile : Profile) (json : List ℕ) → text ≢ word_of profile ++ json

-- what the texts of a store stand for, each change read by the stock profile: a map, or why there is none
pub record StandsAs (t : Texts) (outcome : Result ClusterMap Fault) : Type 0 where
  pub rows : List Row
  pub are : AllZip IsRow t.changes rows
  pub stands : Stands Stock t.first.1 rows (λ (m : ClusterMap). m) outcome

-- they stand for this map
abbrev pub IsMapOf : Texts → ClusterMap → Type 0
IsMapOf t m = StandsAs t (Ok m)

-- this map was found with a store in files that held an image: where that is a database with the texts of a store, as
-- long as the disk is clean, they stand for it
abbrev pub IsFoundIn : {S : Type 0} → Ghosts S → Image → MapStore S → ClusterMap → Type 0
IsFoundIn g image store m =
    (db : Trees) (t : Texts) → HasCleanDisk (state g store.texts.conn) → HoldsDatabase image db → StandsFor db t
    → IsMapOf t m

-- why the rows of entries are not read: memory was short, or one begins with no word
abbrev pub IsUnread : List Entry → OpenError → Type 0
IsUnread entries (Store e) = ⊤
IsUnread entries (Journal fault) = ⊥
IsUnread entries (NoProfile epoch) = (text : List ℕ) × Contains entries (epoch, text) × IsWordless text
IsUnread entries (LateEpoch epoch) = ⊥

-- why a store with these texts is not opened: they stand for no map, or for one of an epoch that no text may have
abbrev pub IsUnopened : Texts → OpenError → Type 0
IsUnopened t (Store e) = ⊤
IsUnopened t (Journal fault) = StandsAs t (Err fault)
IsUnopened t (NoProfile epoch) = IsUnread t.changes (NoProfile epoch)
IsUnopened t (LateEpoch epoch) = (m : ClusterMap) × IsMapOf t m × (m.epoch ≡ epoch) × (max_first_epoch < epoch)
