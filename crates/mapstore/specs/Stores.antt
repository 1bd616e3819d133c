-- Which journal a store holds, and which one a crash may leave of it. Its file has the texts that were found as it was
-- opened, which stand for the map that the journal begins with, and behind them a text for each incremental since.
use Rattle.std.specs.Prelude.{◌≡◌, ◌≤◌}
use Rattle.std.specs.List.{All}
use Rattle.sqlite.specs.Store.{Ghosts}
use Rattle.epochlog.specs.Journals.{Journal}
use Rattle.journalstore.specs.Read.{texts_read}
use Rattle.journalstore.specs.Stores.{Holds, MayLeave}
use Rattle.journalstore.specs.Texts.{Entry, Texts}
use Rattle.mapstore.specs.JournalTexts.{with_steps, IsTextedStep}
use Rattle.mapstore.specs.Openings.{IsMapOf}
use Rattle.mapstore.specs.declared.store.MapStore.{MapStore}

module _ {S : Type 0} (store : MapStore S) where
  -- the texts that were found
  abbrev pub past_of : Texts
  past_of = texts_read store.past.value

  -- a journal begins with the map that was found, for which the texts that were found stand; and each of its
  -- incrementals has a text that states it
  pub record IsBehind (j : Journal) : Type 0 where
    pub first : j.first ≡ store.found.value.map
    pub stands : IsMapOf past_of j.first
    pub steps : All IsTextedStep j.steps

  -- the texts of a journal
  abbrev pub texts_of : Journal → Texts
  texts_of j = with_steps past_of j.steps

module _ {S : Type 0} (g : Ghosts S) where
  -- its texts are those of the journal, and a crash leaves no others; no epoch is above the last one that it knows
  pub record HoldsJournal (store : MapStore S) (j : Journal) : Type 0 where
    pub texts : Holds g store.texts (texts_of store j)
    pub begins : IsBehind store j
    pub last : All (λ (e : Entry). e.0 ≤ store.last) (texts_of store j).changes

  -- the texts that a crash may leave are those of the journal
  pub record MayLeaveJournal (store : MapStore S) (j : Journal) : Type 0 where
    pub texts : MayLeave g store.texts (texts_of store j)
    pub begins : IsBehind store j
