-- While a store holds a journal, a crash leaves that one and no other.
use Rattle.std.specs.Prelude.{◌≡◌}
use Rattle.sqlite.specs.Store.{Ghosts}
use Rattle.epochlog.specs.Journals.{Journal}
use Rattle.journalstore.proofs.EntryLemmas.{one_text}
use Rattle.mapstore.specs.OneJournal.{one_journal}
use Rattle.mapstore.specs.Stores.{HoldsJournal, MayLeaveJournal, texts_of}
use Rattle.mapstore.specs.declared.store.MapStore.{MapStore}

module _ {S : Type 0} (g : Ghosts S) where
  -- what a crash may leave of a store is the journal that it holds
  pub settled_at : (store : MapStore S) (held left : Journal) → HoldsJournal g store held
      → MayLeaveJournal g store left → left ≡ held
  settled_at store held left holds may =
      let (clean, (db, leaves, stands)) = may.texts in
      let same = one_text db (texts_of store held) (texts_of store left) (holds.texts.2 clean db leaves) stands in
      one_journal store left held may.begins holds.begins same
