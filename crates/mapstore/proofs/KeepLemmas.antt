-- What a store holds, and what a crash leaves of it, once a row was appended.
use Rattle.std.proofs.Common.{◌≡◌, ◌∙◌, ◌⊎◌, inl, inr, ℕ, zero, suc, ◌<◌, ◌≤◌, ◌++◌, List, [], ◌∷◌, map, sym, ap, subst, arith}
use Rattle.std.specs.List.{All}
use Rattle.std.proofs.lemmas.List.{map-append, append_assoc}
use Rattle.std.proofs.lemmas.List.Elements.{All-append, All-weaker}
use Rattle.sqlite.specs.Store.{Ghosts}
use Rattle.maptypes.specs.Incrementals.{Step}
use Rattle.epochlog.specs.Journals.{Journal, with_step, IsBeforeOrAfter}
use Rattle.journalstore.specs.declared.store.TextStore.{TextStore}
use Rattle.journalstore.specs.Texts.{Entry, Texts, with_change, IsAfter, StandsFor}
use Rattle.journalstore.specs.Stores.{Holds, Leaves}
use Rattle.journalstore.proofs.EntryLemmas.{one_text}
use Rattle.mapstore.specs.JournalTexts.{step_entry, with_steps, IsTextedStep}
use Rattle.mapstore.specs.OneJournal.{one_journal}
use Rattle.mapstore.specs.Stores.{HoldsJournal, MayLeaveJournal, IsBehind, past_of, texts_of}
use Rattle.mapstore.specs.declared.store.MapStore.{MapStore}

-- texts with one incremental more behind them
behind_more : (past : Texts) (steps : List Step) (step : Step) → with_change (with_steps past steps) (step_entry step) ≡ with_steps past (steps ++ step ∷ [])
behind_more past steps step =
    let own = map-append step_entry steps (step ∷ []) in
    let all = append_assoc past.changes (map step_entry steps) (step_entry step ∷ []) ∙ ap (λ (es : List Entry). past.changes ++ es) (sym own) in
    ap (λ (changes : List Entry). record past { changes = changes }) all

-- what holds of one entry holds of each of it alone
alone : {X : Type 0} (P : X → Type 0) (x : X) → P x → All P (x ∷ [])
alone P x holds zero d inside = holds
alone P x holds (suc i) d inside = absurd (omega (arith, inside))

-- a journal behind the texts of a store is there with one incremental more
behind_with : {S : Type 0} (store : MapStore S) (j : Journal) (step : Step) → IsBehind store j → IsTextedStep step → IsBehind store (with_step j step)
behind_with store j step begins states = record {
  first = begins.first;
  stands = begins.stands;
  steps = All-append IsTextedStep j.steps (step ∷ []) begins.steps (alone IsTextedStep step states);
}

module _ {S : Type 0} (g : Ghosts S) (old : MapStore S) (step : Step) (epoch : ℕ) (text : List ℕ) (row : (epoch, text) ≡ step_entry step) (late : old.last < epoch) (states : IsTextedStep step) where
  -- its epoch is above all others
  is_after : (j : Journal) → HoldsJournal g old j → IsAfter (texts_of old j) epoch
  is_after j holds = All-weaker (λ (e : Entry). e.0 ≤ old.last) (λ (e : Entry). e.0 < epoch) (λ e most. omega (arith, most, late)) (texts_of old j).changes holds.last

  -- the texts with the row are those with the incremental
  with_row : (j : Journal) → with_change (texts_of old j) (epoch, text) ≡ texts_of old (with_step j step)
  with_row j = ap (with_change (texts_of old j)) row ∙ behind_more (past_of old) j.steps step

  module _ (new : TextStore S) where
    -- what a crash leaves of the store with the row
    pub left_with : ((t : Texts) → Holds g old.texts t → IsAfter t epoch → Leaves g new (λ db. StandsFor db t ⊎ StandsFor db (with_change t (epoch, text)))) → (last : ℕ) (j : Journal) → HoldsJournal g old j
        → (left : Journal) → MayLeaveJournal g (record old { texts = new; last = last }) left → IsBeforeOrAfter j step left
    left_with crash last j holds left may =
        let (clean, (db, leaves, stands)) = may.texts in
        let may_begins : IsBehind old left = record { first = may.begins.first; stands = may.begins.stands; steps = may.begins.steps } in
        elim (crash (texts_of old j) holds.texts (is_after j holds) clean db leaves) [
          | inl before ↦ inl (one_journal old left j may_begins holds.begins (one_text db (texts_of old j) (texts_of old left) before stands))
          | inr after ↦
              inr (one_journal old left (with_step j step) may_begins (behind_with old j step holds.begins states) (one_text db (with_change (texts_of old j) (epoch, text)) (texts_of old left) after stands ∙ with_row j))
        ]

    -- the store with the row holds the journal with the incremental
    pub holds_with : ((t : Texts) → Holds g old.texts t → IsAfter t epoch → Holds g new (with_change t (epoch, text)))
        → (j : Journal) → HoldsJournal g old j → (last : ℕ) → last ≡ step.epoch → HoldsJournal g (record old { texts = new; last = last }) (with_step j step)
    holds_with appends j holds last is =
        let after = is_after j holds in
        let number : epoch ≡ step.epoch = ap (λ (e : Entry). e.0) row in
        let earlier = All-weaker (λ (e : Entry). e.0 ≤ old.last) (λ (e : Entry). e.0 ≤ last) (λ e most. omega (arith, most, late, number, is)) (texts_of old j).changes holds.last in
        let more = All-append (λ (e : Entry). e.0 ≤ last) (texts_of old j).changes ((epoch, text) ∷ []) earlier (alone (λ (e : Entry). e.0 ≤ last) (epoch, text) (omega (arith, number, is))) in
        let begins = behind_with old j step holds.begins states in
        record {
          texts = subst (Holds g new) (with_row j) (appends (texts_of old j) holds.texts after);
          begins = record { first = begins.first; stands = begins.stands; steps = begins.steps };
          last = subst (λ (t : Texts). All (λ (e : Entry). e.0 ≤ last) t.changes) (with_row j) more;
        }

-- a store whose texts are held as before holds the journal that it held
pub holds_still : {S : Type 0} (g : Ghosts S) (old : MapStore S) (new : TextStore S) → ((t : Texts) → Holds g old.texts t → Holds g new t) → (j : Journal) → HoldsJournal g old j → HoldsJournal g (record old { texts = new }) j
holds_still g old new still j holds = record {
  texts = still (texts_of old j) holds.texts;
  begins = record { first = holds.begins.first; stands = holds.begins.stands; steps = holds.begins.steps };
  last = holds.last;
}
