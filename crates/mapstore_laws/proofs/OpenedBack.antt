-- What the texts of a monitor's journal stand for.
use Rattle.std.proofs.Common.{◌≡◌, ◌∙◌, inl, inr, ℕ, zero, suc, ◌+◌, ◌-◌, ◌^◌, ◌<◌, ◌==◌, ◌&&◌, ◌++◌, true, List, [], ◌∷◌, map, drop, length, Some, None, Vec, Global, refl, sym, ap, subst, arith, length-append}
use denote.RawPtr.{null_ptr}
use Rattle.std.specs.List.{All, AllZip, Contains}
use Rattle.std.proofs.lemmas.Bool.Decides.{nat_tests}
use Rattle.std.proofs.lemmas.List.{map-append}
use Rattle.std.proofs.lemmas.List.Elements.{All-head, All-tail}
use Rattle.refusal.specs.declared.refused.Refusal.{Refusal}
use Rattle.refusal.specs.declared.refused.Refusal.TheVariants.{Memory as OutOfMemory}
use Rattle.mapparts.specs.declared.profile.Profile.TheVariants.{Stock}
use Rattle.maptypes.specs.declared.change.ChangeParts.{ChangeParts}
use Rattle.maptypes.specs.Incrementals.{Step}
use Rattle.osdmap.specs.Maps.{ClusterMap}
use Rattle.osdmap.specs.Changes.{change_fault, apply, after, IsLawful}
use Rattle.mapjson.specs.Written.{written}
use Rattle.mapjson.specs.WrittenChanges.{written_change}
use Rattle.mapjson.specs.ChangeTexts.{change_text_fault, StatesChange}
use Rattle.replay.specs.declared.row.Row.{Row}
use Rattle.replay.specs.declared.fault.Fault.TheVariants as fault
use Rattle.replay.specs.Replays.{step_fault, MakesStep, IsRefused, StandFor}
use Rattle.map_laws.specs.TextLaws.{IsTextOf}
use Rattle.map_laws.specs.ChangeLaws.{IsTextOfChange, as_stock, IsJournalReadBack}
use Rattle.epochlog.specs.Journals.{Journal}
use Rattle.journalstore.specs.Texts.{Entry}
use Rattle.mapstore.specs.declared.error.OpenError.{OpenError}
use Rattle.mapstore.specs.declared.error.OpenError.TheVariants.{Store, Journal as NoJournal, NoProfile, LateEpoch}
use Rattle.mapstore.specs.JournalTexts.{word_of, change_text, row_text, step_entry, journal_texts, with_steps}
use Rattle.mapstore.specs.OneJournal.{stands_behind}
use Rattle.mapstore.specs.Openings.{IsRow, IsMapOf, IsUnopened}
use Rattle.mapstore_laws.specs.OpeningLaws.{IsOfMonitor, AreShort, MayRefuse, IsOpenedBack, with_later}

-- ---- one row

-- the text of an incremental states it as a change of the stock profile, and nothing else
abbrev IsStockText : Step → Type 0
IsStockText step = (base : ℕ) → base < 2 ^ 64 → IsTextOfChange (written_change base step.change) base (as_stock step).change

abbrev IsWord : Step → Type 0
IsWord step = step.epoch < 2 ^ 64

module _ (step : Step) (row : Row) (back : IsStockText step) (word : IsWord step) (is : IsRow (step_entry step) row) where
  -- the row has the change of the incremental as its text
  text_is : row.text.items ≡ change_text step
  text_is = sym (stands_behind is.profile row.text.items) ∙ ap (drop 6) (sym is.text) ∙ stands_behind step.change.profile (change_text step)

  own : IsTextOfChange (change_text step) (step.epoch - 1) (as_stock step).change
  own = back (step.epoch - 1) (omega (arith, word))

  -- and states it alone
  states_alone : (base : ℕ) (change : ChangeParts) → StatesChange Stock row.text.items (base, change) → ◌≡◌ {A = ℕ × ChangeParts} (base, change) (step.epoch - 1, (as_stock step).change)
  states_alone base change states = own.alone (base, change) (subst (λ text. StatesChange Stock text (base, change)) text_is states)

  -- what the row makes of a map is the incremental, of the stock profile
  makes_it : (m : ClusterMap) (made : Step) → MakesStep Stock m row made → made ≡ as_stock step
  makes_it m made makes =
      let epoch = makes.epoch ∙ is.epoch in
      let change = ap (λ (p : ℕ × ChangeParts). p.1) (states_alone makes.base made.change makes.states) in
      λ i. record { epoch = epoch i; change = change i }

  -- no map refuses it where it is lawful
  never_wrong : (m : ClusterMap) → step.epoch ≡ m.epoch + 1 → change_fault m (as_stock step).change ≡ None → step_fault m row.epoch (step.epoch - 1) (as_stock step).change ≡ None
  never_wrong m next lawful =
      let tests : (step.epoch - 1 == m.epoch && row.epoch == m.epoch + 1) ≡ true = grind (arith, nat_tests, next, is.epoch) in
      rw tests lawful

  -- so it makes the incremental of a map that does not
  does_make : (m : ClusterMap) → step.epoch ≡ m.epoch + 1 → change_fault m (as_stock step).change ≡ None → MakesStep Stock m row (as_stock step)
  does_make m next lawful = record {
    epoch = sym is.epoch;
    text = ap (change_text_fault Stock) text_is ∙ own.faultless;
    base = step.epoch - 1;
    states = subst (λ text. StatesChange Stock text (step.epoch - 1, (as_stock step).change)) (sym text_is) own.states;
    sound = never_wrong m next lawful;
  }

  not_refused : (m : ClusterMap) (e : Refusal) → step.epoch ≡ m.epoch + 1 → change_fault m (as_stock step).change ≡ None → IsRefused Stock m row e → e ≡ OutOfMemory
  not_refused m e next lawful (inl short) = short
  not_refused m e next lawful (inr (inl wrong)) =
      let none : None ≡ Some e = sym own.faultless ∙ ap (change_text_fault Stock) (sym text_is) ∙ wrong in absurd (cc)
  not_refused m e next lawful (inr (inr (base, change, states, wrong))) =
      let is_it = states_alone base change states in
      let none : None ≡ Some e = sym (never_wrong m next lawful) ∙ ap (λ (p : ℕ × ChangeParts). step_fault m row.epoch p.0 p.1) (sym is_it) ∙ wrong in
      absurd (cc)

-- ---- all rows

-- what rows make are the incrementals, of the stock profile
make_them : (m : ClusterMap) (steps : List Step) (rows : List Row) (made : List Step) → All IsStockText steps → All IsWord steps → AllZip IsRow (map step_entry steps) rows → StandFor Stock m rows made
    → made ≡ map as_stock steps
unfolding StandFor
make_them m [] [] [] back words are stand = refl
make_them m [] [] (x ∷ xs) back words are stand = absurd stand
make_them m [] (r ∷ rows) made back words are stand = absurd are
make_them m (s ∷ ss) [] made back words are stand = absurd are
make_them m (s ∷ ss) (r ∷ rows) [] back words are stand = absurd stand
make_them m (s ∷ ss) (r ∷ rows) (x ∷ xs) back words are stand =
    let here = makes_it s r (All-head IsStockText s ss back) (All-head IsWord s ss words) are.0 m x stand.0 in
    let rest = make_them (apply m x) ss rows xs (All-tail IsStockText s ss back) (All-tail IsWord s ss words) are.1 stand.1 in
    λ i. here i ∷ rest i

-- and they do make them
stand_for : (m : ClusterMap) (steps : List Step) (rows : List Row) → All IsStockText steps → All IsWord steps → IsLawful m (map as_stock steps) → AllZip IsRow (map step_entry steps) rows
    → StandFor Stock m rows (map as_stock steps)
unfolding StandFor IsLawful
stand_for m [] [] back words lawful are = tt
stand_for m [] (r ∷ rows) back words lawful are = absurd are
stand_for m (s ∷ ss) [] back words lawful are = absurd are
stand_for m (s ∷ ss) (r ∷ rows) back words lawful are = (
  does_make s r (All-head IsStockText s ss back) (All-head IsWord s ss words) are.0 m lawful.0 lawful.1,
  stand_for (apply m (as_stock s)) ss rows (All-tail IsStockText s ss back) (All-tail IsWord s ss words) lawful.2 are.1,
)

-- and none of them is refused
none_broken : (m : ClusterMap) (steps : List Step) (whole : List Row) (row : Row) (others : List Row) (made : List Step) (e : Refusal) → All IsStockText steps → All IsWord steps
    → IsLawful m (map as_stock steps) → AllZip IsRow (map step_entry steps) (whole ++ row ∷ others) → StandFor Stock m whole made → IsRefused Stock (after m made) row e → e ≡ OutOfMemory
unfolding StandFor IsLawful
none_broken m [] [] row others made e back words lawful are stand refused = absurd are
none_broken m [] (w ∷ whole) row others made e back words lawful are stand refused = absurd are
none_broken m (s ∷ ss) [] row others (x ∷ xs) e back words lawful are stand refused = absurd stand
none_broken m (s ∷ ss) [] row others [] e back words lawful are stand refused =
    not_refused s row (All-head IsStockText s ss back) (All-head IsWord s ss words) are.0 m e lawful.0 lawful.1 refused
none_broken m (s ∷ ss) (w ∷ whole) row others [] e back words lawful are stand refused = absurd stand
none_broken m (s ∷ ss) (w ∷ whole) row others (x ∷ xs) e back words lawful are stand refused =
    let here = makes_it s w (All-head IsStockText s ss back) (All-head IsWord s ss words) are.0 m x stand.0 in
    let rest = subst (λ t. IsLawful (apply m t) (map as_stock ss)) (sym here) lawful.2 in
    none_broken (apply m x) ss whole row others xs e (All-tail IsStockText s ss back) (All-tail IsWord s ss words) rest are.1 stand.1 refused

-- ---- rows of texts that memory can hold

-- a text in memory
abbrev held : (text : List ℕ) → length text < 2 ^ 63 → Vec ℕ Global
held text short = record {
  ptr = null_ptr;
  len = length text;
  cap = length text;
  alloc = record { memory = record { seal = tt } };
  items = text;
  ok = (refl, omega arith);
  small = short;
}

-- the text of a row is no longer than that of its entry
abbrev row_at : (step : Step) → length (row_text step) < 2 ^ 63 → Row
row_at step short = record {
  epoch = step.epoch;
  text = held (change_text step) (let long = length-append (word_of step.change.profile) (change_text step) in omega (arith, long, short));
}

-- rows of entries
rows_at : (steps : List Step) → AreShort (map step_entry steps) → (rows : List Row) × AllZip IsRow (map step_entry steps) rows
rows_at [] short = ([], tt)
rows_at (s ∷ ss) short =
    let here = All-head (λ (e : Entry). length e.1 < 2 ^ 63) (step_entry s) (map step_entry ss) short in
    let (rows, are) = rows_at ss (All-tail (λ (e : Entry). length e.1 < 2 ^ 63) (step_entry s) (map step_entry ss) short) in
    (row_at s here ∷ rows, (record { epoch = refl; profile = s.change.profile; text = refl }, are))

-- each row begins with a word
word_there : (steps : List Step) (entry : Entry) → Contains (map step_entry steps) entry → (step : Step) × (step_entry step ≡ entry)
word_there [] entry (i, within, is) = absurd (omega (arith, within))
word_there (s ∷ ss) entry (zero, within, is) = (s, is)
word_there (s ∷ ss) entry (suc i, within, is) = word_there ss entry (i, omega (arith, within), is)

-- ---- the journal

module _ (j : Journal) (of : IsOfMonitor j) (first : IsTextOf (written j.first) j.first) (back : IsJournalReadBack j.first j.steps) where
  map_is : (m : ClusterMap) → IsMapOf (journal_texts j) m → m ≡ after j.first j.steps
  map_is m stands =
      let (begins, states, made, stand, is) = stands.stands in
      let begin : begins ≡ j.first = first.alone begins states in
      let them = make_them begins j.steps stands.rows made back.each of.numbers stands.are stand in
      is ∙ ap (λ xs. after begins xs) them ∙ ap (λ n. after n (map as_stock j.steps)) begin ∙ back.leads

  stands_so : AreShort (journal_texts j).changes → IsMapOf (journal_texts j) (after j.first j.steps)
  stands_so short =
      let (rows, are) = rows_at j.steps short in
      record {
        rows = rows;
        are = are;
        stands = (j.first, first.states, map as_stock j.steps, stand_for j.first j.steps rows back.each of.numbers back.lawful are, sym back.leads);
      }

  refused_by : (e : OpenError) → IsUnopened (journal_texts j) e → MayRefuse j e
  refused_by (Store e) unopened = tt
  refused_by (NoJournal (fault.First e)) unopened = elim unopened.stands [
    | inl short ↦ short
    | inr wrong ↦ let none : None ≡ Some e = sym first.faultless ∙ wrong in absurd (cc)
  ]
  refused_by (NoJournal (fault.Row epoch e)) unopened =
      let (begins, states, (whole, row, others, made, rows, stand, number, refused)) = unopened.stands in
      let begin : begins ≡ j.first = first.alone begins states in
      let lawful = subst (λ n. IsLawful n (map as_stock j.steps)) (sym begin) back.lawful in
      none_broken begins j.steps whole row others made e back.each of.numbers lawful (subst (AllZip IsRow (map step_entry j.steps)) rows unopened.are) stand refused
  refused_by (NoProfile epoch) (text, there, none) =
      let (step, is) = word_there j.steps (epoch, text) there in
      none step.change.profile (change_text step) (ap (λ (e : Entry). e.1) (sym is))
  refused_by (LateEpoch epoch) (m, stands, is, late) = (ap (λ (n : ClusterMap). n.epoch) (sym (map_is m stands)) ∙ is, late)

  pub opened_back : IsOpenedBack (journal_texts j) j
  opened_back = record { stands = stands_so; map = map_is; refused = refused_by }

-- the texts of a journal with those of later runs behind them are those of the whole
pub later_texts : (j : Journal) (later : List Step) → journal_texts (with_later j later) ≡ with_steps (journal_texts j) later
later_texts j later = ap (λ (changes : List Entry). record (journal_texts j) { changes = changes }) (map-append step_entry j.steps later)
