-- The loops that take in what rows show, and that compare texts.
use Rattle.std.proofs.Common.{◌≡◌, ℕ, ◌+◌, ◌<◌, ◌≤◌, List, [], ◌∷◌, ◌++◌, map, take, length, slice_index_or, All, refl, sym, ap, subst, ◌∙◌, arith}
use Rattle.std.proofs.lemmas.List.{map-append, take_more}
use Rattle.std.proofs.lemmas.List.Elements.{All-nil, All-push, All-weaker, recursion_from_All}
use Rattle.sqlite.specs.Order.{Row}
use Rattle.journalstore.specs.Texts.{Entry, entry_shown, IsEntryShown, AreRising}
use Rattle.journalstore.specs.declared.reading.StoredText.{StoredText}
use Rattle.journalstore.specs.Read.{entry_read}
use Rattle.journalstore.proofs.EntryLemmas.{rising_more}

-- so many rows are read, and the next epoch is not below this number
pub record HasRead (rows : List Row) (done : ℕ) (texts : List StoredText) (least : ℕ) : Type 0 where
  pub is : map entry_read texts ≡ map entry_shown (take done rows)
  pub say : All IsEntryShown (take done rows)
  pub rise : AreRising (map entry_read texts)
  pub below : All (λ (e : Entry). e.0 < least) (map entry_read texts)

-- before the first row nothing is read, and any epoch may come
pub read_none : (rows : List Row) → HasRead rows 0 [] 0
read_none rows = record { is = refl; say = All-nil IsEntryShown; rise = tt; below = All-nil (λ (e : Entry). e.0 < 0) }

-- with one row more, of an epoch that may come, one text more is read, and only later epochs may follow
pub read_more : (rows : List Row) (done : ℕ) (texts : List StoredText) (least : ℕ) (row : Row) (text : StoredText) → done < length rows → row ≡ slice_index_or rows done row → IsEntryShown row
    → entry_read text ≡ entry_shown row → least ≤ text.epoch → HasRead rows done texts least → HasRead rows (done + 1) (texts ++ text ∷ []) (text.epoch + 1)
read_more rows done texts least row text low at say is high so =
    let more = take_more rows done row low in
    let texts_are : map entry_read (texts ++ text ∷ []) ≡ map entry_read texts ++ entry_read text ∷ [] = map-append entry_read texts (text ∷ []) in
    let rows_are : map entry_shown (take (done + 1) rows) ≡ map entry_shown (take done rows) ++ entry_shown row ∷ [] =
    ap (map entry_shown) (more ∙ ap (λ (r : Row). take done rows ++ r ∷ []) (sym at)) ∙ map-append entry_shown (take done rows) (row ∷ []) in
    let below = All-weaker (λ (e : Entry). e.0 < least) (λ (e : Entry). e.0 < text.epoch) (λ e under. omega (arith, under, high)) (map entry_read texts) so.below in record {
      is = texts_are ∙ ap (λ (es : List Entry). es ++ entry_read text ∷ []) so.is ∙ ap (λ (e : Entry). map entry_shown (take done rows) ++ e ∷ []) is ∙ sym rows_are;
      say = subst (All IsEntryShown) (sym (more ∙ ap (λ (r : Row). take done rows ++ r ∷ []) (sym at))) (All-push IsEntryShown (take done rows) row so.say say);
      rise = subst AreRising (sym texts_are) (rising_more (map entry_read texts) (entry_read text) so.rise (recursion_from_All (λ (e : Entry). e.0 < text.epoch) (map entry_read texts) below));
      below = subst (All (λ (e : Entry). e.0 < text.epoch + 1)) (sym texts_are) (All-push (λ (e : Entry). e.0 < text.epoch + 1) (map entry_read texts) (entry_read text)
          (All-weaker (λ (e : Entry). e.0 < text.epoch) (λ (e : Entry). e.0 < text.epoch + 1) (λ e under. omega (arith, under)) (map entry_read texts) below) (omega arith));
    }

-- as many of the texts say the same as of the others
abbrev pub AreSameTo : List StoredText → List StoredText → ℕ → Type 0
AreSameTo texts others done = map entry_read (take done texts) ≡ map entry_read (take done others)

-- one more of them does
pub same_more : (texts others : List StoredText) (done : ℕ) (text other : StoredText) → done < length texts → done < length others → text ≡ slice_index_or texts done text → other ≡ slice_index_or others done other
    → entry_read text ≡ entry_read other → AreSameTo texts others done → AreSameTo texts others (done + 1)
same_more texts others done text other low also is second same so =
    let behind : (ts : List StoredText) (t : StoredText) → done < length ts → t ≡ slice_index_or ts done t → map entry_read (take (done + 1) ts) ≡ map entry_read (take done ts) ++ entry_read t ∷ [] = λ ts t within at.
    ap (map entry_read) (take_more ts done t within ∙ ap (λ (x : StoredText). take done ts ++ x ∷ []) (sym at)) ∙ map-append entry_read (take done ts) (t ∷ []) in
    behind texts text low is ∙ ap (λ (es : List Entry). es ++ entry_read text ∷ []) so ∙ ap (λ (e : Entry). map entry_read (take done others) ++ e ∷ []) same ∙ sym (behind others other also second)
