-- Which entries the rows of a table say.
use Rattle.std.proofs.Common.{◌≡◌, ◌⊎◌, inl, inr, ℕ, zero, suc, pos, ◌<◌, List, [], ◌∷◌, ◌++◌, map, length, slice_index_or, All, Contains, refl, sym, ap, subst, ◌∙◌, arith}
use lib.Dec.{lt→ltb}
use Rattle.std.specs.List.{AllByRecursion}
use Rattle.std.specs.List.Sorted.{IsPermutation}
use Rattle.std.specs.declared.cmp.Ordering.TheVariants.{Less}
use Rattle.std.specs.Cmp.{int_cmp_is}
use Rattle.std.proofs.lemmas.List.{map-append}
use Rattle.std.proofs.lemmas.List.Elements.{All-push, recursion_from_All}
use Rattle.std.proofs.lemmas.List.Sorted.{IsPermutation-sym, IsPermutation-trans, IsPermutation-append_left, All-permutation, Contains-permutation}
use Rattle.sqlite.specs.declared.types.Value.TheVariants.{Int}
use Rattle.sqlite.specs.Order.{Row, column}
use Rattle.sqlite.specs.Tree.{Trees}
use Rattle.sqlite_trees.specs.Tree.{put_row, rowid}
use Rattle.sqlite_value.specs.Order.{value_cmp}
use Rattle.sqlite_value.proofs.OrderLemmas.{value_cmp-Int}
use Rattle.journalstore.specs.Tables.{stored_row}
use Rattle.journalstore.specs.Texts.{Entry, Texts, bare_text, with_change, IsAfter, AreRising, row_epoch, entry_of, IsEntryRow, AreEntries, StandsFor}
use Rattle.journalstore.proofs.AppendLemmas.{Appends}

-- a row above all others goes to the end
put_last : (new : Row) (rows : List Row) → AllByRecursion (λ r. value_cmp (rowid r) (rowid new) ≡ Less) rows → put_row new rows ≡ rows ++ new ∷ []
put_last new [] below = refl
put_last new (r ∷ rows) below = rw below.0 (ap (λ rs. r ∷ rs) (put_last new rows below.1))

-- the database sorts a lower epoch before a higher one
below_epoch : (m n : ℕ) → m < n → value_cmp (Int (pos m)) (Int (pos n)) ≡ Less
below_epoch m n low = value_cmp-Int (pos m) (pos n) ∙ sym (int_cmp_is (pos m) (pos n) Less (record { lt = lt→ltb m n low }))

-- rows that say entries below an epoch have their rowids below it
rows_below : (n : ℕ) (rows : List Row) → AllByRecursion IsEntryRow rows → AllByRecursion (λ (e : Entry). e.0 < n) (map entry_of rows) → AllByRecursion (λ r. value_cmp (rowid r) (Int (pos n)) ≡ Less) rows
rows_below n [] say low = tt
rows_below n (r ∷ rows) say low = (subst (λ v. value_cmp v (Int (pos n)) ≡ Less) (sym say.0.0) (below_epoch (row_epoch (column r 0)) n low.0), rows_below n rows say.1 low.1)

-- what is true of all elements and of one more is true of the list with it at the end
all_more : {X : Type 0} (P : X → Type 0) (xs : List X) (y : X) → AllByRecursion P xs → P y → AllByRecursion P (xs ++ y ∷ [])
all_more P [] y h p = (p, tt)
all_more P (x ∷ xs) y h p = (h.0, all_more P xs y h.1 p)

-- entries with one more, of a later epoch, still rise
pub rising_more : (entries : List Entry) (e : Entry) → AreRising entries → AllByRecursion (λ (a : Entry). a.0 < e.0) entries → AreRising (entries ++ e ∷ [])
rising_more [] e rise below = (tt, tt)
rising_more (a ∷ entries) e rise below = (all_more (λ (b : Entry). a.0 < b.0) entries e rise.0 below.0, rising_more entries e rise.1 below.1)

-- rows that say entries say one entry more once the row of a later epoch is put in
appended : (rows : List Row) (entries : List Entry) (n : ℕ) (change : List ℕ) → AreEntries rows entries → All (λ (e : Entry). e.0 < n) entries
    → AreEntries (put_row (stored_row (pos n) change) rows) (entries ++ (n, bare_text change) ∷ [])
appended rows entries n change are below =
    let new = stored_row (pos n) change in
    let low = All-permutation (λ (e : Entry). e.0 < n) entries (map entry_of rows) (IsPermutation-sym (map entry_of rows) entries are.same) below in
    let last : put_row new rows ≡ rows ++ new ∷ [] = put_last new rows (rows_below n rows (recursion_from_All IsEntryRow rows are.say) (recursion_from_All (λ (e : Entry). e.0 < n) (map entry_of rows) low)) in
    subst (λ rs. AreEntries rs (entries ++ (n, bare_text change) ∷ [])) (sym last) (record {
      say = All-push IsEntryRow rows new are.say (refl, refl);
      same = subst (λ es. IsPermutation es (entries ++ (n, bare_text change) ∷ [])) (sym (map-append entry_of rows (new ∷ []))) (IsPermutation-append_left ((n, bare_text change) ∷ []) (map entry_of rows) entries are.same);
      rise = rising_more entries (n, bare_text change) are.rise (recursion_from_All (λ (e : Entry). e.0 < n) entries below);
    })

-- after an append of a later epoch the database stands for the texts with that change
pub stands_with : (old new : Trees) (t : Texts) (n : ℕ) (change : List ℕ) → StandsFor old t → IsAfter t n → Appends (pos n) change old new → StandsFor new (with_change t (n, bare_text change))
stands_with old new t n change stands after it = record {
  first = subst (λ rows. AreEntries rows (t.first ∷ [])) (sym it.maps) stands.first;
  changes = subst (λ rows. AreEntries rows (t.changes ++ (n, bare_text change) ∷ [])) (sym it.journal) (appended (old 0) t.changes n change stands.changes after);
}

-- an element of a list is its first, or one of the others
module _ {X : Type 0} (y : X) (ys : List X) (x : X) where
  -- what stands at a place of a list is its first element, or is one of the others
  at_place : (k : ℕ) → k < length (y ∷ ys) → slice_index_or (y ∷ ys) k x ≡ x → (y ≡ x) ⊎ Contains ys x
  at_place zero low is = inl is
  at_place (suc k) low is = inr (k, omega (arith, low), is)

  -- so is whatever is in the list
  places : Contains (y ∷ ys) x → (y ≡ x) ⊎ Contains ys x
  places h = at_place h.0 h.1 h.2

  -- each of the others is in the list
  behind : Contains ys x → Contains (y ∷ ys) x
  behind h = (suc h.0, omega (arith, h.1), h.2)

-- the first element is in the list
ahead : {X : Type 0} (x : X) (xs : List X) → Contains (x ∷ xs) x
ahead x xs = (zero, omega arith, refl)

-- nothing is in the empty list
none : {X : Type 0} (x : X) → ¬ Contains [] x
none x h = omega (arith, h.1)

-- each epoch behind the first is above it
above : (x : Entry) (xs : List Entry) → AllByRecursion (λ (b : Entry). x.0 < b.0) xs → (e : Entry) → Contains xs e → x.0 < e.0
above x [] all e h = absurd (none e h)
above x (y ∷ xs) all e h = elim (places y xs e h) [
  | inl first ↦ subst (λ (a : Entry). x.0 < a.0) first all.0
  | inr later ↦ above x xs all.1 e later
]

abbrev Within : List Entry → List Entry → Type 0
Within xs ys = (e : Entry) → Contains xs e → Contains ys e

-- rising entries that have the same elements begin with the same one
same_heads : (x y : Entry) (xs ys : List Entry) → AreRising (x ∷ xs) → AreRising (y ∷ ys) → Within (x ∷ xs) (y ∷ ys) → Within (y ∷ ys) (x ∷ xs) → x ≡ y
same_heads x y xs ys rx ry to from = elim (places y ys x (to x (ahead x xs))) [
  | inl first ↦ sym first
  | inr later ↦ elim (places x xs y (from y (ahead y ys))) [
    | inl first ↦ first
    | inr other ↦ absurd (omega (arith, above y ys ry.0 x later, above x xs rx.0 y other))
  ]
]

-- where both begin with the same entry, what is behind it in the one is behind it in the other
tails_within : (x y : Entry) (xs ys : List Entry) → AreRising (x ∷ xs) → x ≡ y → Within (x ∷ xs) (y ∷ ys) → Within xs ys
tails_within x y xs ys rx same to e h = elim (places y ys e (to e (behind x xs e h))) [
  | inl first ↦ let low = above x xs rx.0 e h in let is : x ≡ e = same ∙ first in absurd (omega (arith, subst (λ (a : Entry). x.0 < a.0) (sym is) low))
  | inr later ↦ later
]

-- rising entries that have the same elements are the same
rising_same : (xs ys : List Entry) → AreRising xs → AreRising ys → Within xs ys → Within ys xs → xs ≡ ys
rising_same [] [] rx ry to from = refl
rising_same [] (y ∷ ys) rx ry to from = absurd (none y (from y (ahead y ys)))
rising_same (x ∷ xs) [] rx ry to from = absurd (none x (to x (ahead x xs)))
rising_same (x ∷ xs) (y ∷ ys) rx ry to from =
    let same = same_heads x y xs ys rx ry to from in
    let rest = rising_same xs ys rx.1 ry.1 (tails_within x y xs ys rx same to) (tails_within y x ys xs ry (sym same) from) in λ i. same i ∷ rest i

-- the rows of a table say one list of entries alone
one_list : (rows : List Row) (xs ys : List Entry) → AreEntries rows xs → AreEntries rows ys → xs ≡ ys
one_list rows xs ys a b =
    let same = IsPermutation-trans xs (map entry_of rows) ys (IsPermutation-sym (map entry_of rows) xs a.same) b.same in
    rising_same xs ys a.rise b.rise (λ e. Contains-permutation xs ys e same) (λ e. Contains-permutation ys xs e (IsPermutation-sym xs ys same))

-- a database stands for one journal alone
pub one_text : (db : Trees) (s t : Texts) → StandsFor db s → StandsFor db t → t ≡ s
one_text db s t a b =
    let firsts : t.first ∷ [] ≡ s.first ∷ [] = one_list (db 1) (t.first ∷ []) (s.first ∷ []) b.first a.first in
    let first : t.first ≡ s.first = cc in
    let changes = one_list (db 0) t.changes s.changes b.changes a.changes in λ i. record { first = first i; changes = changes i }
