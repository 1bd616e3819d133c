-- A list in two parts, of which the first is changed: what that means for the whole.
use Rattle.std.proofs.Common.{◌≡◌, ℕ, suc, ◌+◌, ◌<◌, ◌≤◌, Bool, true, false, cond, ltb, Ok, Err, List, [], ◌∷◌, ◌++◌, length, get_or, take, drop, refl, ap, sym, ◌∙◌, subst, arith}
use Rattle.std.specs.List.{between}
use Rattle.std.specs.List.Sorted.{IsBinarySearchResult}
use Rattle.std.specs.Ordering.{nat_cmp}
use Rattle.std.proofs.Math.Seq.{take-append-add, drop-append-add}
use Rattle.std.proofs.lemmas.Bool.{lt-ltb}
use Rattle.std.proofs.lemmas.List.{append_assoc, take-append-drop, get_or-drop, length-drop, length-append, get_or-append-add}
use Rattle.std.proofs.lemmas.List.Elements.{filter-append}
use Rattle.std.proofs.lemmas.List.Sorted.{searched}
use Rattle.std.proofs.lemmas.Slice.{between_to_end}
use Rattle.grouptable.specs.Keys.{AllKeys, AreRisingKeys, with_key, without_key}
use Rattle.grouptable.proofs.Order.{rising_le, rising_with_key, rising_filter, with_key_present, without_key_present, without_key_absent}

-- what holds of all of two parts holds of the first
all_front : (P : ℕ → Type 0) (t u : List ℕ) → AllKeys P (t ++ u) → AllKeys P t
all_front P [] u a = tt
all_front P (y ∷ t) u a = (a.0, all_front P t u a.1)

-- the first part of a rising list rises
rising_front : (t u : List ℕ) → AreRisingKeys (t ++ u) → AreRisingKeys t
rising_front [] u s = tt
rising_front (y ∷ t) u s = (all_front (λ z. y < z) t u s.0, rising_front t u s.1)

-- and so does the second
rising_back : (t u : List ℕ) → AreRisingKeys (t ++ u) → AreRisingKeys u
rising_back [] u s = s
rising_back (y ∷ t) u s = rising_back t u s.1

-- a list cut in three
cut : (m r : List ℕ) (at : ℕ) → (m ++ take at r) ++ drop at r ≡ m ++ r
cut m r at = append_assoc m (take at r) (drop at r) ∙ ap (λ z. m ++ z) (take-append-drop at r)

-- its first two parts rise
pub rising_cut : (m r : List ℕ) (at : ℕ) → AreRisingKeys (m ++ r) → AreRisingKeys (m ++ take at r)
rising_cut m r at s = rising_front (m ++ take at r) (drop at r) (subst AreRisingKeys (sym (cut m r at)) s)

-- a key before or behind the first of the first part
front_cases : (a b : Bool) (g y : ℕ) (t u w : List ℕ) → cond a (g ∷ y ∷ (t ++ u)) (y ∷ cond b (w ++ u) (t ++ u)) ≡ cond a (g ∷ y ∷ t) (y ∷ cond b w t) ++ u
front_cases true b g y t u w = refl
front_cases false true g y t u w = refl
front_cases false false g y t u w = refl

-- a key below all of the second part is put into the first
with_key_front : (g : ℕ) (t u : List ℕ) → ((k : ℕ) → k < length u → g < get_or u k 0) → with_key g (t ++ u) ≡ with_key g t ++ u
with_key_front g [] [] above = refl
with_key_front g [] (y ∷ u) above = rw (lt-ltb g y (above 0 (omega arith))) refl
with_key_front g (y ∷ t) u above = rw (with_key_front g t u above) (front_cases (ltb g y) (ltb y g) g y t u (with_key g t))

-- a search by halves in the second part, where the key is not there: it is put behind those below it
pub added : (m r m' n : List ℕ) (g at e : ℕ) → AreRisingKeys (m ++ r) → IsBinarySearchResult (λ y. nat_cmp y g) r (Err at) → m' ≡ m ++ take at r → n ≡ with_key g m' → length r ≤ e → n ++ between at e r ≡ with_key g (m ++ r)
added m r m' n g at e s found f h l =
    let searched = searched r g (Err at) found (rising_le r (rising_back m r s)) in
    let long = length-drop at r in
    let above : (k : ℕ) → k < length (drop at r) → g < get_or (drop at r) k 0 = λ k p. rw (get_or-drop at r k 0) (searched.2 (at + k) (omega arith) (omega (arith, long, p))) in
    rw (between_to_end r at e l, h, f) (sym (with_key_front g (m ++ take at r) (drop at r) above) ∙ ap (with_key g) (cut m r at))

-- where it is there, nothing changes
pub present : (m r : List ℕ) (g at : ℕ) → AreRisingKeys (m ++ r) → IsBinarySearchResult (λ y. nat_cmp y g) r (Ok at) → m ++ r ≡ with_key g (m ++ r)
present m r g at s found =
    let searched = searched r g (Ok at) found (rising_le r (rising_back m r s)) in
    sym (with_key_present g (m ++ r) (length m + at) s (omega (arith, searched.0, length-append m r)) (get_or-append-add m r at 0 ∙ searched.1))

-- a key of the second part is taken away there
pub removed : (m r m' : List ℕ) (g at e : ℕ) → AreRisingKeys (m ++ r) → IsBinarySearchResult (λ y. nat_cmp y g) r (Ok at) → m' ≡ m ++ take at r → length r ≤ e → m' ++ between (at + 1) e r ≡ without_key g (m ++ r)
removed m r m' g at e s found f l =
    let searched = searched r g (Ok at) found (rising_le r (rising_back m r s)) in
    let here = without_key_present g (m ++ r) (length m + at) s (omega (arith, searched.0, length-append m r)) (get_or-append-add m r at 0 ∙ searched.1) in
    let past : suc (length m + at) ≡ length m + (at + 1) = omega arith in
    rw (between_to_end r (at + 1) e l, f) (sym (here ∙ rw (take-append-add m r at, past, drop-append-add m r (at + 1)) refl))

-- one that is not in the second part is taken out of the first
pub unremoved : (m r n : List ℕ) (g at : ℕ) → AreRisingKeys (m ++ r) → IsBinarySearchResult (λ y. nat_cmp y g) r (Err at) → n ≡ without_key g m → n ++ r ≡ without_key g (m ++ r)
unremoved m r n g at s found f =
    let searched = searched r g (Err at) found (rising_le r (rising_back m r s)) in
    rw f (sym (filter-append _ m r ∙ ap (λ z. without_key g m ++ z) (without_key_absent g r at searched.1 searched.2)))

-- lists that are what a key makes of a rising one rise
pub with_rises : (g : ℕ) (t u : List ℕ) → AreRisingKeys t → u ≡ with_key g t → AreRisingKeys u
with_rises g t u s e = subst AreRisingKeys (sym e) (rising_with_key g t s)

-- lists without a key of a rising one rise
pub without_rises : (g : ℕ) (t u : List ℕ) → AreRisingKeys t → u ≡ without_key g t → AreRisingKeys u
without_rises g t u s e = subst AreRisingKeys (sym e) (rising_filter _ t s)
