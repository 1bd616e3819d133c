-- Merging visits to one history.
use Rattle.std.proofs.Common.{◌≡◌, ℕ, zero, suc, ◌+◌, ◌≤◌, List, [], ◌∷◌, length, Some, refl, sym, subst, arith, ◌⊎◌, inl, inr}
use Rattle.std.proofs.lemmas.Bool.{cases_lt}
use Rattle.sealed.specs.History.{Begins}
use Rattle.sealed.proofs.Beginnings.{begins_on}
use Rattle.server_laws.specs.Visits.{Visit, behind, IsMergeOf, IsMergeOfAll}
use Rattle.server_laws.proofs.Histories.{AreInOrder, before_begins, put_length, IsEntered}

-- both have put something behind one beginning
abbrev pub AreOne : {X : Type 0} → Visit X → Visit X → Type 0
AreOne {X} t u = ((x : X) × (t.made ≡ Some x)) × ((y : X) × (u.made ≡ Some y)) × (t.found ≡ u.found)

-- a visit is no change of the list
abbrev pub IsApart : {X : Type 0} → Visit X → List (Visit X) → Type 0
IsApart t [] = Unit {0}
IsApart t (u ∷ us) = (AreOne t u → ⊥) × IsApart t us

-- no change of the one list is one of the other
abbrev pub AreApart : {X : Type 0} → List (Visit X) → List (Visit X) → Type 0
AreApart [] us = Unit {0}
AreApart (t ∷ ts) us = IsApart t us × AreApart ts us

-- no change of the list is one of several others
abbrev pub IsApartFromAll : {X : Type 0} → List (Visit X) → List (List (Visit X)) → Type 0
IsApartFromAll ts [] = Unit {0}
IsApartFromAll ts (us ∷ uss) = AreApart ts us × IsApartFromAll ts uss

-- no change of one of several lists is one of another
abbrev pub AreAllApart : {X : Type 0} → List (List (Visit X)) → Type 0
AreAllApart [] = Unit {0}
AreAllApart (ts ∷ tss) = IsApartFromAll ts tss × AreAllApart tss

-- each of several lists is of one history
abbrev pub AreAllInOrder : {X : Type 0} → List X → List (List (Visit X)) → Type 0
AreAllInOrder ahead [] = Unit {0}
AreAllInOrder ahead (ts ∷ tss) = AreInOrder ahead ts × AreAllInOrder ahead tss

-- of two beginnings of a list the shorter begins the longer
both_begin : {X : Type 0} (xs ys all : List X) → Begins xs all → Begins ys all → length xs ≤ length ys → Begins xs ys
both_begin [] ys all p q h = (ys, refl)
both_begin (x ∷ xs) [] all p q h = absurd (omega arith)
both_begin (x ∷ xs) (y ∷ ys) [] p q h = absurd (cc p.1)
both_begin (x ∷ xs) (y ∷ ys) (a ∷ all) p q h =
    let rest = both_begin xs ys all (p.0, cc p.1) (q.0, cc q.1) (omega arith) in
    let first : x ≡ y = cc (p.1, q.1) in
    (rest.0, cc (first, rest.1))

-- and two of one length are one
one_length : {X : Type 0} (xs ys all : List X) → Begins xs all → Begins ys all → length xs ≡ length ys → xs ≡ ys
one_length [] [] all p q h = refl
one_length [] (y ∷ ys) all p q h = absurd (omega (arith, h))
one_length (x ∷ xs) [] all p q h = absurd (omega (arith, h))
one_length (x ∷ xs) (y ∷ ys) [] p q h = absurd (cc p.1)
one_length (x ∷ xs) (y ∷ ys) (a ∷ all) p q h =
    let rest = one_length xs ys all (p.0, cc p.1) (q.0, cc q.1) (omega (arith, h)) in
    cc (p.1, q.1, rest)

-- a list is merged of none and itself
right_alone : {T : Type 0} (ys : List T) → IsMergeOf [] ys ys
right_alone [] = (refl, refl)
right_alone (y ∷ ys) = inr (ys, refl, right_alone ys)

-- a list is merged of itself and none
left_alone : {T : Type 0} (xs : List T) → IsMergeOf xs [] xs
left_alone [] = (refl, refl)
left_alone (x ∷ xs) = inl (xs, refl, left_alone xs)

-- no change of a list without its first is one of the other
apart_tail : {X : Type 0} (ts : List (Visit X)) (u : Visit X) (us : List (Visit X)) → AreApart ts (u ∷ us) → AreApart ts us
apart_tail [] u us p = tt
apart_tail (t ∷ ts) u us p = (p.0.1, apart_tail ts u us p.1)

-- two who begin to be told: the one whose place is further is told last
data Which {X : Type 0} (t u : Visit X) : Type 0 where
  left : length (behind u) ≤ length t.found → Which t u
  right : length (behind t) ≤ length u.found → Which t u
  same : ((x : X) × (t.made ≡ Some x)) → ((y : X) × (u.made ≡ Some y)) → length t.found ≡ length u.found → Which t u

-- of two visits one may be told last, or both have put something behind as much
which : {X : Type 0} (t u : Visit X) → Which t u
which t u = elim (put_length t.found t.made) [
  | inl a ↦ elim (cases_lt (length t.found) (length u.found)) [
    | inl h ↦ right (omega (arith, a, h))
    | inr h ↦ elim (put_length u.found u.made) [
      | inl b ↦ left (omega (arith, b, h))
      | inr b ↦ elim (cases_lt (length u.found) (length t.found)) [
        | inl k ↦ left (omega (arith, b.0, k))
        | inr k ↦ right (omega (arith, a, k))
      ]
    ]
  ]
  | inr a ↦ elim (cases_lt (length t.found) (length u.found)) [
    | inl h ↦ right (omega (arith, a.0, h))
    | inr h ↦ elim (put_length u.found u.made) [
      | inl b ↦ left (omega (arith, b, h))
      | inr b ↦ elim (cases_lt (length u.found) (length t.found)) [
        | inl k ↦ left (omega (arith, b.0, k))
        | inr k ↦ same a.1 b.1 (omega (arith, h, k))
      ]
    ]
  ]
]

-- two lists of visits to one history, no change of which is one of both, are merged into one such list
pub merge : {X : Type 0} (n : ℕ) (ahead : List X) (ts us : List (Visit X)) → length ts + length us ≤ n → AreInOrder ahead ts → AreInOrder ahead us → AreApart ts us
    → (all : List (Visit X)) × AreInOrder ahead all × IsMergeOf ts us all
merge n ahead [] us h p q apart = (us, q, right_alone us)
merge n ahead (t ∷ ts) [] h p q apart = (t ∷ ts, p, left_alone (t ∷ ts))
merge zero ahead (t ∷ ts) (u ∷ us) h p q apart = absurd (omega arith)
merge (suc n) ahead (t ∷ ts) (u ∷ us) h p q apart =
    let t_in = begins_on t.found (behind t) ahead (before_begins t.found t.made) p.0 in
    let u_in = begins_on u.found (behind u) ahead (before_begins u.found u.made) q.0 in
    elim (which t u) [
      | left k ↦ (
          let r = merge n t.found ts (u ∷ us) (omega arith) p.1 (both_begin (behind u) t.found ahead q.0 t_in k, q.1) apart.1 in
          (t ∷ r.0, (p.0, r.1), inl (ts, refl, r.2)))
      | right k ↦ (
          let r = merge n u.found (t ∷ ts) us (omega arith) (both_begin (behind t) u.found ahead p.0 u_in k, p.1) q.1 (apart_tail (t ∷ ts) u us apart) in
          (u ∷ r.0, (q.0, r.1), inr (us, refl, r.2)))
      | same a b k ↦ absurd (apart.0.0 (a, b, one_length t.found u.found ahead t_in u_in k))
    ]

-- what is merged of two that are apart from a third is apart from it
apart_one : {X : Type 0} (t : Visit X) (xs ys zs : List (Visit X)) → IsMergeOf xs ys zs → IsApart t xs → IsApart t ys → IsApart t zs
apart_one t xs ys [] m p q = tt
apart_one t xs ys (z ∷ zs) (inl m) p q = let p' = subst (IsApart t) m.1 p in (p'.0, apart_one t m.0 ys zs m.2 p'.1 q)
apart_one t xs ys (z ∷ zs) (inr m) p q = let q' = subst (IsApart t) m.1 q in (q'.0, apart_one t xs m.0 zs m.2 p q'.1)

-- no change of a list is one of what is merged of two, where it is one of neither
apart_merged : {X : Type 0} (ts xs ys zs : List (Visit X)) → IsMergeOf xs ys zs → AreApart ts xs → AreApart ts ys → AreApart ts zs
apart_merged [] xs ys zs m p q = tt
apart_merged (t ∷ ts) xs ys zs m p q = (apart_one t xs ys zs m p.0 q.0, apart_merged ts xs ys zs m p.1 q.1)

-- no change of a list is one of an empty list
apart_none : {X : Type 0} (ts : List (Visit X)) → AreApart ts []
apart_none [] = tt
apart_none (t ∷ ts) = (tt, apart_none ts)

-- no change of a list is one of what is merged of several, where it is one of none of them
apart_all : {X : Type 0} (ts : List (Visit X)) (tss : List (List (Visit X))) (rest : List (Visit X)) → IsMergeOfAll tss rest → IsApartFromAll ts tss → AreApart ts rest
apart_all ts [] rest m p = subst (AreApart ts) (sym m) (apart_none ts)
apart_all ts (us ∷ uss) rest m p = apart_merged ts us m.0 rest m.2 p.0 (apart_all ts uss m.0 m.1 p.1)

-- several lists of visits to one history, no change of which is one of two, are merged into one such list
pub merge_all : {X : Type 0} (ahead : List X) (tss : List (List (Visit X))) → AreAllInOrder ahead tss → AreAllApart tss
    → (all : List (Visit X)) × AreInOrder ahead all × IsMergeOfAll tss all
merge_all ahead [] p apart = ([], tt, refl)
merge_all ahead (ts ∷ tss) p apart =
    let r = merge_all ahead tss p.1 apart.1 in
    let s = merge (length ts + length r.0) ahead ts r.0 (omega arith) p.0 r.1 (apart_all ts tss r.0 r.2 apart.0) in
    (s.0, s.1, (r.0, r.2, s.2))

-- what one of two has made, and what one of several has, their merge has
entered_either : {X : Type 0} (at : ℕ) (xs ys zs : List (Visit X)) → IsMergeOf xs ys zs → IsEntered at xs ⊎ IsEntered at ys → IsEntered at zs
entered_either at xs ys [] m (inl e) = absurd (subst (IsEntered at) m.0 e)
entered_either at xs ys [] m (inr e) = absurd (subst (IsEntered at) m.1 e)
entered_either at xs ys (z ∷ zs) (inl m) (inl e) = elim (subst (IsEntered at) m.1 e) [
  | inl here ↦ inl here
  | inr there ↦ inr (entered_either at m.0 ys zs m.2 (inl there))
]
entered_either at xs ys (z ∷ zs) (inl m) (inr e) = inr (entered_either at m.0 ys zs m.2 (inr e))
entered_either at xs ys (z ∷ zs) (inr m) (inl e) = inr (entered_either at xs m.0 zs m.2 (inl e))
entered_either at xs ys (z ∷ zs) (inr m) (inr e) = elim (subst (IsEntered at) m.1 e) [
  | inl here ↦ inl here
  | inr there ↦ inr (entered_either at xs m.0 zs m.2 (inr there))
]

-- a visit of one of several lists has made what stands at a place
abbrev pub IsEnteredIn : {X : Type 0} → ℕ → List (List (Visit X)) → Type 0
IsEnteredIn at [] = ⊥
IsEnteredIn at (xs ∷ xss) = IsEntered at xs ⊎ IsEnteredIn at xss

-- what one of several has made, what is merged of all has
pub entered_all : {X : Type 0} (at : ℕ) (xss : List (List (Visit X))) (zs : List (Visit X)) → IsMergeOfAll xss zs → IsEnteredIn at xss → IsEntered at zs
entered_all at [] zs m e = absurd e
entered_all at (xs ∷ xss) zs m (inl e) = entered_either at xs m.0 zs m.2 (inl e)
entered_all at (xs ∷ xss) zs m (inr e) = entered_either at xs m.0 zs m.2 (inr (entered_all at xss m.0 m.1 e))
