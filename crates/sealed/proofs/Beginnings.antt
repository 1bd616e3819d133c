-- Lists that begin one another.
use Rattle.std.proofs.Common.{◌≡◌, ℕ, ◌≤◌, min, List, [], ◌∷◌, ◌++◌, length, take, drop, refl, sym, ◌∙◌, ap, subst, arith, length-append, append_assoc, inl, inr}
use Rattle.std.proofs.lemmas.List.{append-nil, take-append-drop, take_all}
use Rattle.std.proofs.lemmas.Bool.{cases_lt}
use Rattle.sealed.specs.History.{Begins, OneBegins}

-- a list begins itself
pub begins_itself : {T : Type 0} (xs : List T) → Begins xs xs
begins_itself xs = ([], append-nil xs)

-- a list begins what is longer by some more
pub begins_more : {T : Type 0} (xs ys zs : List T) → ys ≡ xs ++ zs → Begins xs ys
begins_more xs ys zs e = (zs, sym e)

-- what begins a beginning begins the whole
pub begins_on : {T : Type 0} (xs ys zs : List T) → Begins xs ys → Begins ys zs → Begins xs zs
begins_on xs ys zs p q = (p.0 ++ q.0, sym (append_assoc xs p.0 q.0) ∙ (ap (λ w. w ++ q.0) p.1 ∙ q.1))

-- a list that is the first part of another begins it
pub begins_by : {T : Type 0} (xs ys : List T) (n : ℕ) → xs ≡ take n ys → Begins xs ys
begins_by xs ys n e = (drop n ys, ap (λ zs. zs ++ drop n ys) e ∙ take-append-drop n ys)

-- a list with no more than nothing is empty
empty_of : {T : Type 0} (xs : List T) → length xs ≤ 0 → xs ≡ []
empty_of [] h = refl
empty_of (x ∷ xs) h = absurd (omega arith)

-- where one of two begins the other, the shorter begins the longer
pub shorter_begins : {T : Type 0} (xs ys : List T) → OneBegins xs ys → length xs ≤ length ys → Begins xs ys
shorter_begins xs ys (inl p) h = p
shorter_begins xs ys (inr p) h =
    let none : p.0 ≡ [] = empty_of p.0 (omega (arith, length-append ys p.0, ap length p.1)) in
    let same : ys ≡ xs = sym (append-nil ys) ∙ (ap (λ zs. ys ++ zs) (sym none) ∙ p.1) in
    subst (Begins xs) (sym same) (begins_itself xs)

-- one of two begins the other: also said the other way round
pub one_begins_back : {T : Type 0} (xs ys : List T) → OneBegins xs ys → OneBegins ys xs
one_begins_back xs ys (inl p) = inr p
one_begins_back xs ys (inr p) = inl p

-- two lists that have the same first values, as far as both go
pub one_begins_by : {T : Type 0} (xs ys : List T) (n : ℕ) → n ≡ min (length xs) (length ys) → take n xs ≡ take n ys → OneBegins xs ys
one_begins_by xs ys n e same = elim (cases_lt (length xs) (length ys)) [
  | inl h ↦ inl (begins_by xs ys n (sym (take_all n xs (omega arith)) ∙ same))
  | inr h ↦ inr (begins_by ys xs n (sym (take_all n ys (omega arith)) ∙ sym same))
]
