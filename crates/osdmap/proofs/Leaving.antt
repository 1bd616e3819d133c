-- Entries that leave a list.
use Rattle.std.proofs.Common.{◌≡◌, ℕ, Bool, true, not, ◌&&◌, List, [], ◌∷◌, length, refl, sym, ap, inl, inr, arith}
use Rattle.std.specs.List.{filter}
use Rattle.std.proofs.lemmas.Bool.{cases_Bool}
use Rattle.keylist.specs.Keys.{has_key}

-- where none is to leave, all stay
all_stay : {X : Type 0} (xs : List X) → filter (λ x. true) xs ≡ xs
all_stay [] = refl
all_stay (x ∷ xs) = ap (λ ys. x ∷ ys) (all_stay xs)

-- where none goes, all stay
pub none_leave : {X G : Type 0} (name : G → ℕ) (key : X → ℕ) (gone : List G) (xs : List X) → length gone ≡ 0 → xs ≡ filter (λ x. not (has_key name gone (key x))) xs
none_leave name key [] xs none = sym (all_stay xs)
none_leave name key (g ∷ gone) xs none = absurd (omega arith)

-- two reasons to leave
pub filter_twice : {X : Type 0} (p q : X → Bool) (xs : List X) → filter q (filter p xs) ≡ filter (λ x. p x && q x) xs
filter_twice p q [] = refl
filter_twice p q (x ∷ xs) = elim (cases_Bool (p x)) [
  | inl stays ↦ elim (cases_Bool (q x)) [
    | inl stays' ↦ rw (stays, stays') (ap (λ ys. x ∷ ys) (filter_twice p q xs))
    | inr leaves' ↦ rw (stays, leaves') (filter_twice p q xs)
  ]
  | inr leaves ↦ rw leaves (filter_twice p q xs)
]
