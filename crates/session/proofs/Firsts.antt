-- The first place at which a byte stands.
use Rattle.std.proofs.Common.{◌≡◌, ℕ, Bool, true, false, List, length, get_or, Option, Some, None, refl, arith}
use Rattle.std.proofs.lemmas.Grind.{common_steps}
use Rattle.std.specs.Prelude.{position}
use Rattle.std.proofs.lemmas.List.Sums.{position_or_len_is}
use Rattle.std.specs.List.{position_or_len}
use Rattle.memchr.specs.Find.{IsFirstByte}

-- what is not true is false
not_true : (b : Bool) → (b ≡ true → ⊥) → b ≡ false
not_true true f = absurd (f refl)
not_true false f = refl

-- the first place whose byte passes is the one that a walk finds
pub first_place : (p : ℕ → Bool) (xs : List ℕ) (r : Option ℕ) → IsFirstByte p xs r → r ≡ position p xs
first_place p xs None nowhere =
    let at : position_or_len p xs ≡ length xs = position_or_len_is p xs (length xs) 0 (omega arith) (λ k h. not_true (p (get_or xs k 0)) (nowhere k (omega arith) h)) (λ h. absurd (omega arith)) in
    grind (arith, common_steps)
first_place p xs (Some k) (none, passes) =
    let at : position_or_len p xs ≡ k = position_or_len_is p xs k 0 (omega (arith, none.high)) (λ j h. not_true (p (get_or xs j 0)) (none.before j (omega arith) h)) (λ h. passes) in
    grind (arith, none.high, common_steps)
