-- Totals over the views.
use Rattle.std.proofs.Common.{◌≡◌, ◌≢◌, ℕ, zero, suc, ◌+◌, ◌*◌, ◌≤◌, List, [], ◌∷◌, ◌++◌, length, set, sym, refl, ap, suc-mul, arith, replicate}
use mathlib.Core.Option.{some, some-injective, some-ne-none}
use lib.ListN.{get_elem?}
use Rattle.ticketlock.specs.declared.view.View.{View}
use Rattle.ticketlock.specs.Rule.{total, Each}

-- the total after a change of one view
pub total_set : (f : View → ℕ) (views : List View) (seat : ℕ) (v w : View) → get_elem? views seat ≡ some v → total f (set views seat w) + f v ≡ total f views + f w
total_set f [] seat v w e = absurd (some-ne-none v (sym e))
total_set f (x ∷ xs) zero v w e = let p : f x ≡ f v = ap f (some-injective x v e) in omega arith
total_set f (x ∷ xs) (suc i) v w e = let h = total_set f xs i v w e in omega arith

-- a change of one view to one of the same number leaves the total
pub total_stays : (f : View → ℕ) (views : List View) (seat : ℕ) (v w : View) → get_elem? views seat ≡ some v → f w ≡ f v → total f (set views seat w) ≡ total f views
total_stays f views seat v w at e = let s = total_set f views seat v w at in omega arith

-- one view is part of the total
pub part_of : (f : View → ℕ) (views : List View) (i : ℕ) (v : View) → get_elem? views i ≡ some v → f v ≤ total f views
part_of f [] i v e = absurd (some-ne-none v (sym e))
part_of f (x ∷ xs) zero v e = let p : f x ≡ f v = ap f (some-injective x v e) in omega arith
part_of f (x ∷ xs) (suc i) v e = let h = part_of f xs i v e in omega arith

-- two views are part of the total
pub two_of : (f : View → ℕ) (views : List View) (i j : ℕ) (v u : View) → get_elem? views i ≡ some v → get_elem? views j ≡ some u → i ≢ j → f v + f u ≤ total f views
two_of f [] i j v u e d n = absurd (some-ne-none v (sym e))
two_of f (x ∷ xs) zero zero v u e d n = absurd (n refl)
two_of f (x ∷ xs) zero (suc j) v u e d n = let p : f x ≡ f v = ap f (some-injective x v e) in let h = part_of f xs j u d in omega arith
two_of f (x ∷ xs) (suc i) zero v u e d n = let p : f x ≡ f u = ap f (some-injective x u d) in let h = part_of f xs i v e in omega arith
two_of f (x ∷ xs) (suc i) (suc j) v u e d n = let h = two_of f xs i j v u e d (λ s. n (ap suc s)) in omega arith

-- where each number is at most k, the total is at most k for each view
pub bounded : (f : View → ℕ) (k : ℕ) (views : List View) → Each (λ v. f v ≤ k) views → total f views ≤ length views * k
bounded f k [] each = omega arith
bounded f k (x ∷ xs) each = let h = bounded f k xs (λ i v e. each (suc i) v e) in let p : f x ≤ k = each 0 x refl in omega (arith, suc-mul (length xs) k)

-- the total with one view more
pub total_append : (f : View → ℕ) (views : List View) (v : View) → total f (views ++ v ∷ []) ≡ total f views + f v
total_append f [] v = omega arith
total_append f (x ∷ xs) v = let h = total_append f xs v in omega arith

-- copies of a view that counts nothing count nothing
pub total_copies : (f : View → ℕ) (n : ℕ) (v : View) → f v ≡ 0 → total f (replicate n v) ≡ 0
total_copies f zero v e = refl
total_copies f (suc n) v e = let h = total_copies f n v e in omega arith
