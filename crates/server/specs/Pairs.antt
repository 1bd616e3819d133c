-- Lists whose elements stand to one another, place by place.
use Rattle.std.specs.Prelude.{ℕ, suc, List, [], ◌∷◌}

-- each of the first list stands so to the one at its place in the second, by its number, which goes up from this one;
-- the lists are as long
abbrev pub Pairs : {X Y : Type 0} → (ℕ → X → Y → Type 0) → ℕ → List X → List Y → Type 0
Pairs R number [] [] = Unit {0}
Pairs R number [] (y ∷ ys) = ⊥
Pairs R number (x ∷ xs) [] = ⊥
Pairs R number (x ∷ xs) (y ∷ ys) = R number x y × Pairs R (suc number) xs ys
