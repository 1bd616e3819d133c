-- Lists of numbers that rise.
use Rattle.std.specs.Prelude.{ℕ, ◌<◌, cond, List, [], ◌∷◌, nat_lt, not, ◌==◌, filter}

-- each number has P
abbrev pub AllKeys : (ℕ → Type 0) → List ℕ → Type 0
AllKeys P [] = Unit {0}
AllKeys P (x ∷ xs) = P x × AllKeys P xs

-- each number is below all later ones
abbrev pub AreRisingKeys : List ℕ → Type 0
AreRisingKeys [] = Unit {0}
AreRisingKeys (x ∷ xs) = AllKeys (λ y. x < y) xs × AreRisingKeys xs

-- the numbers with x in its place, unless it is there
abbrev pub with_key : ℕ → List ℕ → List ℕ
with_key x [] = x ∷ []
with_key x (y ∷ t) = cond (nat_lt x y) (x ∷ y ∷ t) (y ∷ cond (nat_lt y x) (with_key x t) t)

-- the numbers but for x
abbrev pub without_key : ℕ → List ℕ → List ℕ
without_key x xs = filter (λ y. not (y == x)) xs
