-- Entries in ascending order, walked from the first one on.
use Rattle.std.specs.Prelude.{ℕ, ◌==◌, Bool, false, nat_lt, List, [], ◌∷◌, drop}
use Rattle.std.specs.List.{prefix_len}

-- what is left of the entries from a key on
abbrev pub rest_from : {X : Type 0} → (X → ℕ) → List X → ℕ → List X
rest_from key xs k = drop (prefix_len (λ x. nat_lt (key x) k) xs) xs

-- whether the first entry has a key
abbrev pub begins_at : {X : Type 0} → (X → ℕ) → List X → ℕ → Bool
begins_at key [] k = false
begins_at key (x ∷ xs) k = key x == k
