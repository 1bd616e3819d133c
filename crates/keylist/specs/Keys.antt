-- Entries with keys: which keys there are, and the entry of one.
use Rattle.std.specs.Prelude.{ℕ, ◌==◌, Bool, true, not, ◌&&◌, List, [], ◌∷◌, Option}
use Rattle.std.specs.List.{list_any, find}

-- whether no number stands twice
unfoldable pub is_distinct : List ℕ → Bool
is_distinct [] = true
is_distinct (k ∷ ks) = not (list_any (λ j. j == k) ks) && is_distinct ks

-- whether an entry has a key
abbrev pub has_key : {X : Type 0} → (X → ℕ) → List X → ℕ → Bool
has_key key xs k = list_any (λ x. key x == k) xs

-- the first entry that has a key
abbrev pub entry_at : {X : Type 0} → (X → ℕ) → List X → ℕ → Option X
entry_at key xs k = find (λ x. key x == k) xs
