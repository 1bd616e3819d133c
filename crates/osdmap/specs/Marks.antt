-- Marks on numbers, by which a number that stands twice is found.
use Rattle.std.specs.Prelude.{ℕ, Bool, true, false, not, ◌&&◌, List, [], ◌∷◌, slice_index_or, slice_set, nat_lt}
use Rattle.std.specs.List.{list_all}

-- whether none of the numbers that some entries name is marked, or named twice
unfoldable pub are_new : {X : Type 0} → (X → ℕ) → List Bool → List X → Bool
are_new named marks [] = true
are_new named marks (e ∷ es) =
    not (slice_index_or marks (named e) false) && are_new named (slice_set marks (named e) true) es

-- whether all entries name numbers below n
abbrev pub are_below : {X : Type 0} → (X → ℕ) → ℕ → List X → Bool
are_below named n es = list_all (λ e. nat_lt (named e) n) es
