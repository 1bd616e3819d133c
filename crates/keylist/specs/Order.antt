-- Entries in the order of their keys.
use Rattle.std.specs.Prelude.{ℕ, ◌<◌, List}
use Rattle.std.specs.List.{AllPairs}
use Rattle.std.specs.List.Sorted.{IsPermutation, IsNonDecreasingBy, IsStableByKey}
use Rattle.std.specs.Ordering.{nat_cmp}

-- each key is above those before it
abbrev pub IsRising : {X : Type 0} → (X → ℕ) → List X → Type 0
IsRising key xs = AllPairs (λ a b. key a < key b) xs

-- the same entries by key upwards, those of one key in their order
pub record SortsBy {X : Type 0} (key : X → ℕ) (given sorted : List X) : Type 0 where
  pub same : IsPermutation given sorted
  pub ascending : IsNonDecreasingBy key sorted
  pub stable : IsStableByKey key nat_cmp given sorted

-- the same entries by key upwards, none of which has the key of another
pub record Rises {X : Type 0} (key : X → ℕ) (given sorted : List X) : Type 0 where
  pub same : IsPermutation given sorted
  pub rising : IsRising key sorted
