-- How sets are stored: numbers side by side, as many for each set.
use Rattle.std.specs.Prelude.{◌≡◌, ℕ, zero, suc, ◌+◌, ◌-◌, ◌*◌, ◌≤◌, true, not, List, [], ◌∷◌, ◌++◌, take, drop, length, replicate}
use Rattle.std.specs.List.{list_all}
use Rattle.crush.specs.Limits.{max_size}
use Rattle.mapparts.specs.Limits.{max_groups}
use Rattle.maptypes.specs.Sets.{Places}
use Rattle.grouptable.specs.Sets.{is_end, set_stored}

-- the first `len` of the places of a set are filled, and it is padded with ends
pub record IsPadded (len : ℕ) (places : List ℕ) : Type 0 where
  pub few : len ≤ max_size
  pub all : length places ≡ max_size
  pub filled : list_all (λ n. not (is_end n)) (take len places) ≡ true
  pub behind : drop len places ≡ replicate (max_size - len) 65534

-- the sets that a list of numbers stores, each in `width` of them
abbrev pub sets_stored : ℕ → ℕ → List ℕ → List Places
sets_stored width zero places = []
sets_stored width (suc n) places = set_stored (take width places) ∷ sets_stored width n (drop width places)

-- numbers with others in the place of some, from one on
abbrev pub overwritten : ℕ → List ℕ → List ℕ → List ℕ
overwritten at row numbers = take at numbers ++ (row ++ drop (at + length row) numbers)

-- there are as many numbers as the sets need, and no more sets than groups of a pool
pub record AreSideBySide (width count : ℕ) (places : List ℕ) : Type 0 where
  pub narrow : width ≤ max_size
  pub few : count ≤ max_groups
  pub all : length places ≡ count * width
