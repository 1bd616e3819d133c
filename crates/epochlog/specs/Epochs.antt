-- Sealed epochs, and what is seen of them.
use Rattle.std.specs.Prelude.{◌≡◌, ℕ, ◌+◌, ◌≤◌, nat_le, Bool, ◌&&◌, List, [], ◌∷◌}
use Rattle.maptypes.specs.Incrementals.{Step}
use Rattle.mapparts.specs.Limits.{max_first_epoch}
pub use Rattle.sealed.specs.History.{Begins, OneBegins, longer}

-- which row it is: its first epoch, which is that of the map before any incremental, and the names of its cells, one
-- for each epoch after that
pub record Line : Type 0 where
  pub first : ℕ
  pub cells : List ℕ

-- what contracts see of a pass: the row that it is of, and its history, the incrementals that it has seen, in the order
-- of their epochs
pub record Seen : Type 0 where
  pub row : Line
  pub history : List Step

-- the epochs go up by one from the epoch before
abbrev pub IsNumbered : ℕ → List Step → Type 0
IsNumbered before [] = Unit {0}
IsNumbered before (i ∷ is) = (i.epoch ≡ before + 1) × IsNumbered i.epoch is

-- the epoch of the last incremental, and the epoch before where there is none
abbrev pub last_epoch : ℕ → List Step → ℕ
last_epoch before [] = before
last_epoch before (i ∷ is) = last_epoch i.epoch is

-- the epoch at which a pass stands
abbrev pub epoch_of : Seen → ℕ
epoch_of s = last_epoch s.row.first s.history

-- the greatest capacity of a row
abbrev pub max_capacity : ℕ
max_capacity = 65536

-- a first epoch and a capacity within their limits
abbrev pub IsRowSize : ℕ → ℕ → Type 0
IsRowSize first capacity = (1 ≤ first) × (first ≤ max_first_epoch) × (1 ≤ capacity) × (capacity ≤ max_capacity)

-- the same as a test
abbrev pub is_within_limits : ℕ → ℕ → Bool
is_within_limits first capacity =
    nat_le 1 first && nat_le first max_first_epoch && (nat_le 1 capacity && nat_le capacity max_capacity)
