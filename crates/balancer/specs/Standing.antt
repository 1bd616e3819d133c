-- For each OSD the numbers of the groups of a pool that stand on it, among which may be some that no longer do.
use Rattle.std.specs.Prelude.{◌≡◌, ℕ, ◌<◌, ◌==◌, ◌&&◌, nat_lt, ◌++◌, Bool, true, List, [], ◌∷◌, length, slice_index_or, slice_set, Option, Some, None, if◌then◌else◌}
use Rattle.std.specs.List.{All, list_any}
use Rattle.maptypes.specs.Sets.{stands}
use Rattle.balancer.specs.declared.group.Group.{Group}

-- the numbers that are known of an OSD
abbrev pub row_of : List (List ℕ) → ℕ → List ℕ
row_of rows osd = slice_index_or rows osd []

-- a number stands in a list
abbrev pub HasNumber : ℕ → List ℕ → Type 0
HasNumber n row = list_any (λ k. k == n) row ≡ true

-- a number comes behind those of an OSD
abbrev pub put_in : List (List ℕ) → ℕ → ℕ → List (List ℕ)
put_in rows osd n = slice_set rows osd (row_of rows osd ++ n ∷ [])

-- a number has come behind those of some OSDs, and nothing else has changed
pub record AreLonger (n : ℕ) (before after : List (List ℕ)) : Type 0 where
  pub many : length after ≡ length before
  pub each : (osd : ℕ) → (more : List ℕ) × (row_of after osd ≡ row_of before osd ++ more) × All (λ k. k ≡ n) more

-- a number is known of each OSD at some places
abbrev pub IsKnownAt : ℕ → List (List ℕ) → (ℕ → Type 0) → Type 0
IsKnownAt n rows Stands = (osd : ℕ) → osd < length rows → Stands osd → HasNumber n (row_of rows osd)

-- each group that stands on an OSD is known there, and what is known are groups
pub record AreRowsOf (gs : List Group) (rows : List (List ℕ)) : Type 0 where
  pub there : (osd : ℕ) → All (λ n. n < length gs) (row_of rows osd)
  pub each : (osd n : ℕ) (g : Group) → osd < length rows → n < length gs → slice_index_or gs n g ≡ g
      → stands osd g.places ≡ true → HasNumber n (row_of rows osd)

-- ---- the lowest group that passes a test

-- whether a number is lower than the lowest so far
abbrev pub is_lower : ℕ → Option ℕ → Bool
is_lower n None = true
is_lower n (Some lowest) = nat_lt n lowest

-- the lowest number so far, or a lower one whose group passes
abbrev pub lowest_with : Bool → ℕ → Option ℕ → Option ℕ
lowest_with passes n lowest = if is_lower n lowest && passes then Some n else lowest
