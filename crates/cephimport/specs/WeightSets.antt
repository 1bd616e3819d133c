-- The weights of the compat weight set (`choose_args`), which is in force for all pools and all places of a set.
use Rattle.std.specs.Prelude.{ℕ, ◌==◌, ℤ, pos, negsuc, ◌-ℤ◌, Bool, true, false, ◌&&◌, List, [], ◌∷◌, length, Option, Some, None, option_and_then, slice_get, if◌then◌else◌}
use Rattle.std.specs.Ordering.{int_eq}
use Rattle.std.specs.List.{find}
use Rattle.std.specs.Option.{option_map_or}
use Rattle.cephmap.specs.declared.crush.WeightSet.{WeightSet}
use Rattle.cephmap.specs.declared.crush.BucketWeights.{BucketWeights}

-- a weight set is the compat weight set: of no pool alone
abbrev pub is_compat : WeightSet → Bool
is_compat s = int_eq s.pool (negsuc 0)

-- what it has for a bucket, which stands in the place of -1 less its id
abbrev pub is_entry_of : BucketWeights → ℤ → Bool
is_entry_of e id = int_eq (pos e.place) (negsuc 0 -ℤ id)

-- the entry of a bucket among these
abbrev pub compat_entry_in : List BucketWeights → ℤ → Option BucketWeights
compat_entry_in entries id = find (λ e. is_entry_of e id) entries

-- the entry that the compat weight set has for a bucket
abbrev pub compat_entry : List WeightSet → ℤ → Option BucketWeights
compat_entry sets id = option_and_then (λ s. compat_entry_in s.buckets id) (find is_compat sets)

-- the weight at a place of a row, where this is as long as a bucket
abbrev pub in_row : List ℕ → ℕ → ℕ → Option ℕ
in_row row size i = if length row == size then slice_get row i else None

-- the weight at a place of the only row, where there is one row and it is as long as the bucket
abbrev pub one_row_weight : List (List ℕ) → ℕ → ℕ → Option ℕ
one_row_weight [] size i = None
one_row_weight (row ∷ []) size i = in_row row size i
one_row_weight (row ∷ other ∷ rows) size i = None

-- the weight of the item at a place of a bucket's items
unfoldable pub set_weight : List WeightSet → ℤ → List ℤ → ℕ → Option ℕ
set_weight sets id items i = option_and_then (λ e. one_row_weight e.weights (length items) i) (compat_entry sets id)

-- one row at most, as long as a bucket
abbrev pub is_long : List ℕ → ℕ → Bool
is_long row size = length row == size

-- there is one row at most, and it is as long as the bucket
abbrev pub are_long : List (List ℕ) → ℕ → Bool
are_long [] size = true
are_long (row ∷ []) size = is_long row size
are_long (row ∷ other ∷ rows) size = false

-- no other ids, and one row at most
abbrev pub entry_fits : BucketWeights → ℕ → Bool
entry_fits e size = length e.ids == 0 && are_long e.weights size

-- what the compat weight set has for a bucket fits it, if it has anything
unfoldable pub set_fits : List WeightSet → ℤ → List ℤ → Bool
set_fits sets id items = option_map_or (λ e. entry_fits e (length items)) (compat_entry sets id) true
