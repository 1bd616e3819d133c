-- The other sets of groups of pools, as they are kept: those of pools that get any, by the pool's position.
use Rattle.std.specs.Prelude.{◌≡◌, ℕ, ◌<◌, ◌==◌, List, map, Option, Some, slice_get}
use Rattle.std.specs.List.{find, range_with_len}
use Rattle.std.specs.Option.{option_map}
use Rattle.grouptable.specs.declared.table.GroupPatch.{GroupPatch}
use Rattle.pgtable.specs.declared.group_patches.PoolPatch.{PoolPatch}

-- the other sets of the pool at a position, if any
abbrev pub patch_at : List PoolPatch → ℕ → Option GroupPatch
patch_at some at = option_map (λ p. p.patch) (find (λ p. p.at == at) some)

-- those of so many pools, by position
abbrev pub patches_by : List PoolPatch → ℕ → List (Option GroupPatch)
patches_by some count = map (patch_at some) (range_with_len 0 count)

-- the positions rise, and stand below a number
pub record AreBelow (some : List PoolPatch) (count : ℕ) : Type 0 where
  pub below : (i : ℕ) (p : PoolPatch) → slice_get some i ≡ Some p → p.at < count
  pub rise : (i j : ℕ) (p q : PoolPatch) → i < j → slice_get some i ≡ Some p → slice_get some j ≡ Some q → p.at < q.at
