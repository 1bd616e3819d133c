-- An OSD of a set that goes to another: its first place is written.
use Rattle.std.proofs.Common.{◌≡◌, ℕ, List, [], ◌∷◌, position, Option, Some, None, refl, arith}
use Rattle.std.proofs.Math.ListN.{set}
use Rattle.std.specs.List.{position_or_len}
use Rattle.std.proofs.lemmas.Grind.{common_steps}
use Rattle.std.proofs.lemmas.List.{set_past}
use Rattle.maptypes.specs.declared.exception.Pair.{Pair}
use Rattle.maptypes.specs.Sets.{replace, is_of}

-- the first place is written, if there is one
replaced_first : (pair : Pair) (xs : List (Option ℕ)) → replace pair xs ≡ set xs (position_or_len (is_of pair.from) xs) (Some pair.to)
unfolding replace
replaced_first pair [] = refl
replaced_first pair (x ∷ xs) = grind (arith, common_steps, replaced_first pair xs)

-- where the OSD stands nowhere, the places stay
pub replaced_nowhere : (pair : Pair) (xs : List (Option ℕ)) → position (is_of pair.from) xs ≡ None → replace pair xs ≡ xs
replaced_nowhere pair xs none = grind (arith, common_steps, replaced_first pair xs, set_past {X = Option ℕ})

-- else the place where it stands first is written
pub replaced_at : (pair : Pair) (xs : List (Option ℕ)) (k : ℕ) → position (is_of pair.from) xs ≡ Some k → replace pair xs ≡ set xs k (Some pair.to)
replaced_at pair xs k at = grind (arith, common_steps, replaced_first pair xs)
