-- The numbers in the text of a group.
use Rattle.std.proofs.Common.{◌≡◌, ℕ, ◌^◌, List, Option, Some, None, option_and_then, refl, ap, arith}
use Rattle.std.specs.Option.{option_map}
use Rattle.mapparts.specs.Digits.{below, number_in}
use Rattle.mapparts.specs.PgText.{within, part_in}

-- a number of 32 bits is one of 64
within-below : (n : ℕ) → option_and_then within (below (2 ^ 64) n) ≡ within n
within-below n = grind arith

-- the same of the number that a text may be
within-read : (o : Option ℕ) → option_map (option_and_then within) (option_map (below (2 ^ 64)) o) ≡ option_map within o
within-read None = refl
within-read (Some n) = ap Some (within-below n)

-- a number that was read is that of a part, where it is narrowed
pub part_of_number : (base : ℕ) (text : List ℕ) → option_map (option_and_then within) (option_map (below (2 ^ 64)) (number_in base text)) ≡ part_in base text
part_of_number base text = within-read (number_in base text)
