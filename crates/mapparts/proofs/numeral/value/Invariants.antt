use Rattle.std.proofs.Common.{◌≡◌, ◌^◌, ◌≤◌, drop}
use Rattle.std.specs.Option.{option_map}
use Rattle.mapparts.specs.Digits.{value_after, below}
use Rattle.mapparts.proofs.numeral.value.Given as goal

-- the digits that are left make of the number so far what all of them make, as far as it has 64 bits
abbrev pub invariant-loop-byte : goal.invariant-loop-byte
invariant-loop-byte l =
    (option_map (below (2 ^ 64)) (value_after l.base l.value (drop l.byte-index l.digits)) ≡ option_map (below (2 ^ 64)) (value_after l.base 0 l.digits))
    × (l.value ≤ 2 ^ 64)
