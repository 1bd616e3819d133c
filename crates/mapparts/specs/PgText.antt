-- The parts in the text of a group: the pool's id in decimal, a point, and the number in lower hexadecimal, both
-- without leading zeros (Ceph, pg_t::print).
use Rattle.std.specs.Prelude.{ℕ, ◌+◌, ◌^◌, ◌==◌, Bool, List, take, drop, position, Option, option_and_then}
use Rattle.std.specs.Option.{option_map}
use Rattle.mapparts.specs.Digits.{below, number_in}
use Rattle.mapparts.specs.declared.pg_parts.PgParts.{PgParts}

-- a number of at most 32 bits
abbrev pub within : ℕ → Option ℕ
within n = below (2 ^ 32) n

-- the number that a text is, and in it nothing where it has more than 32 bits
abbrev pub part_in : ℕ → List ℕ → Option (Option ℕ)
part_in base text = option_map within (number_in base text)

-- the byte of a point
abbrev pub is_point : ℕ → Bool
is_point c = c == 46

-- the parts that a text states, each only where it has at most 32 bits; none where the text is that of no group
unfoldable pub parts_in : List ℕ → Option PgParts
parts_in text =
    option_and_then (λ point. option_and_then (λ pool. option_map (λ number. record { pool = pool; number = number })
    (part_in 16 (drop (point + 1) text))) (part_in 10 (take point text))) (position is_point text)
