-- The text of a group: the pool's id in decimal, a point, and the number in lower hexadecimal, both without leading
-- zeros (Ceph, pg_t::print).
use Rattle.std.specs.Prelude.{◌≡◌, ℕ, false, List, ◌∷◌, ◌++◌, Option, Some, option_and_then}
use Rattle.std.specs.Option.{option_map}
use Rattle.std.specs.Fmt.{digits, decimal}
use Rattle.mapparts.specs.declared.pg_parts.PgParts.{PgParts}
use Rattle.mapparts.specs.PgText.{parts_in}
use Rattle.maptypes.specs.declared.pg.Pg.{Pg}

-- a group of two parts
abbrev pub group_of_parts : PgParts → Option Pg
group_of_parts parts =
    option_and_then (λ pool. option_map (λ number. record { pool = pool; number = number }) parts.number) parts.pool

-- the group that a text names
abbrev pub group_in : List ℕ → Option Pg
group_in text = option_and_then group_of_parts (parts_in text)

-- the text of a group
abbrev pub group_text : Pg → List ℕ
group_text pg = decimal pg.pool ++ 46 ∷ digits 16 false pg.number

-- the text of a group names that group
abbrev pub TextNamesGroup : ℕ → ℕ → Type 0
TextNamesGroup pool number = let pg : Pg = record { pool = pool; number = number } in group_in (group_text pg) ≡ Some pg

-- a group is the one that its text names
abbrev pub IsNamedByText : Pg → Type 0
IsNamedByText g = TextNamesGroup g.pool g.number
