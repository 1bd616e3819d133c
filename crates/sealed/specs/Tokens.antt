-- What a list of tokens knows.
use Rattle.std.specs.Prelude.{ℕ, List, map, take}
use Rattle.std.specs.List.{filter_map}
use Rattle.sealed.specs.declared.known.Known.{Known}

-- the names of the cells that the tokens are of
abbrev pub cells_of : {T : Type 0} → List (Known T) → List ℕ
cells_of ks = map (λ k. k.cell) ks

-- the values that the first so many tokens know, in order
abbrev pub values_of : {T : Type 0} → ℕ → List (Known T) → List T
values_of n ks = filter_map (λ k. k.known) (take n ks)
