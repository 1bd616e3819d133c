-- How many changes each member has made, and how many all of them.
use Rattle.std.specs.Prelude.{◌≡◌, ℕ, List, map, Some, slice_get}
use Rattle.std.specs.List.{sum_by}
use Rattle.tip.specs.declared.twins.Kept.{Kept}
use Rattle.monitor.specs.declared.tally.Tally.{Tally}

-- the names of some counts, and what they come to
abbrev pub names_of : List Kept → List ℕ
names_of kept = map (λ k. k.name) kept

-- what some counts come to
abbrev pub total_of : List Kept → ℕ
total_of kept = sum_by (λ k. k.count) kept

-- of counts with these names a tally's stands at its place
abbrev pub IsTallyOf : List ℕ → Tally → Type 0
IsTallyOf names tally = slice_get names tally.at ≡ Some tally.mine.name

-- and nothing is counted yet
pub record IsNewTallyOf (names : List ℕ) (tally : Tally) : Type 0 where
  pub own : IsTallyOf names tally
  pub none : tally.mine.count ≡ 0
