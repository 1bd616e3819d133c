use Rattle.std.proofs.Common.{take}
use Rattle.std.specs.List.{All}
use Rattle.maptypes.specs.GroupText.{IsNamedByText}
use Rattle.maptypes.proofs.named.are_read_back.Given as goal

-- the entries so far
abbrev pub invariant-loop-entry : goal.invariant-loop-entry
invariant-loop-entry g l = All (λ e. IsNamedByText (g.G.NamesGroup.named e)) (take l.entry-index l.entries)
