use Rattle.std.proofs.Common.{take}
use Rattle.std.specs.List.{All}
use Rattle.maptypes.specs.Growth.{IsGrowth}
use Rattle.maptypes.proofs.change.are_growths.Given as goal

-- the growths so far
abbrev pub invariant-loop-growth : goal.invariant-loop-growth
invariant-loop-growth l = All IsGrowth (take l.growth-index l.growths)
