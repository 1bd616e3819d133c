use Rattle.std.proofs.Common.{◌-◌, ◌↔◌}
use Rattle.crush.specs.Forest.{level_of}
use Rattle.crush.proofs.Above.{IsAbove}
use Rattle.crush.proofs.forest.Forest.is_above.Given as goal

-- the bucket stands above the item just where it stands above what was reached
abbrev pub invariant-loop-parent : goal.invariant-loop-parent
invariant-loop-parent l = IsAbove l.self l.bucket l.below ↔ IsAbove l.self l.bucket l.item

abbrev pub decreases-loop-parent : goal.decreases-loop-parent
decreases-loop-parent l = 16 - level_of l.self l.below
