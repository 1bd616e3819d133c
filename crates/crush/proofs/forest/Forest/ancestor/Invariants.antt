use Rattle.std.proofs.Common.{ℤ, ◌-◌, ◌↔◌}
use Rattle.crush.specs.Forest.{level_of}
use Rattle.crush.specs.Paths.{IsAncestor}
use Rattle.crush.proofs.forest.Forest.ancestor.Given as goal

-- the item has the same ancestors of this type as what was reached
abbrev pub invariant-loop-bucket : goal.invariant-loop-bucket
invariant-loop-bucket l = (a : ℤ) → IsAncestor l.self l.below l.level a ↔ IsAncestor l.self l.item l.level a

abbrev pub decreases-loop-bucket : goal.decreases-loop-bucket
decreases-loop-bucket l = 16 - level_of l.self l.below
