use Rattle.std.proofs.Common.{◌≡◌, length, take}
use Rattle.pgtable.proofs.PoolPatches.{InstalledLast}
use Rattle.pgtable.proofs.install.install_some.Given as goal

-- the patches that are left are the first, and the others are put in
abbrev pub invariant-loop-one : goal.invariant-loop-one
invariant-loop-one l = (l.some.items ≡ take (length l.some.items) l.initial.some.items) × InstalledLast l.initial.pools l.initial.some.items (length l.some.items) l.pools

abbrev pub decreases-loop-one : goal.decreases-loop-one
decreases-loop-one l = length l.some.items
