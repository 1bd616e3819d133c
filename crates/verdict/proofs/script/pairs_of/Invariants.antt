use Rattle.std.proofs.Common.{◌≡◌, map}
use Rattle.std.specs.List.{range_with_len}
use Rattle.verdict.specs.Scripts.{pair_by_twos}
use Rattle.verdict.proofs.script.pairs_of.Given as goal

abbrev pub invariant-loop-place : goal.invariant-loop-place
invariant-loop-place l = l.pairs ≡ map (pair_by_twos l.osds) (range_with_len 0 l.place)
