use Rattle.std.proofs.Common.{◌≡◌, drop, length}
use Rattle.std.specs.List.{fold}
use Rattle.osdmap.specs.Changes.{with_weight}
use Rattle.osdmap.proofs.in_place.set_weights.Given as goal

abbrev pub invariant-loop-reweight : goal.invariant-loop-reweight
invariant-loop-reweight l = record {
  rest : fold with_weight l.initial.weights l.reweights ≡ fold with_weight l.weights (drop l.reweight-index l.reweights);
  sized : length l.weights ≡ length l.initial.weights;
}
