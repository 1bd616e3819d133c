-- Pools that a change touches, and the evaluations of a change.
use Rattle.std.proofs.Common.{◌≡◌, false, None}
use Rattle.std.proofs.lemmas.List.Folds.{list_any_none}
use Rattle.maptypes.specs.declared.change.ChangeParts.{ChangeParts}
use Rattle.maptypes.specs.CrushMaps.{rule_at}
use Rattle.maptypes.specs.Pools.{PoolFacts}
use Rattle.osdmap.specs.Maps.{ClusterMap}
use Rattle.osdmap.specs.Evals.{reaches_reweighted}

-- a pool without a rule reaches nothing
pub no_rule : (m : ClusterMap) (c : ChangeParts) (p : PoolFacts) → rule_at m.rules p.rule ≡ None → reaches_reweighted m c p ≡ false
unfolding reaches_reweighted
no_rule m c p none = list_any_none _ c.weights (λ k d below. rw none)
