use Rattle.std.proofs.Common.{◌^◌, ℤ, get_or, pos, w32, SFits, rules}
use Rattle.std.specs.Prelude.{◌<ℤ◌, ◌≤ℤ◌, neg_ℤ}
use Rattle.std.proofs.lemmas.List.{take_all}
use Rattle.std.proofs.lemmas.List.Elements.{All-more}
use Rattle.balancer.proofs.DeviationsSmall.{word_small}
use Rattle.balancer.proofs.shares.are_small.Goals as goal

pub loop-groups-preserved : goal.loop-groups-preserved
loop-groups-preserved c =
    let i = c.loop-groups.groups-index in
    let fits : SFits w32 (get_or c.args.carried.now i (pos 0)) = search rules in
    All-more (λ (n : ℤ). (n <ℤ pos (2 ^ 31)) × (neg_ℤ (pos (2 ^ 31)) ≤ℤ n)) c.args.carried.now i (pos 0) c.loop-groups-test.true c.loop-groups.invariant (word_small (get_or c.args.carried.now i (pos 0)) fits)

pub returns : goal.returns
returns c = rw (take_all c.loop-groups.groups-index c.args.carried.now c.loop-groups-test.false) at c.loop-groups.invariant
