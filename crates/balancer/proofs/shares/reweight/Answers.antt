use Rattle.std.proofs.Common.{◌∙◌, ap, arith}
use Rattle.std.specs.Option.{option_map_or}
use Rattle.balancer.proofs.WeightsOfCandidates.{reweight_shown, reweight_small}
use Rattle.balancer.proofs.shares.reweight.Goals as goal

pub returns-in-Some-clause-value : goal.returns-in-Some-clause-value
returns-in-Some-clause-value c = ap (λ o. option_map_or (λ s. s.weight) o 0) c.in-Some.ensures ∙ reweight_shown c.args.map.now.map c.args.osd c.holds_together.ensures

pub returns-in-Some-clause-few : goal.returns-in-Some-clause-few
returns-in-Some-clause-few c =
    let is = ap (λ o. option_map_or (λ s. s.weight) o 0) c.in-Some.ensures ∙ reweight_shown c.args.map.now.map c.args.osd c.holds_together.ensures in
    let small = reweight_small c.args.map.now.map c.args.osd c.holds_together.ensures in
    omega (arith, is, small)

pub returns-in-None-clause-value : goal.returns-in-None-clause-value
returns-in-None-clause-value c = ap (λ o. option_map_or (λ s. s.weight) o 0) c.in-None.ensures ∙ reweight_shown c.args.map.now.map c.args.osd c.holds_together.ensures
