use Rattle.std.proofs.Common.{◌∙◌, ap, arith}
use Rattle.pgtable.specs.Index.{count_in}
use Rattle.balancer.proofs.GroupsOnOsds.{count_small}
use Rattle.balancer.proofs.shares.count.Goals as goal

pub returns-clause-value : goal.returns-clause-value
returns-clause-value c =
    c.count_in.ensures.value c.args.map.now.map c.requires.table ∙ ap (λ id. count_in c.args.map.now.map id c.args.osd) c.id.ensures

pub returns-clause-few : goal.returns-clause-few
returns-clause-few c =
    let is = c.count_in.ensures.value c.args.map.now.map c.requires.table ∙ ap (λ id. count_in c.args.map.now.map id c.args.osd) c.id.ensures in
    omega (arith, is, count_small c.args.map.now.map c.args.pool.now c.args.osd c.holds_together.ensures c.requires.there, c.is_within_limits.ensures.groups_most)
