use Rattle.std.proofs.Common.{ap, ◌∙◌}
use Rattle.crush.specs.Placed.{world}
use Rattle.crush.specs.Descent.{item_below}
use Rattle.crush.proofs.Descents.{steady}
use Rattle.crush.proofs.placement.Placement.descend_at.Goals as goal

pub returns : goal.returns
returns c =
    let w = world c.args.self.now in
    let b = c.args.start.now.bucket.now in
    c.descend.ensures.value
    ∙ ap (λ r. item_below w r c.args.wanted b) (steady c.args.r)
