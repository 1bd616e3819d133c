use Rattle.std.proofs.Common.{ap, ◌∙◌}
use Rattle.crush.specs.Placed.{world}
use Rattle.crush.specs.Descent.{item_below}
use Rattle.crush.proofs.Descents.{steady}
use Rattle.crush.proofs.placement.Placement.device_at.Goals as goal

pub returns-clause-value : goal.returns-clause-value
returns-clause-value c =
    let w = world c.args.self.now in
    let b = c.args.start.now.bucket.now in
    c.device.ensures.value
    ∙ ap (λ r. item_below w r 0 b) (steady c.args.r)
