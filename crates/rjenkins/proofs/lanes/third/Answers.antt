use Rattle.std.proofs.Common.{refl}
use Rattle.rjenkins.specs.Jenkins.{third}
use Rattle.rjenkins.proofs.lanes.third.Goals as goal

pub returns : goal.returns
unfolding third
returns c j h = rw (c.right-c.ensures j h, c.left-b.ensures j h, c.right-a.ensures j h) refl
