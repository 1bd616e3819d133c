-- What the code goes by, as the definitions have it.
use Rattle.crush.specs.declared.chooser.Chooser.{Chooser}
use Rattle.crush.specs.declared.placement.Placement.{Placement}
use Rattle.crush.specs.declared.work.Lists.{Lists}
use Rattle.crush.specs.Choosing.{Choosing}
use Rattle.crush.specs.Run.{Progress}
use Rattle.crush.specs.World.{World, world_of}

-- a placement
abbrev pub world : Placement → World
world p = world_of p.forest.now p.weights.now p.x

-- a choose step of it
abbrev pub choosing : Chooser → Choosing
choosing k = record { world = world k.placement; choose = k.choose; tries = k.tries; numrep = k.numrep }

-- what the steps so far have come to
abbrev pub progress : Lists → Progress
progress l = record { tries = l.tries; working = l.working.items; emitted = l.emitted.items }
