use Rattle.osdmap.proofs.StandingUp.{up_are_mapped_and_up}
use Rattle.placement_laws.proofs.up_are_mapped_and_up.Goals as goal

pub returns : goal.returns
returns c = up_are_mapped_and_up
