use Rattle.osdmap.proofs.MappedExist.{mapped_exist}
use Rattle.placement_laws.proofs.mapped_exist.Goals as goal

pub returns : goal.returns
returns c = mapped_exist
