use Rattle.osdmap.proofs.MappedAlike.{mapped_reads_named}
use Rattle.placement_laws.proofs.mapped_reads_named.Goals as goal

pub returns : goal.returns
returns c = mapped_reads_named
