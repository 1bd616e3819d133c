use Rattle.osdmap.proofs.Accepted.{accepted}
use Rattle.maptypes.proofs.NamedParts.{named_rise}
use Rattle.pgtable.proofs.candidates.names_rise.Goals as goal

pub returns : goal.returns
returns c = named_rise c.args.change.now (accepted c.args._map.now.map c.args.change.now c.requires).once c.parts.ensures.in_order
