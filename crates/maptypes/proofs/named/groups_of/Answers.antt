use Rattle.maptypes.proofs.NamedParts.{groups_rise_all}
use Rattle.maptypes.proofs.named.groups_of.Goals as goal

pub returns-clause-rising : goal.returns-clause-rising
returns-clause-rising g c = groups_rise_all c.args.exceptions.now c.loop-exception.groups.items c.loop-exception.exception-index c.requires c.loop-exception.invariant c.loop-exception-test.false
