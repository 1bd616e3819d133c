use Rattle.maptypes.proofs.NamedParts.{joined_rise}
use Rattle.maptypes.proofs.named.join.Goals as goal

pub returns-clause-rising : goal.returns-clause-rising
returns-clause-rising c = joined_rise c.args.groups.now.items c.args.others.now c.put_all.new.list.items c.requires.some (cc (c.put_all.ensures.items))
