use Rattle.buckets.proofs.TreeWalks.{height_is}
use Rattle.buckets.proofs.pick.tree.height.Goals as goal

pub returns : goal.returns
returns c = height_is c.args.count c.requires.some c.requires.few
