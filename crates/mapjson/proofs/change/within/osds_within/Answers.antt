use Rattle.mapjson.proofs.ChangeFits.{osds_fit_each, osds_are_words}
use Rattle.mapjson.proofs.change.within.osds_within.Goals as goal

pub words-requires : goal.words-requires
words-requires c = rw c.deref.ensures (osds_are_words c.args.stated.now.down (osds_fit_each c.args.stated.now c.requires).down)

pub words-requires-2 : goal.words-requires-2
words-requires-2 c = rw c.deref-2.ensures (osds_are_words c.args.stated.now.up (osds_fit_each c.args.stated.now c.requires).up)
