use Rattle.mapjson.proofs.ChangeFits.{pools_fit_each, pool_ids_are_words}
use Rattle.mapjson.proofs.change.within.pools_within.Goals as goal

pub pools-requires : goal.pools-requires
pools-requires c = rw c.deref.ensures (pools_fit_each c.args.stated.now c.requires).come

pub growths-requires : goal.growths-requires
growths-requires c = rw c.deref-2.ensures (pools_fit_each c.args.stated.now c.requires).grow

pub words-requires : goal.words-requires
words-requires c = rw c.deref-3.ensures (pool_ids_are_words c.args.stated.now.gone (pools_fit_each c.args.stated.now c.requires).gone)
