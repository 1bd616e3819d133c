use Rattle.std.proofs.Common.{arith}
use Rattle.mapparts.specs.Changes.{reweight_fits}
use Rattle.mapjson.proofs.ChangeFits.{families_fit, change_fits_each}
use Rattle.mapjson.proofs.Tests.{all_from_test}
use Rattle.mapjson.proofs.change.within.parts_within.Goals as goal

pub osds_within-requires : goal.osds_within-requires
osds_within-requires c = (families_fit c.args.change.now c.requires).osds

pub reweights-requires : goal.reweights-requires
reweights-requires c =
    rw c.deref.ensures (all_from_test reweight_fits c.args.change.now.weights (change_fits_each c.args.change.now c.requires).weights)

pub exceptions_of-requires : goal.exceptions_of-requires
exceptions_of-requires c = (omega arith, rw c.deref-3.ensures (change_fits_each c.args.change.now c.requires).explicit.come)

pub exceptions_of-requires-2 : goal.exceptions_of-requires-2
exceptions_of-requires-2 c = (omega arith, rw c.deref-5.ensures (change_fits_each c.args.change.now c.requires).items.come)
