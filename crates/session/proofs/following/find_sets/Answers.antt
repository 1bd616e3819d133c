use Rattle.session.proofs.Told.{sets_told}
use Rattle.session.proofs.following.find_sets.Goals as goal

pub returns-clause-tells : goal.returns-clause-tells
returns-clause-tells c =
    sets_told c.args.follower.now c.sets_of.new.follower c.args.pool c.sets_of.result c.sets_of.ensures.same c.epoch.ensures.map
    c.sets_of.ensures.runs c.sets_of.ensures.finds
