use Rattle.std.proofs.Common.{◌≡◌, List, refl, subst}
use Rattle.maptypes.specs.Incrementals.{Step}
use Rattle.epochlog.specs.Epochs.{Begins}
use Rattle.server.proofs.Joined.{begins_on}
use Rattle.server.proofs.players.is_followed.Goals as goal

pub returns-in-None-clause-begins : goal.returns-in-None-clause-begins
returns-in-None-clause-begins c = rw c.in-None.is (c.args.all.now.history, refl)

pub returns-else-epoch-clause-begins : goal.returns-else-epoch-clause-begins
returns-else-epoch-clause-begins c = rw c.in-Some.is
    (begins_on c.in-Some.follower.history c.in-Some.follower.seen c.join.new.self.history c.pass-pass.ensures.front
    (subst (λ (s : List Step). Begins s c.join.new.self.history) c.pass-pass.ensures.seen c.join.ensures.theirs))
