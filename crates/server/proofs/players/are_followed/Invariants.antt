use Rattle.std.proofs.Common.{◌≡◌, All, take}
use Rattle.server.specs.Players.{FollowsIn}
use Rattle.server.proofs.players.are_followed.Given as goal

-- the pass has seen what it had, and each follower so far begins that
abbrev pub invariant-loop-left : goal.invariant-loop-left
invariant-loop-left l = (l.all ≡ l.fn.all) × All (FollowsIn l.all.history) (take l.left-index l.lefts)
