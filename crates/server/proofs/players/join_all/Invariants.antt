use Rattle.std.proofs.Common.{◌≡◌, ◌++◌, List}
use Rattle.std.specs.Vec.Iter.{into_iter_items}
use Rattle.server.specs.Pairs.{Pairs}
use Rattle.server.specs.Players.{KeepsPromise}
use Rattle.server.proofs.players.join_all.Given as goal

-- the texts so far are those of the threads that have been joined
abbrev pub invariant-loop-player : goal.invariant-loop-player
invariant-loop-player g l =
    (done : List _) × Pairs KeepsPromise 1 done l.lefts.items × (l.fn.players.items ≡ done ++ into_iter_items l.player-iterator)
