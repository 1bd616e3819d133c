use Rattle.std.proofs.Common.{◌++◌, ◌∷◌, [], append_assoc, arith}
use Rattle.server.specs.Players.{KeepsPromise}
use Rattle.server.proofs.Paired.{pairs_more}
use Rattle.server.proofs.players.join_all.Goals as goal

pub loop-player-preserved : goal.loop-player-preserved
loop-player-preserved g c =
    let (done, paired, cut) = c.loop-player.invariant in
    let more = pairs_more KeepsPromise 1 done _ c.in-Some.player c.in_ok-left.left paired c.in_ok-left.ensures in
    (done ++ c.in-Some.player ∷ [], rw c.in_ok-push.ensures.items more, grind (arith, append_assoc))
