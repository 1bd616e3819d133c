use Rattle.server.proofs.Played.{left_by}
use Rattle.server.proofs.players.fn.play_in_threads.scope.Goals as goal

pub returns : goal.returns
returns g c =
    record {
      left =
          left_by c.captures.monitor.now c.in_ok-players.players.items c.captures.parts.now c.in_ok-lefts.lefts.items
          c.in_ok-players.ensures c.in_ok-lefts.ensures;
      pass_is = c.in_ok-all.ensures.0;
      none = c.in_ok-all.ensures.1;
    }
