use Rattle.std.proofs.Common.{◌≡◌, ◌++◌, false, map, take}
use Rattle.std.specs.List.{concat}
use Rattle.server.specs.Serving.{text_left}
use Rattle.server.proofs.runs.put.Given as goal

-- the texts so far are out, and no write has failed
abbrev pub invariant-loop-left : goal.invariant-loop-left
invariant-loop-left g l =
    (g.W.Sink.written l.out ≡ g.W.Sink.written l.fn.out ++ concat (map text_left (take l.left-index l.lefts)))
    × (g.W.Sink.has_failed l.out ≡ false)
