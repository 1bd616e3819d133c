use Rattle.std.proofs.Common.{length, arith}
use Rattle.server.proofs.Opened.{can_open_stated}
use Rattle.server.proofs.Played.{served_stated}
use Rattle.server.proofs.runs.serve.Goals as goal

pub returns-in-Ok-clause-served : goal.returns-in-Ok-clause-served
returns-in-Ok-clause-served g c =
    let opens = can_open_stated c.args.terms.profile c.args.map.now c.in-Ok.map.map c.args.terms.journal (length c.args.parts.now) c.in-Ok.ensures.0 c.in-Ok.ensures.1 c.args.terms.least c.args.terms.most
    (omega (arith, c.requires.some)) (omega (arith, c.requires.few)) in
    served_stated _ c.serve_map.result c.in-Ok.map.map c.args.terms.journal c.args.terms.profile c.args.map.now c.args.parts.now _ _
    c.in-Ok.ensures.0 c.in-Ok.ensures.1 opens c.serve_map.ensures.served
