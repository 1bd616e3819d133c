use Rattle.std.proofs.Common.{◌∙◌}
use Rattle.jsonstream.specs.Stream.{next}
use Rattle.partjson.proofs.Held.{held_in, held_past, passed}
use Rattle.partjson.proofs.objects.take_or_skip.Goals as goal

pub returns-then-branch : goal.returns-then-branch
returns-then-branch g c =
    let t = c.in_ok-take.ensures in
    let m = t.2 c.if-branch.true in
    (m.0, m.1, held_in g.F.Fields.names g.F.Fields.hold c.args.key.now m.0 _ _ (t.0 ∙ c.if-branch.true) t.1 m.2)

pub returns : goal.returns
returns g c =
    let t = c.in_ok-take.ensures in
    let m = t.3 c.if-branch.false in
    passed (next c.args.depth) _ _ _ _ m.0 c.in_ok-skip.ensures (held_past g.F.Fields.names g.F.Fields.hold g.met.F.Fields.stay c.args.key.now _ _ m.1 (t.0 ∙ c.if-branch.false))
