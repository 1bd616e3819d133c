use Rattle.std.proofs.Common.{◌∷◌, ◌||◌, true≢false, sym, ap, ◌∙◌}
use Rattle.std.specs.List.{list_any}
use Rattle.std.specs.Str.{bytes_eq}
use Rattle.partjson.proofs.Held.{first_takes}
use Rattle.partjson.proofs.objects.AndFields.take.Goals as goal

pub returns-then-is : goal.returns-then-is
returns-then-is g c =
    let t = c.in_ok-take.ensures in
    let k = c.args.key.now in
    let e = sym c.is.ensures ∙ c.if-is.true in
    (ap (λ b. b || list_any (bytes_eq k) (g.R.Fields.names c.args.self.now.rest)) e, ap (λ n. n ∷ g.R.Fields.names c.args.self.now.rest) t.2, (λ _. (t.0, t.1, first_takes g.F.Field.name g.F.Field.holds g.R.Fields.names g.R.Fields.hold g.met.R.Fields.stay k t.0 _ _ _ e t.2 t.3)), (λ no. absurd (true≢false no)))
