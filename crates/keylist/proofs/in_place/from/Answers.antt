use Rattle.std.proofs.Common.{◌≡◌, ◌∙◌, rules, tests, arith, refl}
use Rattle.std.specs.Prelude.{nat_lt}
use Rattle.std.specs.List.{prefix_len}
use Rattle.std.proofs.lemmas.List.{take_all, length-drop}
use Rattle.std.proofs.lemmas.List.Folds.{length-prefix_len}
use Rattle.std.proofs.lemmas.Iterator.{YieldsList-from_slice}
use Rattle.std.proofs.lemmas.Iterator.Consumers.{count_from_yields_List}
use Rattle.std.proofs.lemmas.Iterator.Search.{YieldsList-from_take_while}
use Rattle.keylist.proofs.in_place.from.Goals as goal

pub returns : goal.returns
returns g c =
    let test = λ (x : g.row.G.Denot). nat_lt (g.G.Keyed.key_of x) c.args.key in
    let many : c.count-below.result ≡ prefix_len test c.args.gone.now = count_from_yields_List c.take_while.result _ c.count-below.ensures.ran
    (YieldsList-from_take_while _ test (YieldsList-from_slice c.args.gone.now cc) c.take_while.ensures.closure c.take_while.ensures.done (λ x b q k. search (rules, tests)))
    ∙ length-prefix_len test c.args.gone.now in
    take_all _ _ (omega (arith, length-drop c.count-below.result c.args.gone.now)) ∙ rw many refl
