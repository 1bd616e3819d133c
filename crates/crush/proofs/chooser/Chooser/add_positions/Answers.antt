use Rattle.std.proofs.Common.{◌≡◌, ◌-◌, ◌++◌, List, take, map, length, min, ap, sym, ◌∙◌, arith, rules}
use Rattle.std.proofs.lemmas.List.{take_all}
use Rattle.crush.specs.declared.choose.Position.{Position}
use Rattle.crush.specs.Placed.{choosing}
use Rattle.crush.specs.Indep.{leaf_at, indep}
use Rattle.crush.proofs.Segments.{positions_is}
use Rattle.crush.proofs.chooser.Chooser.add_positions.Goals as goal

pub returns-clause-value : goal.returns-clause-value
returns-clause-value c =
    let a = c.args in
    let k = choosing a.self.now in
    let items = c.indep.new.positions in
    let found = a.found.now.items in
    let len : length items ≡ c.min.result = search rules in
    let count : length items ≡ min k.numrep (a.self.now.size - length found) = omega (arith, len, a.found.now.ok.0) in
    let all : take c.loop-position.position-index items ≡ items = take_all c.loop-position.position-index items (omega arith) in
    c.loop-position.invariant
    ∙ ap (λ (ys : List Position). found ++ map leaf_at ys) all
    ∙ positions_is k a.start.now a.self.now.size (length items) found items c.requires.kept count (c.indep.ensures.value ∙ ap (indep k a.start.now) (sym c.indep.auto.positions))
