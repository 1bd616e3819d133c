use Rattle.std.proofs.Common.{◌≡◌, ◌-◌, ◌++◌, List, Some, map, take, length, ap, ◌∙◌, arith}
use Rattle.std.proofs.lemmas.List.{take_all}
use Rattle.crush.specs.declared.choose.Choice.{Choice}
use Rattle.crush.specs.Placed.{choosing}
use Rattle.crush.proofs.Segments.{packed_is}
use Rattle.crush.proofs.chooser.Chooser.add_packed.Goals as goal

pub returns-clause-value : goal.returns-clause-value
returns-clause-value c =
    let a = c.args in
    let items = c.deref-choice-items.result.now in
    let found = a.found.now.items in
    let room : c.saturating_sub-room.result ≡ a.self.now.size - length found = omega (arith, a.found.now.ok.0) in
    let all : take c.loop-choice.choice-index items ≡ items = take_all c.loop-choice.choice-index items (omega arith) in
    c.loop-choice.invariant
    ∙ ap (λ (ys : List Choice). found ++ map (λ (e : Choice). Some e.leaf) ys) all
    ∙ packed_is (choosing a.self.now) a.start.now a.self.now.size c.saturating_sub-room.result found items c.requires.packed room (c.deref-choice-items.ensures.value ∙ c.in_ok-firstn.ensures.value)
