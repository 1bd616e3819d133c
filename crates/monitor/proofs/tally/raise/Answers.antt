use Rattle.std.proofs.Common.{◌≡◌, ◌∙◌, ◌+◌, ap, sym, subst, Some, List, ℕ, slice_get}
use Rattle.tip.specs.declared.twins.Kept.{Kept}
use Rattle.monitor.specs.Tallies.{names_of}
use Rattle.monitor.proofs.Tallied.{within, names_set, total_set}
use Rattle.monitor.proofs.tally.raise.Goals as goal

pub returns-clause-names : goal.returns-clause-names
returns-clause-names c = names_set c.args.kept.now.items c.args.tally.now.at c.rise.new.self c.index_mut.result.now
    (c.rise.ensures.kept.0 ∙ ap (λ (k : Kept). k.name) c.index_mut.ensures.value)

pub returns-clause-total : goal.returns-clause-total
returns-clause-total c = total_set c.args.kept.now.items c.args.tally.now.at c.args.more c.rise.new.self c.index_mut.result.now
    (within c.args.kept.now.items c.args.tally.now.at _ c.requires) (c.rise.ensures.kept.1 ∙ ap (λ (k : Kept). k.count + c.args.more) c.index_mut.ensures.value)

pub returns-clause-own : goal.returns-clause-own
returns-clause-own c =
    let same = names_set c.args.kept.now.items c.args.tally.now.at c.rise.new.self c.index_mut.result.now
    (c.rise.ensures.kept.0 ∙ ap (λ (k : Kept). k.name) c.index_mut.ensures.value) in
    subst (λ (names : List ℕ). slice_get names c.args.tally.now.at ≡ Some c.rise.new.mine.name) (sym same)
    (subst (λ (n : ℕ). slice_get (names_of c.args.kept.now.items) c.args.tally.now.at ≡ Some n) (sym c.rise.ensures.mine.0) c.requires)
