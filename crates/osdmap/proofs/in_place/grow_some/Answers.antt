use Rattle.std.proofs.Common.{◌∙◌, sym, ap, map}
use Rattle.maptypes.specs.Growth.{with_growths}
use Rattle.osdmap.proofs.CheckLemmas.{grown-none, none-there}
use Rattle.osdmap.proofs.in_place.grow_some.Goals as goal

pub returns-else-not-is_empty : goal.returns-else-not-is_empty
returns-else-not-is_empty c =
    let none = none-there c.args.growths.now c.is_empty.result c.is_empty.ensures c.if-not-is_empty.false in
    sym (ap (λ gs. map (with_growths gs) c.args.pools.now.items) none ∙ grown-none c.args.pools.now.items)
