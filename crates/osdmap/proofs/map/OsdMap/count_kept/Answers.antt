use Rattle.std.proofs.Common.{◌∙◌, sym, ap, length}
use Rattle.osdmap.proofs.CheckLemmas.{kept-all, none-there}
use Rattle.osdmap.proofs.map.OsdMap.count_kept.Goals as goal

pub returns-then-is_empty : goal.returns-then-is_empty
returns-then-is_empty c =
    let none = none-there c.deref.result.now c.is_empty.result c.is_empty.ensures c.if-is_empty.true in
    let old = sym (c.deref.ensures ∙ ap (λ p. p.pools.gone) c.parts.ensures.value) ∙ none in
    ap length (c.pools.ensures ∙ sym (kept-all c.args.self.now.map c.args.change.now old))
