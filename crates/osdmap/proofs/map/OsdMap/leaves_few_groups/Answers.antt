use Rattle.std.proofs.Common.{◌≡◌, ◌∙◌, ◌≤◌, sym, rules, subst}
use Rattle.maptypes.specs.Pools.{total_groups}
use Rattle.osdmap.specs.Stored.{StoredMap}
use Rattle.osdmap.proofs.GroupTotals.{empty, few_stay}
use Rattle.osdmap.proofs.map.OsdMap.leaves_few_groups.Goals as goal

pub returns-then-is_empty-2 : goal.returns-then-is_empty-2
returns-then-is_empty-2 c =
    let few = subst (λ (k : StoredMap). total_groups k.map.pools ≤ 1048576) c.self.view_is c.self.invariant.pools.few_groups in
    let new : c.deref-new.result.now ≡ c.args.change.now.pools.come = search rules in
    let growths : c.deref-growths.result.now ≡ c.args.change.now.pools.grow = search rules in
    let none = sym new ∙ empty c.deref-new.result.now c.is_empty.result c.is_empty.ensures c.if-is_empty.true in
    let same = sym growths ∙ empty c.deref-growths.result.now c.is_empty-then-is_empty.result c.is_empty-then-is_empty.ensures c.if-is_empty-2.true in
    sym (few_stay c.args.self.now.map c.args.change.now none same few)
