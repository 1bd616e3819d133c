use Rattle.std.proofs.Common.{◌≡◌, ◌∙◌, rules, subst, sym, ap, List, None}
use Rattle.std.specs.Prelude.{is_some, slice_get}
use Rattle.std.proofs.lemmas.Bool.{false≢true}
use Rattle.std.proofs.lemmas.List.Sorted.{answers_always}
use Rattle.std.proofs.lemmas.Option.{get_or_from_slice_get}
use Rattle.keylist.specs.Keys.{entry_at}
use Rattle.keylist.specs.Order.{IsRising}
use Rattle.keylist.proofs.KeyedFinds.{entry-sought, entry-absent}
use Rattle.pgtable.specs.declared.pool_table.PoolTable.{PoolTable}
use Rattle.pgtable.specs.Tables.{table_id, pool_in}
use Rattle.pgtable.proofs.Making.{element}
use Rattle.pgtable.proofs.table.PgTable.position.Goals as goal

pub unreachable-requires : goal.unreachable-requires
unreachable-requires c =
    let rise = subst (λ (ps : List PoolTable). IsRising table_id ps) (sym c.pools.ensures.pools) c.pools.ensures.rise in
    let place = c.in-Err.ensures.position table_id (answers_always _ _ _ (λ f a r q called. search rules)) in
    let absent = entry-absent table_id c.pools.result.now c.from-id.result c.in-Err.field-0 place rise in
    let none : pool_in c.args.self.now c.args.id ≡ None = rw (c.pools.ensures.pools, c.from-id.ensures) at absent in
    false≢true (ap is_some (sym none) ∙ c.requires)

pub returns : goal.returns
returns c =
    let rise = subst (λ (ps : List PoolTable). IsRising table_id ps) (sym c.pools.ensures.pools) c.pools.ensures.rise in
    let place = c.in-Ok.ensures.position table_id (answers_always _ _ _ (λ f a r q called. search rules)) in
    let at = c.in-Ok.at in
    let q = element c.pools.result.now at c.in-Ok.ensures.bound in
    let sought = entry-sought table_id c.pools.result.now c.from-id.result at q.0 c.in-Ok.ensures.bound (sym (get_or_from_slice_get c.pools.result.now at q.0 q.0 q.1)) place rise in
    let both : slice_get c.pools.result.now at ≡ entry_at table_id c.pools.result.now c.from-id.result = q.1 ∙ sym sought in
    rw (c.pools.ensures.pools, c.from-id.ensures) at both
