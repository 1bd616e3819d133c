use Rattle.std.proofs.Common.{◌≡◌, ◌==◌, ◌∙◌, sym, subst, ℕ, List, Some}
use Rattle.std.specs.List.{find}
use Rattle.std.proofs.lemmas.Bool.{ltb-true}
use Rattle.keylist.specs.Order.{IsRising}
use Rattle.pgtable.specs.declared.pool_table.PoolTable.{PoolTable}
use Rattle.pgtable.specs.Tables.{table_id}
use Rattle.pgtable.proofs.Found.{found_at}
use Rattle.pgtable.proofs.table.PgTable.pool.Goals as goal

pub returns-in-Some : goal.returns-in-Some
returns-in-Some c =
    let t = c.in-Some.table.now in
    let xs = c.deref-2.result.now in
    let rise = subst (λ (ps : List PoolTable). IsRising table_id ps) (sym c.deref-2.ensures.value) c.self.invariant.pools_rise in
    let found : find (λ q. q.pool.id == t.pool.id) xs ≡ Some t = found_at table_id xs c.saturating_sub.result t rise (ltb-true _ _ (sym c.in-Some.ensures.lookup.0)) c.in-Some.ensures.lookup.1 in
    let id : t.pool.id ≡ c.args.id = sym c.key.ensures ∙ c.if-key.true ∙ c.from-key.ensures in
    let here : find (λ q. q.pool.id == c.args.id) xs ≡ Some t = subst (λ (k : ℕ). find (λ q. q.pool.id == k) xs ≡ Some t) id found in
    let own : xs ≡ c.args.self.now.pools = rw (← c.self.view_is) c.deref-2.ensures.value in
    sym (subst (λ (ps : List PoolTable). find (λ q. q.pool.id == c.args.id) ps ≡ Some t) own here)
