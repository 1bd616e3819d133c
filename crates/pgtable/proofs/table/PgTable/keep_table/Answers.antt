use Rattle.std.proofs.Common.{◌≡◌, ap, refl, arith}
use Rattle.std.specs.Prelude.{slice_get}
use Rattle.std.proofs.lemmas.Option.{slice_get_within}
use Rattle.pgtable.specs.declared.pool_table.PoolTable.{PoolTable}
use Rattle.pgtable.specs.After.{map_after}
use Rattle.pgtable.specs.Tables.{pool_table, pool_in}
use Rattle.pgtable.proofs.Keeping.{table_was_there, at_place, groups_there, keeps_pool}
use Rattle.pgtable.proofs.Making.{makes_kept}
use Rattle.pgtable.proofs.table.PgTable.keep_table.Goals as goal

pub position-at-requires : goal.position-at-requires
position-at-requires g c =
    let u = c.args.update.now in
    let there = table_was_there u.before.now.map (map_after u) u.change.now c.args.pool.now c.holds.ensures.leads c.requires.there c.requires.untouched c.args.self.now c.requires.table in
    rw (c.id.ensures, there) refl

pub bounds-pools-at : goal.bounds-pools-at
bounds-pools-at g c =
    let u = c.args.update.now in
    let p = c.args.pool.now in
    let found : slice_get c.args.self.now.pools c.position-at.result ≡ pool_in c.args.self.now p.id = rw c.id.ensures at c.position-at.ensures in
    let there = at_place u.before.now.map (map_after u) u.change.now p c.holds.ensures.leads c.requires.there c.requires.untouched c.args.self.now c.requires.table c.position-at.result found in
    rw c.pools.ensures.pools (slice_get_within c.args.self.now.pools c.position-at.result (pool_table u.before.now.map p) there)

pub offset_bounds-pools-at : goal.offset_bounds-pools-at
offset_bounds-pools-at g c =
    let u = c.args.update.now in
    let p = c.args.pool.now in
    let found : slice_get c.args.self.now.pools c.position-at.result ≡ pool_in c.args.self.now p.id = rw c.id.ensures at c.position-at.ensures in
    let there = at_place u.before.now.map (map_after u) u.change.now p c.holds.ensures.leads c.requires.there c.requires.untouched c.args.self.now c.requires.table c.position-at.result found in
    let inside = slice_get_within c.args.self.now.pools c.position-at.result (pool_table u.before.now.map p) there in
    omega (arith, inside, c.pools.ensures.few)

pub patch_groups-requires-clause-groups : goal.patch_groups-requires-clause-groups
patch_groups-requires-clause-groups g c = λ κs lives.
    let u = c.args.update.now in
    let p = c.args.pool.now in
    let found : slice_get c.args.self.now.pools c.position-at.result ≡ pool_in c.args.self.now p.id = rw c.id.ensures at c.position-at.ensures in
    let here = rw c.pools.ensures.pools at c.index-pools-at.is in
    rw (← c.index-pools-at.is) (groups_there u.before.now.map (map_after u) u.change.now p c.holds.ensures.leads c.requires.there c.requires.untouched c.args.self.now c.requires.table c.position-at.result found c.index-pools-at.result here)

pub returns-clause-made : goal.returns-clause-made
returns-clause-made g c =
    let u = c.args.update.now in
    let p = c.args.pool.now in
    let found : slice_get c.args.self.now.pools c.position-at.result ≡ pool_in c.args.self.now p.id = rw c.id.ensures at c.position-at.ensures in
    let here = rw c.pools.ensures.pools at c.index-pools-at.is in
    let lead = rw (← c.index-pools-at.is) at c.in_ok-groups.ensures.lead in
    let keeps = keeps_pool u.before.now.map (map_after u) u.change.now p c.holds.ensures.leads c.requires.there c.requires.untouched c.args.self.now c.requires.table c.position-at.result found c.index-pools-at.result _ refl here lead in
    makes_kept c.args.self.now.pools (map_after u) p c.empty.result _ (ap (λ (t : PoolTable). t.pool) c.empty.ensures) keeps
