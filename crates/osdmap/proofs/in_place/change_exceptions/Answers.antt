use Rattle.std.proofs.Common.{◌∙◌, ap, not, rules, arith, ℕ}
use Rattle.std.specs.List.{fold, filter}
use Rattle.keylist.specs.Keys.{has_key}
use Rattle.keylist.specs.Puts.{put}
use Rattle.keylist.proofs.KeyedOrder.{rising-filter}
use Rattle.maptypes.specs.Exceptions.{pg_key, key_of, exceptions_after}
use Rattle.osdmap.proofs.Leaving.{filter_twice}
use Rattle.osdmap.proofs.in_place.change_exceptions.Goals as goal

pub leave_groups-requires : goal.leave_groups-requires
leave_groups-requires g c = (search rules, (rw c.leave_pools.ensures.items (rising-filter key_of _ _ c.requires.rising), rw c.deref.ensures c.requires.gone))

pub put_all-requires-clause-old : goal.put_all-requires-clause-old
put_all-requires-clause-old g c =
    rw (c.leave_groups.ensures.items, c.leave_pools.ensures.items) (rising-filter key_of _ _ (rising-filter key_of _ _ c.requires.rising))

pub put_all-requires-clause-room : goal.put_all-requires-clause-room
put_all-requires-clause-room g c =
    rw c.deref-2.ensures (omega (arith, c.leave_groups.ensures.fewer, c.leave_pools.ensures.fewer, c.leave_groups.ensures.room, c.leave_pools.ensures.room, c.requires.room))

pub returns : goal.returns
unfolding exceptions_after
returns g c =
    let left = (rw c.deref.ensures at c.leave_groups.ensures.items) ∙ ap (filter (λ e. not (has_key pg_key c.args.changes.now.gone (key_of e)))) c.leave_pools.ensures.items
    ∙ filter_twice (λ e. not (has_key (λ (id : ℕ). id) c.args.gone_pools.now e.pg.pool)) (λ e. not (has_key pg_key c.args.changes.now.gone (key_of e))) c.args.exceptions.now.items in
    (rw c.deref-2.ensures at c.put_all.ensures.items) ∙ ap (λ es. fold (put key_of) es c.args.changes.now.come) left
