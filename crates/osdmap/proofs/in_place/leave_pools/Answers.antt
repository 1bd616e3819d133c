use Rattle.std.proofs.Common.{not, rules, ℕ}
use Rattle.std.proofs.lemmas.Fn.{filter_same}
use Rattle.keylist.specs.Keys.{has_key}
use Rattle.osdmap.proofs.Leaving.{none_leave}
use Rattle.osdmap.proofs.in_place.leave_pools.Goals as goal

pub returns-then-is_empty-clause-items : goal.returns-then-is_empty-clause-items
returns-then-is_empty-clause-items g c = none_leave (λ (id : ℕ). id) (λ e. e.pg.pool) c.args.gone_pools.now c.args.exceptions.now.items (search rules)

pub returns-clause-items : goal.returns-clause-items
returns-clause-items g c =
    filter_same _ (λ e. not (has_key (λ (id : ℕ). id) c.args.gone_pools.now e.pg.pool)) _ (λ x b f' called. search rules) _ _ c.retain.ensures.filtered
