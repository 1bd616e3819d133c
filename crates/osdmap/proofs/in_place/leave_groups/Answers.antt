use Rattle.std.proofs.Common.{rules}
use Rattle.maptypes.specs.Exceptions.{pg_key, key_of}
use Rattle.osdmap.proofs.Leaving.{none_leave}
use Rattle.osdmap.proofs.in_place.leave_groups.Goals as goal

pub returns-else-not-is_empty-clause-items : goal.returns-else-not-is_empty-clause-items
returns-else-not-is_empty-clause-items g c = none_leave pg_key key_of c.args.gone.now c.args.exceptions.now.items (search rules)
