use Rattle.pgtable.proofs.Slicing.{numbers-in_pool}
use Rattle.pgtable.proofs.candidates.groups_for.Goals as goal

pub returns-else-groups-lt-MANY : goal.returns-else-groups-lt-MANY
returns-else-groups-lt-MANY c = λ m d. numbers-in_pool m d c.args.pool.now c.args.groups.now c.slice_in.result.now c.slice_in.ensures
