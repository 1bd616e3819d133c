use Rattle.std.proofs.Common.{◌≡◌, ◌≤◌}
use Rattle.std.specs.String.{string_bytes}
use Rattle.osdmap.specs.Maps.{pool_at}
use Rattle.session.specs.PoolSets.{first_sets, pg_num_of}
use Rattle.session.proofs.pool_sets.sets_in.Given as goal

-- the text so far has the sets of the groups before the next
abbrev pub invariant-loop-number : goal.invariant-loop-number
invariant-loop-number g l =
    let m = l.state.map in
    (string_bytes l.text ≡ first_sets m (pool_at m.pools l.pool) l.number) × (l.number ≤ pg_num_of (pool_at m.pools l.pool))
