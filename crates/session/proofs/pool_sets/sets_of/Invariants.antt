use Rattle.std.proofs.Common.{◌≡◌, ◌≤◌}
use Rattle.std.specs.String.{string_bytes}
use Rattle.osdmap.specs.Maps.{pool_at}
use Rattle.session.specs.PoolSets.{first_sets, pg_num_of, runs_after}
use Rattle.session.proofs.pool_sets.sets_of.Given as goal

-- the text so far has the sets of the groups before the next, for each of which a rule was run
abbrev pub invariant-loop-number : goal.invariant-loop-number
invariant-loop-number l =
    let m = l.fn.follower.map in
    (string_bytes l.text ≡ first_sets m (pool_at m.pools l.pool) l.number) × (l.number ≤ pg_num_of (pool_at m.pools l.pool))
    × (l.follower ≡ record l.fn.follower { runs = runs_after l.fn.follower.runs l.number })
