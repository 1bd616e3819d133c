use Rattle.std.proofs.Common.{◌≡◌, ◌+◌, ◌-◌}
use Rattle.crush.specs.Placed.{world, choosing}
use Rattle.crush.specs.Firstn.{replica_of}
use Rattle.crush.specs.Tried.{HaveFailed}
use Rattle.crush.specs.Remembered.{Remembers}
use Rattle.crush.proofs.chooser.Chooser.replica.Given as goal

abbrev pub invariant-loop-failures : goal.invariant-loop-failures
invariant-loop-failures l =
    let k = choosing l.self in
    record {
      done : replica_of k l.chosen l.start.bucket.now (k.tries.total - l.failures) (l.fn.sought.rep + l.failures) ≡ replica_of k l.chosen l.start.bucket.now k.tries.total l.fn.sought.rep;
      before : HaveFailed k l.chosen l.start.bucket.now l.fn.sought.rep (l.fn.sought.rep + l.failures);
      picks : Remembers (world l.self.placement) l.picks;
    }
