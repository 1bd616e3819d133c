use Rattle.std.proofs.Common.{◌≡◌, ◌≤◌, ◌+◌, [], length}
use Rattle.std.specs.List.{fold, range_with_len}
use Rattle.crush.specs.Placed.{world, choosing}
use Rattle.crush.specs.Firstn.{after_replica}
use Rattle.crush.specs.Tried.{HaveFailed}
use Rattle.crush.specs.Remembered.{Remembers}
use Rattle.crush.proofs.chooser.Chooser.firstn.Given as goal

-- what was chosen for the replicas so far
abbrev pub invariant-loop : goal.invariant-loop
invariant-loop l =
    record {
      done : l.chosen.items ≡ fold (after_replica (choosing l.self) l.start l.limit) [] (range_with_len 0 l.counter);
      at : l.sought.rep ≡ l.counter;
      few : length l.chosen.items ≤ l.counter;
      known : HaveFailed (choosing l.self) l.chosen.items l.start l.sought.rep (l.sought.rep + l.sought.known);
      picks : Remembers (world l.self.placement) l.picks;
    }
