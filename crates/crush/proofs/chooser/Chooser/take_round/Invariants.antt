use Rattle.std.proofs.Common.{◌≡◌}
use Rattle.std.specs.List.{fold, range_with_len}
use Rattle.crush.specs.Placed.{world, choosing}
use Rattle.crush.specs.Indep.{after_position}
use Rattle.crush.specs.Remembered.{Remembers}
use Rattle.crush.proofs.chooser.Chooser.take_round.Given as goal

abbrev pub invariant-loop-rep : goal.invariant-loop-rep
invariant-loop-rep l =
    record {
      done : l.positions ≡ fold (after_position (choosing l.self) l.start.bucket.now l.round) l.initial.positions (range_with_len 0 l.rep);
      picks : Remembers (world l.self.placement) l.picks;
    }
