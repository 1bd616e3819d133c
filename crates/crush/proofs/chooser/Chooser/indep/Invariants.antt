use Rattle.std.proofs.Common.{◌≡◌, length, replicate}
use Rattle.std.specs.List.{fold, range_with_len}
use Rattle.crush.specs.declared.choose.Position.TheVariants.{Open}
use Rattle.crush.specs.Placed.{world, choosing}
use Rattle.crush.specs.Indep.{after_round}
use Rattle.crush.specs.Remembered.{Remembers}
use Rattle.crush.proofs.chooser.Chooser.indep.Given as goal

abbrev pub invariant-loop-round : goal.invariant-loop-round
invariant-loop-round l =
    record {
      done : l.positions ≡ fold (after_round (choosing l.self) l.start) (replicate (length l.fn.positions) Open) (range_with_len 0 l.round);
      picks : Remembers (world l.self.placement) l.picks;
    }
