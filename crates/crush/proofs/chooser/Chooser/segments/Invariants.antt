use Rattle.std.proofs.Common.{◌≡◌, ◌+◌, take}
use Rattle.std.specs.List.{count_by}
use Rattle.crush.specs.Placed.{world, choosing}
use Rattle.crush.specs.Run.{chosen_from, is_start}
use Rattle.crush.specs.Remembered.{Remembers}
use Rattle.crush.proofs.chooser.Chooser.segments.Given as goal

abbrev pub invariant-loop-entry : goal.invariant-loop-entry
invariant-loop-entry l =
    record {
      done : l.found.items ≡ chosen_from (choosing l.self) l.self.size (take l.entry-index l.entry-items);
      name : l.searches.name ≡ l.initial.searches.name;
      searched : l.searches.count ≡ l.initial.searches.count + count_by (is_start (world l.self.placement)) (take l.entry-index l.entry-items);
      picks : Remembers (world l.self.placement) l.picks;
    }
