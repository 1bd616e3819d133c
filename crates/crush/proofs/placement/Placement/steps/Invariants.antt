use Rattle.std.proofs.Common.{◌≡◌, ◌+◌, ◌-◌, ◌^◌, min, take, drop}
use Rattle.std.specs.List.{fold}
use Rattle.crush.specs.Placed.{world, progress}
use Rattle.crush.specs.Run.{no_progress, after_step, count_choose, searches_from}
use Rattle.crush.specs.Remembered.{Remembers}
use Rattle.crush.proofs.placement.Placement.steps.Given as goal

abbrev pub invariant-loop-step : goal.invariant-loop-step
invariant-loop-step l =
    record {
      done : progress l.work-inside.lists ≡ fold (after_step (world l.self) l.size) no_progress (take l.step-index l.steps);
      runs : l.work-inside.runs ≡ l.initial.work-inside.runs;
      choose_steps : l.work-inside.lists.choose_steps ≡ min (l.initial.work-inside.lists.choose_steps + count_choose (take l.step-index l.steps)) (2 ^ 64 - 1);
      name : l.work-inside.lists.searches.name ≡ l.initial.work-inside.lists.searches.name;
      searched : l.work-inside.lists.searches.count + searches_from (world l.self) l.size (progress l.work-inside.lists) (drop l.step-index l.steps) ≡ l.initial.work-inside.lists.searches.count + searches_from (world l.self) l.size no_progress l.steps;
      picks : Remembers (world l.self) l.work-inside.lists.picks;
    }
