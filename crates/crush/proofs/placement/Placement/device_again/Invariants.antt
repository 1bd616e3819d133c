use Rattle.std.proofs.Common.{◌≡◌, ◌-◌}
use Rattle.buckets.specs.Buckets.{IsPickable}
use Rattle.crush.specs.Placed.{world}
use Rattle.crush.specs.Indep.{replica_number}
use Rattle.buckets.specs.Pick.{pick_of}
use Rattle.crush.specs.Descent.{descent}
use Rattle.crush.specs.Remembered.{Remembers}
use Rattle.crush.proofs.placement.Placement.device_again.Given as goal

abbrev pub invariant-loop-met : goal.invariant-loop-met
invariant-loop-met l =
    let w = world l.self in
    let r = replica_number l.draw.numrep l.draw.base l.draw.round in
    record {
      within : IsPickable l.bucket;
      picks : Remembers w l.picks;
      picked : l.item ≡ pick_of l.bucket w.x (r l.bucket);
      rest : descent w r 0 (l.met-end - l.met) l.bucket ≡ descent w r 0 l.met-end l.start;
    }
