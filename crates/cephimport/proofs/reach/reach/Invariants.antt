use Rattle.std.proofs.Common.{◌≡◌, ◌-◌}
use Rattle.cephimport.specs.Reach.{reach}
use Rattle.cephimport.proofs.reach.reach.Given as goal

abbrev pub invariant-loop : goal.invariant-loop
invariant-loop l = reach (l.rounds - l.counter) l.all l.ids.items ≡ reach l.rounds l.all l.fn.from.items
