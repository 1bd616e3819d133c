use Rattle.std.proofs.Common.{◌≡◌, ◌≤◌, false}
use Rattle.session.proofs.watch.watch.Given as goal

-- each look so far is counted, and none has seen the epoch: there was none where the first map has it
abbrev pub invariant-loop : goal.invariant-loop
invariant-loop g l = (l.looks.count ≡ l.counter) × (l.looks.seen ≡ false) × (l.wanted ≤ l.monitor.first.epoch → l.counter ≡ 0)
