use Rattle.std.proofs.Common.{map, take}
use Rattle.grouptable.specs.Sets.{after_leaving, place_stored, stands_at}
use Rattle.grouptable.specs.Indexes.{IsRedrawn}
use Rattle.maptypes.specs.Sets.{stands}
use Rattle.grouptable.proofs.merge.Merge.leave.Given as goal

abbrev pub invariant-loop-i : goal.invariant-loop-i
invariant-loop-i l = IsRedrawn (λ k. after_leaving (stands k (take l.i (map place_stored l.exchange.before.now))) (stands_at k l.exchange.after.now) l.exchange.group) l.exchange.index.now l.initial.self l.self
