use Rattle.std.proofs.Common.{ℕ, List, [], arith}
use Rattle.std.proofs.lemmas.List.{length-replicate}
use Rattle.grouptable.proofs.Listing.{none_replicated}
use Rattle.grouptable.proofs.build.lists_with_room.Goals as goal

pub returns-clause-all : goal.returns-clause-all
returns-clause-all c = rw c.loop-count.invariant (omega (arith, length-replicate {A = List ℕ} c.loop-count.count-index []))

pub returns-clause-empty : goal.returns-clause-empty
returns-clause-empty c = λ osd h. rw c.loop-count.invariant (none_replicated c.loop-count.count-index osd)
