use Rattle.std.proofs.Common.{sym, w32}
use Rattle.std.proofs.lemmas.Int.{to_z-of_z}
use Rattle.crush.proofs.PickableBuckets.{IfSome-pickable, device-has_none}
use Rattle.crush.proofs.forest.Forest.bucket.Goals as goal

pub returns-clause-within : goal.returns-clause-within
returns-clause-within c = IfSome-pickable _ c.self.invariant _ _ (rw c.deref.ensures.value at c.bucket_of.ensures)

pub returns-then-id-ge0-clause-value : goal.returns-then-id-ge0-clause-value
returns-then-id-ge0-clause-value c = rw (← c.self.view_is) (sym (device-has_none _ c.self.invariant c.args.id _ (to_z-of_z w32 c.args.id c.ranges.id) c.if-id-ge0.true))
