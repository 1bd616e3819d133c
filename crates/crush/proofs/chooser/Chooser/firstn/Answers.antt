use Rattle.std.proofs.Common.{◌≡◌, ◌+◌, ◌<◌, [], length, ap, sym, ◌∙◌, arith}
use Rattle.crush.specs.Placed.{choosing}
use Rattle.crush.specs.Firstn.{with_attempt, after_replica, firstn}
use Rattle.crush.proofs.FailedTries.{fails_none}
use Rattle.crush.proofs.ReplicaTries.{with_one, replica_taken, replica_full, with_other}
use Rattle.crush.proofs.Rounds.{fold_range, fold_over}
use Rattle.crush.proofs.chooser.Chooser.firstn.Goals as goal
use Rattle.crush.proofs.chooser.Chooser.firstn.Goals.{in-Chosen+in_ok-push, in_default}

pub loop-init : goal.loop-init
loop-init c = record {
  done = c.clear.ensures.items;
  at = omega arith;
  few = omega (arith, ap length c.clear.ensures.items);
  known = fails_none (choosing c.args.self.now) c.clear.new.self.items c.args.start.now 0 (0 + 0) (omega arith);
  picks = c.requires.picks;
}

pub loop-preserved : goal.loop-preserved
loop-preserved c =
    let k = choosing c.args.self.now in
    let a = c.args in
    let old = c.loop.chosen.items in
    let f = after_replica k a.start.now a.limit in
    let room : length old < a.limit = omega (arith, c.loop.chosen.ok.0) in
    let new : c.match-replica.chosen.items ≡ with_attempt old c.replica.result = elim c.match-replica.branch [
      | in-Chosen+in_ok-push v ↦ ap (λ v. v.items) v.chosen-is ∙ v.in_ok-push.ensures.items ∙ sym (ap (with_attempt old) v.in-Chosen.is)
      | in_default v ↦ ap (λ v. v.items) v.chosen-is ∙ sym (with_other old c.replica.result v.in_default.not-Chosen)
    ] in
    record {
      done = replica_taken k a.start.now a.limit old c.deref.result.now c.match-replica.chosen.items c.replica.result c.loop.counter room c.deref.ensures.value (rw (c.new-below.ensures.bucket, c.loop.invariant.at) at c.replica.ensures.value) new
          ∙ ap (λ ys. f ys c.loop.counter) c.loop.invariant.done
          ∙ fold_range f [] c.loop.counter;
      at = omega (arith, c.loop.invariant.at, c.replica.ensures.next);
      few = omega (arith, c.loop.invariant.few, with_one old c.replica.result, ap length new);
      known = rw new (rw (c.new-below.ensures.bucket, c.deref.ensures.value) at c.replica.ensures.known);
      picks = c.replica.ensures.picks;
    }

pub returns-then-len-limit-clause-value : goal.returns-then-len-limit-clause-value
unfolding firstn
returns-then-len-limit-clause-value c =
    let k = choosing c.args.self.now in
    let a = c.args in
    fold_over (after_replica k a.start.now a.limit) [] c.loop.chosen.items c.loop.counter a.self.now.numrep (omega arith) c.loop.invariant.done (λ rep. replica_full k a.start.now a.limit c.loop.chosen.items rep (omega (arith, c.loop.chosen.ok.0)))
