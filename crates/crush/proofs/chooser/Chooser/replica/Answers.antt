use Rattle.std.proofs.Common.{◌≡◌, ◌+◌, ap, sym, ◌∙◌, arith}
use Rattle.crush.specs.Placed.{choosing}
use Rattle.crush.specs.Firstn.{attempt_of}
use Rattle.crush.proofs.FailedTries.{fails_after, fails_more, fails_next, fails_skipped}
use Rattle.crush.proofs.ReplicaTries.{replica_decided, replica_failed, replica_over}
use Rattle.crush.proofs.chooser.Chooser.replica.Goals as goal

pub loop-failures-init : goal.loop-failures-init
loop-failures-init c =
    let k = choosing c.args.self.now in
    let a = c.args in
    record {
      done = fails_skipped k k.tries.total a.sought.now.rep a.sought.now.known a.chosen.now a.start.now.bucket.now c.requires.known;
      before = c.requires.known;
      picks = c.requires.picks;
    }

pub returns-in_default-clause-value : goal.returns-in_default-clause-value
returns-in_default-clause-value c =
    let k = choosing c.args.self.now in
    let a = c.args in
    let r : c.from.result + c.from-in-loop-failures.result ≡ a.sought.now.rep + c.loop-failures.failures = omega arith in
    sym (replica_decided k k.tries.total a.sought.now.rep c.loop-failures.failures a.chosen.now a.start.now.bucket.now c.attempt.result (omega arith) (c.attempt.ensures.value ∙ ap (attempt_of k a.chosen.now a.start.now.bucket.now) r) c.in_default.not-Failed) ∙ c.loop-failures.invariant.done

pub returns-in_default-clause-known : goal.returns-in_default-clause-known
returns-in_default-clause-known c =
    let k = choosing c.args.self.now in
    let a = c.args in
    let next = a.sought.now.rep + 1 in
    let known = fails_next k a.chosen.now a.start.now.bucket.now a.sought.now.rep c.loop-failures.failures c.saturating_sub.result c.loop-failures.invariant.before (omega arith) in
    fails_after k a.chosen.now a.start.now.bucket.now c.attempt.result next c.saturating_sub.result c.still_known.result known c.still_known.ensures.few c.still_known.ensures.none

pub loop-failures-preserved : goal.loop-failures-preserved
loop-failures-preserved c =
    let k = choosing c.args.self.now in
    let a = c.args in
    let r : c.from.result + c.from-in-loop-failures.result ≡ a.sought.now.rep + c.loop-failures.failures = omega arith in
    let failed = c.in-Failed.ensures.value ∙ ap (attempt_of k a.chosen.now a.start.now.bucket.now) r in
    record {
      done = sym (replica_failed k k.tries.total a.sought.now.rep c.loop-failures.failures a.chosen.now a.start.now.bucket.now (omega arith) failed) ∙ c.loop-failures.invariant.done;
      before = fails_more k a.chosen.now a.start.now.bucket.now a.sought.now.rep c.loop-failures.failures c.loop-failures.invariant.before (sym failed);
      picks = c.attempt.ensures.picks;
    }

pub returns-clause-value : goal.returns-clause-value
returns-clause-value c =
    let k = choosing c.args.self.now in
    let a = c.args in
    sym (replica_over k k.tries.total a.sought.now.rep c.loop-failures.failures a.chosen.now a.start.now.bucket.now (omega arith)) ∙ c.loop-failures.invariant.done

pub returns-clause-known : goal.returns-clause-known
returns-clause-known c =
    let k = choosing c.args.self.now in
    let a = c.args in
    fails_next k a.chosen.now a.start.now.bucket.now a.sought.now.rep c.loop-failures.failures c.saturating_sub-2.result c.loop-failures.invariant.before (omega arith)
