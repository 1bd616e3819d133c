use Rattle.std.proofs.Common.{◌≡◌, ◌+◌, Some, ℕ, SFits, w32, to_z, of_z, ap, sym, ◌∙◌, rules, arith}
use Rattle.std.proofs.lemmas.Int.{to_z-of_z}
use Rattle.crush.specs.Forest.{bucket_at}
use Rattle.buckets.specs.declared.bucket.Bucket.{Bucket}
use Rattle.crush.specs.Placed.{world}
use Rattle.crush.specs.Descent.{item_below}
use Rattle.crush.specs.Firstn.{is_free, numbers_from}
use Rattle.crush.proofs.LeafTries.{leaf_nowhere, leaf_in, leaf_found, leaf_refused, leaf_missing, leaf_over}
use Rattle.crush.proofs.chooser.Chooser.leaf.Goals as goal
use Rattle.crush.proofs.chooser.Chooser.leaf.Goals.{in-Some+else-is_free, in_default}

pub returns-in_err-bucket-clause-value : goal.returns-in_err-bucket-clause-value
returns-in_err-bucket-clause-value c =
    let a = c.args in
    let w = world a.self.now.placement in
    let passed : SFits w32 a.item = c.ranges.item in
    c.from_residual.ensures ∙ sym (leaf_nowhere w (is_free w a.chosen.now) (numbers_from a.r a.self.now.tries.leaf) a.item (ap (bucket_at w.buckets) (sym (to_z-of_z w32 a.item passed)) ∙ sym c.in_err-bucket.ensures.value))

pub returns-then-is_free-clause-value : goal.returns-then-is_free-clause-value
returns-then-is_free-clause-value c =
    let a = c.args in
    let w = world a.self.now.placement in
    let ok = is_free w a.chosen.now in
    let b = c.new-below.result.bucket.now in
    let F : ℕ → Bucket → ℕ = λ r b. r in
    let passed : SFits w32 a.item = c.ranges.item in
    let start = leaf_in w ok F a.r a.self.now.tries.leaf a.item b (ap (bucket_at w.buckets) (sym (to_z-of_z w32 a.item passed)) ∙ sym c.in_ok-bucket.ensures.value ∙ ap Some (sym c.new-below.ensures.bucket)) in
    let p = c.in-Some.picked in
    let fits : SFits w32 p.item = search rules in
    let at : a.r + c.from.result ≡ a.r + c.loop-failures.failures = omega arith in
    sym (leaf_found w ok b F a.r a.self.now.tries.leaf c.loop-failures.failures p (to_z w32 (of_z w32 p.item)) c.is_free.result (omega arith) (c.in-Some.ensures.value ∙ ap (λ m. item_below w (F m) 0 b) at) (to_z-of_z w32 p.item fits) c.is_free.ensures c.if-is_free.true) ∙ c.loop-failures.invariant.done ∙ sym start

pub loop-failures-preserved : goal.loop-failures-preserved
loop-failures-preserved c =
    let a = c.args in
    let w = world a.self.now.placement in
    let ok = is_free w a.chosen.now in
    let b = c.new-below.result.bucket.now in
    let F : ℕ → Bucket → ℕ = λ r b. r in
    let at : a.r + c.from.result ≡ a.r + c.loop-failures.failures = omega arith in
    record {
      done = elim c.match-device.branch [
        | in-Some+else-is_free v ↦ (let p = v.in-Some.picked in
            let fits : SFits w32 p.item = search rules in
            sym (leaf_refused w ok b F a.r a.self.now.tries.leaf c.loop-failures.failures p (to_z w32 (of_z w32 p.item)) v.is_free.result (omega arith) (v.in-Some.ensures.value ∙ ap (λ m. item_below w (F m) 0 b) at) (to_z-of_z w32 p.item fits) v.is_free.ensures v.if-is_free.false) ∙ c.loop-failures.invariant.done)
        | in_default v ↦ sym (leaf_missing w ok b F a.r a.self.now.tries.leaf c.loop-failures.failures (omega arith) (v.in_default.ensures.value ∙ ap (λ m. item_below w (F m) 0 b) at)) ∙ c.loop-failures.invariant.done
      ];
      picks = c.device_at-device.ensures.picks;
    }

pub returns-clause-value : goal.returns-clause-value
returns-clause-value c =
    let a = c.args in
    let w = world a.self.now.placement in
    let ok = is_free w a.chosen.now in
    let b = c.new-below.result.bucket.now in
    let F : ℕ → Bucket → ℕ = λ r b. r in
    let passed : SFits w32 a.item = c.ranges.item in
    let start = leaf_in w ok F a.r a.self.now.tries.leaf a.item b (ap (bucket_at w.buckets) (sym (to_z-of_z w32 a.item passed)) ∙ sym c.in_ok-bucket.ensures.value ∙ ap Some (sym c.new-below.ensures.bucket)) in
    sym (leaf_over w ok b F a.r a.self.now.tries.leaf c.loop-failures.failures (omega arith)) ∙ c.loop-failures.invariant.done ∙ sym start
