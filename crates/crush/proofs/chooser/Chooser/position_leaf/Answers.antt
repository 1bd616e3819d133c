use Rattle.std.proofs.Common.{◌≡◌, ◌+◌, Some, ℤ, Bool, not, SFits, w32, to_z, of_z, ap, sym, ◌∙◌, rules, arith}
use Rattle.std.proofs.lemmas.Int.{to_z-of_z}
use Rattle.crush.specs.Forest.{bucket_at}
use Rattle.crush.specs.World.{is_out}
use Rattle.crush.specs.Placed.{world}
use Rattle.crush.specs.Indep.{replica_number, replica_numbers}
use Rattle.crush.specs.Descent.{item_below}
use Rattle.crush.proofs.LeafTries.{leaf_nowhere, leaf_in, leaf_found, leaf_refused, leaf_missing, leaf_over}
use Rattle.crush.proofs.chooser.Chooser.position_leaf.Goals as goal
use Rattle.crush.proofs.chooser.Chooser.position_leaf.Goals.{in-Some+else-not-is_out, in_default}

pub returns-in_err-bucket-clause-value : goal.returns-in_err-bucket-clause-value
returns-in_err-bucket-clause-value c =
    let w = world c.args.self.now.placement in
    let passed : SFits w32 c.args.item = c.ranges.item in
    c.from_residual.ensures ∙ sym (leaf_nowhere w (λ d. not (is_out w d)) (replica_numbers c.args.self.now.numrep c.args.base c.args.self.now.tries.leaf) c.args.item (ap (bucket_at w.buckets) (sym (to_z-of_z w32 c.args.item passed)) ∙ sym c.in_err-bucket.ensures.value))

pub returns-then-not-is_out-clause-value : goal.returns-then-not-is_out-clause-value
returns-then-not-is_out-clause-value c =
    let w = world c.args.self.now.placement in
    let ok : ℤ → Bool = λ d. not (is_out w d) in
    let b = c.new-below.result.bucket.now in
    let F = replica_number c.args.self.now.numrep c.args.base in
    let n = c.args.self.now.tries.leaf in
    let t = c.loop-round.round in
    let at : t ≡ 0 + t = omega arith in
    let passed : SFits w32 c.args.item = c.ranges.item in
    let start = leaf_in w ok F 0 n c.args.item b (ap (bucket_at w.buckets) (sym (to_z-of_z w32 c.args.item passed)) ∙ sym c.in_ok-bucket.ensures.value ∙ ap Some (sym c.new-below.ensures.bucket)) in
    let p = c.in-Some.picked in
    let fits : SFits w32 p.item = search rules in
    sym (leaf_found w ok b F 0 n t p (to_z w32 (of_z w32 p.item)) (not c.is_out.result) (omega arith) (c.in-Some.ensures.value ∙ ap (λ m. item_below w (F m) 0 b) at) (to_z-of_z w32 p.item fits) (ap not c.is_out.ensures) (ap not c.if-not-is_out.true)) ∙ c.loop-round.invariant.done ∙ sym start

pub loop-round-preserved : goal.loop-round-preserved
loop-round-preserved c =
    let w = world c.args.self.now.placement in
    let ok : ℤ → Bool = λ d. not (is_out w d) in
    let b = c.new-below.result.bucket.now in
    let F = replica_number c.args.self.now.numrep c.args.base in
    let n = c.args.self.now.tries.leaf in
    let t = c.loop-round.round in
    let at : t ≡ 0 + t = omega arith in
    let passed : SFits w32 c.args.item = c.ranges.item in
    let start = leaf_in w ok F 0 n c.args.item b (ap (bucket_at w.buckets) (sym (to_z-of_z w32 c.args.item passed)) ∙ sym c.in_ok-bucket.ensures.value ∙ ap Some (sym c.new-below.ensures.bucket)) in
    record {
      done = elim c.match-device.branch [
        | in-Some+else-not-is_out v ↦ (let p = v.in-Some.picked in
            let fits : SFits w32 p.item = search rules in
            sym (leaf_refused w ok b F 0 n t p (to_z w32 (of_z w32 p.item)) (not v.is_out.result) (omega arith) (v.in-Some.ensures.value ∙ ap (λ m. item_below w (F m) 0 b) at) (to_z-of_z w32 p.item fits) (ap not v.is_out.ensures) (ap not v.if-not-is_out.false)) ∙ c.loop-round.invariant.done)
        | in_default v ↦ sym (leaf_missing w ok b F 0 n t (omega arith) (v.in_default.ensures.value ∙ ap (λ m. item_below w (F m) 0 b) at)) ∙ c.loop-round.invariant.done
      ];
      picks = c.device.ensures.picks;
    }

pub returns-clause-value : goal.returns-clause-value
returns-clause-value c =
    let w = world c.args.self.now.placement in
    let ok : ℤ → Bool = λ d. not (is_out w d) in
    let b = c.new-below.result.bucket.now in
    let F = replica_number c.args.self.now.numrep c.args.base in
    let n = c.args.self.now.tries.leaf in
    let t = c.loop-round.round in
    let at : t ≡ 0 + t = omega arith in
    let passed : SFits w32 c.args.item = c.ranges.item in
    let start = leaf_in w ok F 0 n c.args.item b (ap (bucket_at w.buckets) (sym (to_z-of_z w32 c.args.item passed)) ∙ sym c.in_ok-bucket.ensures.value ∙ ap Some (sym c.new-below.ensures.bucket)) in
    sym (leaf_over w ok b F 0 n t (omega arith)) ∙ c.loop-round.invariant.done ∙ sym start
