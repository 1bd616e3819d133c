use Rattle.std.proofs.Common.{SFits, w32, to_z, Some, ap, refl, sym, ◌∙◌, rules, arith}
use Rattle.std.proofs.lemmas.Int.{to_z-of_z}
use Rattle.crush.specs.Placed.{world}
use Rattle.crush.specs.Indep.{replica_number}
use Rattle.buckets.specs.Pick.{pick_of}
use Rattle.crush.specs.Descent.{descent}
use Rattle.crush.specs.declared.choose.Picked.{Picked}
use Rattle.crush.proofs.Descents.{level_is, descent_hit, descent_end, descent_more, descent_none}
use Rattle.crush.proofs.placement.Placement.descend.Goals as goal

pub loop-met-init : goal.loop-met-init
loop-met-init c =
    let w = world c.args.self.now in
    let b = c.args.start.now.bucket.now in
    let fits : SFits w32 c.pick-first.result = search rules in
    record {
      within = c.args.start.now.within;
      picked = to_z-of_z w32 c.pick-first.result fits ∙ c.pick-first.ensures ∙ ap (λ x. pick_of b x c.at-base.result) c.requires.input ∙ ap (pick_of b w.x) c.at-base.ensures.value;
      rest = ap (λ n. descent w (replica_number c.args.draw.numrep c.args.draw.base c.args.draw.round) c.args.wanted n b) (omega arith);
    }

pub returns-then-level_of-wanted-clause-value : goal.returns-then-level_of-wanted-clause-value
returns-then-level_of-wanted-clause-value c =
    let w = world c.args.self.now in
    let l = c.loop-met in
    let shown = to_z w32 l.item-bits in
    let level = level_is w _ shown c.level_of.result c.level_of.ensures c.bucket-found.ensures.value in
    ap (λ m. let p : Picked = record { item = shown; r = m } in Some p) c.at-r.ensures.value
    ∙ sym (descent_hit w (replica_number c.args.draw.numrep c.args.draw.base c.args.draw.round) c.args.wanted c.args.start.now.bucket.now.level l.met c.level_of.result l.bucket.now shown shown (omega arith) l.invariant.picked refl level c.if-level_of-wanted.true)
    ∙ l.invariant.rest

pub returns-in-None-clause-value : goal.returns-in-None-clause-value
returns-in-None-clause-value c =
    let w = world c.args.self.now in
    let l = c.loop-met in
    let shown = to_z w32 l.item-bits in
    let level = level_is w _ shown c.level_of.result c.level_of.ensures c.bucket-found.ensures.value in
    sym (descent_end w (replica_number c.args.draw.numrep c.args.draw.base c.args.draw.round) c.args.wanted c.args.start.now.bucket.now.level l.met c.level_of.result l.bucket.now shown shown (omega arith) l.invariant.picked refl level c.if-level_of-wanted.false (sym c.in-None.ensures.value))
    ∙ l.invariant.rest

pub loop-met-preserved : goal.loop-met-preserved
loop-met-preserved c =
    let w = world c.args.self.now in
    let l = c.loop-met in
    let shown = to_z w32 l.item-bits in
    let level = level_is w _ shown c.level_of.result c.level_of.ensures c.bucket-found.ensures.value in
    let fits : SFits w32 c.pick-item.result = search rules in
    record {
      within = c.in-Some.ensures.within;
      picked = to_z-of_z w32 c.pick-item.result fits ∙ c.pick-item.ensures ∙ ap (pick_of c.in-Some.below.now c.args.self.now.x) c.at.ensures.value;
      rest = sym (descent_more w (replica_number c.args.draw.numrep c.args.draw.base c.args.draw.round) c.args.wanted c.args.start.now.bucket.now.level l.met c.level_of.result l.bucket.now c.in-Some.below.now shown shown (omega arith) l.invariant.picked refl level c.if-level_of-wanted.false (sym c.in-Some.ensures.value)) ∙ l.invariant.rest;
    }

pub returns-clause-value : goal.returns-clause-value
returns-clause-value c =
    let w = world c.args.self.now in
    sym (descent_none w (replica_number c.args.draw.numrep c.args.draw.base c.args.draw.round) c.args.wanted c.args.start.now.bucket.now.level c.loop-met.met c.loop-met.bucket.now (omega arith)) ∙ c.loop-met.invariant.rest
