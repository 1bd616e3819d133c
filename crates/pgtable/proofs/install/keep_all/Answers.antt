use Rattle.std.proofs.Common.{◌∙◌, ◌<◌, refl, sym, ap, length, Some, arith}
use Rattle.std.proofs.lemmas.Option.{slice_get_read}
use Rattle.pgtable.proofs.KeptTables.{carry_begins, carry_fits, keep_step, carry_ends}
use Rattle.pgtable.proofs.install.keep_all.Goals as goal

pub loop-at-init : goal.loop-at-init
loop-at-init c = carry_begins _ _ _ c.requires

pub keep-requires : goal.keep-requires
keep-requires c = λ k is.
    let inside : c.loop-at.at < length c.loop-at.kept.items = omega (arith, c.loop-at.invariant.kept_long, c.requires.same) in
    let there = slice_get_read c.loop-at.kept.items _ c.loop-at.at c.index_mut.result.now refl inside c.index_mut.ensures.value in
    carry_fits _ _ _ c.requires c.loop-at.at _ _ _ c.loop-at.invariant k (there ∙ ap (λ x. Some x) (sym c.take-one.ensures.value ∙ is))

pub loop-at-preserved : goal.loop-at-preserved
loop-at-preserved c =
    let inside : c.loop-at.at < length c.loop-at.kept.items = omega (arith, c.loop-at.invariant.kept_long, c.requires.same) in
    let there = slice_get_read c.loop-at.kept.items _ c.loop-at.at c.index_mut.result.now refl inside c.index_mut.ensures.value ∙ ap (λ x. Some x) (sym c.take-one.ensures.value) in
    let here = slice_get_read c.loop-at.pools _ c.loop-at.at c.index-pools-at.result refl (omega (arith, c.loop-at.invariant.long)) c.index-pools-at.is in
    let made = rw (← c.index-pools-at.is) at c.keep.ensures.table in
    let next = keep_step c.args.old.now c.args.pools.now c.args.kept.items c.requires c.loop-at.at c.loop-at.old c.loop-at.pools c.loop-at.kept.items c.loop-at.invariant c.index-pools-at.result c.keep.new.table c.take-one.result c.keep.new.old here there made c.keep.ensures.others c.keep.ensures.long (omega arith) in
    rw c.take-one.ensures.after next

pub returns : goal.returns
returns c = carry_ends _ _ _ c.requires c.loop-at.at _ _ _ c.loop-at.invariant (omega (arith, c.loop-at.invariant.long))
