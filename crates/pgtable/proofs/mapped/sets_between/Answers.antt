use Rattle.std.proofs.Common.{◌≡◌, ◌+◌, ◌-◌, ◌∙◌, sym, ap, length, arith}
use Rattle.std.proofs.lemmas.List.FromFn.{map-range_with_len_more, length-map-range_with_len}
use Rattle.grouptable.specs.Sets.{GroupSets}
use Rattle.osdmap.specs.Placement.{mapped_set}
use Rattle.osdmap.proofs.Fitting.{mapped_fits}
use Rattle.pgtable.proofs.mapped.sets_between.Goals as goal

pub push-requires-clause-fits : goal.push-requires-clause-fits
push-requires-clause-fits c =
    let m = c.args.placing.now.map.now.map in
    let p = c.args.placing.now.pool in
    let width = ap (λ (g : GroupSets). g.width) c.loop-number.invariant.0 in
    omega (arith, width, ap length c.in_ok-mapped_set.ensures.set, mapped_fits m p c.loop-number.number c.holds_together.ensures c.requires.there (omega (arith, c.loop-number-test.true, c.requires.within, c.is_within_limits.ensures.groups_most)))

pub push-requires-clause-few : goal.push-requires-clause-few
push-requires-clause-few c =
    let placing = c.args.placing.now in
    let sets = ap (λ (g : GroupSets). length g.sets) c.loop-number.invariant.0 in
    omega (arith, sets, length-map-range_with_len (mapped_set placing.map.now.map placing.pool) c.args.from (c.loop-number.number - c.args.from), c.loop-number-test.true, c.requires.within, c.is_within_limits.ensures.groups_most)

pub loop-number-preserved : goal.loop-number-preserved
loop-number-preserved c =
    let from = c.args.from in
    let at = c.loop-number.number in
    let placing = c.args.placing.now in
    let more = map-range_with_len_more (mapped_set placing.map.now.map placing.pool) from (at - from) at (omega (arith, c.loop-number.auto.number)) in
    let len : at + 1 - from ≡ at - from + 1 = omega (arith, c.loop-number.auto.number) in (
      c.in_ok-push.ensures
          ∙ rw (len, c.loop-number.invariant.0, c.in_ok-mapped_set.ensures.set) (ap (λ sets. record { width = placing.pool.size; sets = sets }) (sym more)),
      omega (arith, len, c.in_ok-mapped_set.ensures.run, c.loop-number.invariant.1),
    )
