use Rattle.std.proofs.Common.{◌++◌, [], ◌∷◌, length-append, All, sym, arith}
use Rattle.monitor.specs.declared.tally.Tally.{Tally}
use Rattle.monitor.specs.Tallies.{names_of, IsNewTallyOf}
use Rattle.monitor.proofs.Tallied.{length_more, total_more, tallies_more}
use Rattle.monitor.proofs.tally.tallies.Goals as goal

pub loop-at-preserved : goal.loop-at-preserved
loop-at-preserved c =
    let k = c.pair-own.result.0 in
    let t : Tally = record { at = c.loop-at.at; mine = c.pair-own.result.1 } in
    let kept = c.loop-at.kept.items in
    let (named, total, all, many) = c.loop-at.invariant in
    let more : All (IsNewTallyOf (names_of (kept ++ k ∷ []))) (c.loop-at.tallies.items ++ t ∷ []) =
    tallies_more kept k c.loop-at.tallies.items t all (sym named) c.pair-own.ensures.0 c.pair-own.ensures.2 in
    rw (c.in_ok-push.ensures.items, c.in_ok-push-2.ensures.items) (
      omega (arith, length_more kept k, named),
      omega (arith, total_more kept k, total, c.pair-own.ensures.1),
      more,
      omega (arith, length-append c.loop-at.tallies.items (t ∷ []), many),
    )
