use Rattle.std.proofs.Common.{◌≡◌, ◌+◌, ◌≤◌, rules, arith}
use Rattle.journalstore.proofs.LoopLemmas.{read_more}
use Rattle.journalstore.proofs.reading.texts_in.Goals as goal

pub loop-row-preserved : goal.loop-row-preserved
loop-row-preserved c =
    let next : c.in-Some.next ≡ c.in_ok-text.text.epoch + 1 = search rules in
    let high : c.loop-row.least ≤ c.in_ok-text.text.epoch = search (rules, arith) in
    rw (next, c.in_ok-push.ensures.items) (read_more c.args.rows.now c.loop-row.row-index c.loop-row.found.items c.loop-row.least c.row-item.result c.in_ok-text.text (search rules) (search rules) c.in_ok-text.ensures.shown.0 c.in_ok-text.ensures.shown.1 high c.loop-row.invariant)
