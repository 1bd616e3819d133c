use Rattle.std.proofs.Common.{rules, map}
use Rattle.journalstore.specs.Read.{entry_read}
use Rattle.mapstore.specs.Openings.{IsUnread}
use Rattle.mapstore.proofs.RowLemmas.{rows_more, unread_there}
use Rattle.mapstore.proofs.found.read_rows.Goals as goal

pub returns-in_err-row-clause-wordless : goal.returns-in_err-row-clause-wordless
returns-in_err-row-clause-wordless c =
    let unread : IsUnread (map entry_read c.args.changes.now) c.in_err-row.field-0.0 =
    unread_there c.args.changes.now c.loop-stored.stored-index c.stored-item.result c.loop-stored-test.true c.stored-item.is c.in_err-row.field-0.0 c.in_err-row.ensures.wordless in
    search (rules, unread)

pub loop-stored-preserved : goal.loop-stored-preserved
loop-stored-preserved c =
    rw c.in_ok-push.ensures.items
    (rows_more c.args.changes.now c.loop-stored.stored-index c.loop-stored.rows.items c.stored-item.result c.in_ok-row.row c.loop-stored-test.true c.stored-item.is c.loop-stored.invariant c.in_ok-row.ensures.row)
