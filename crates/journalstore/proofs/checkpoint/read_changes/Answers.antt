use Rattle.std.proofs.Common.{◌≡◌, [], arith, rules}
use Rattle.std.proofs.lemmas.Result.{IfOk-weaker}
use Rattle.sqlite.specs.State.{HasCleanDisk}
use Rattle.sqlite.specs.Held.{state}
use Rattle.journalstore.specs.Tables.{changes_text}
use Rattle.journalstore.proofs.ReadLemmas.{changes_read, same_shown, plain_changes}
use Rattle.journalstore.proofs.KeepLemmas.{query_keeps, read_keeps}
use Rattle.journalstore.proofs.checkpoint.read_changes.Goals as goal

pub returns-clause-entries : goal.returns-clause-entries
returns-clause-entries g c ready clean =
    let old = state g.S.Store c.args.tx.now.conn.now in
    let new = state g.S.Store c.query_all.new.self.conn.now in
    let early : HasCleanDisk old = omega (arith, c.query_all.ensures.survives.clean, clean) in
    let same : c.as_slice.result.now ≡ c.in_ok-rows.rows.items = search rules in
    IfOk-weaker c.texts_in.result _ _ (λ ts read. changes_read old new (ready early).1 c.as_slice.result.now ts.items read (rw same (c.in_ok-rows.ensures.ok clean))) c.texts_in.ensures.shown

pub returns-in_err-rows-clause-keeps : goal.returns-in_err-rows-clause-keeps
returns-in_err-rows-clause-keeps g c writing clean =
    query_keeps changes_text [] (state g.S.Store c.args.tx.now.conn.now) (state g.S.Store c.query_all.new.self.conn.now) c.in_err-rows.field-0.0 (c.in_err-rows.ensures.err clean)

pub returns-clause-keeps : goal.returns-clause-keeps
returns-clause-keeps g c writing clean =
    let old = state g.S.Store c.args.tx.now.conn.now in
    let new = state g.S.Store c.query_all.new.self.conn.now in
    let early : HasCleanDisk old = omega (arith, c.query_all.ensures.survives.clean, clean) in
    read_keeps old new (same_shown changes_text old new c.in_ok-rows.rows.items (plain_changes old.now.schema (writing early).1) (c.in_ok-rows.ensures.ok clean))
