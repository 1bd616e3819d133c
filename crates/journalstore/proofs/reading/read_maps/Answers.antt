use Rattle.std.proofs.Common.{◌≡◌, arith, rules}
use Rattle.std.proofs.lemmas.Result.{IfOk-weaker}
use Rattle.sqlite.specs.State.{HasCleanDisk}
use Rattle.sqlite.specs.Held.{state}
use Rattle.journalstore.proofs.ReadLemmas.{maps_read}
use Rattle.journalstore.proofs.reading.read_maps.Goals as goal

pub returns-clause-entries : goal.returns-clause-entries
returns-clause-entries g c ready clean =
    let old = state g.S.Store c.args.conn.now in
    let new = state g.S.Store c.query_all.new.self in
    let early : HasCleanDisk old = omega (arith, c.query_all.ensures.survives.clean, clean) in
    let same : c.as_slice.result.now ≡ c.in_ok-rows.rows.items = search rules in
    IfOk-weaker c.texts_in.result _ _ (λ ts read. maps_read old new (ready early).1.schema c.as_slice.result.now ts.items read (rw same (c.in_ok-rows.ensures.ok clean))) c.texts_in.ensures.shown
