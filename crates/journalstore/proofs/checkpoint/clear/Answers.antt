use Rattle.std.proofs.Common.{arith}
use Rattle.sqlite.specs.State.{HasCleanDisk}
use Rattle.sqlite.specs.Held.{state}
use Rattle.journalstore.proofs.CheckpointLemmas.{deletes, clears}
use Rattle.journalstore.proofs.checkpoint.clear.Goals as goal

pub returns-clause-writing : goal.returns-clause-writing
returns-clause-writing g c writing clean _ =
    let old = state g.S.Store c.args.tx.now.conn.now in
    let mid = state g.S.Store c.execute.new.self.conn.now in
    let last = state g.S.Store c.execute-2.new.self.conn.now in
    let then : HasCleanDisk mid = omega (arith, c.execute-2.ensures.survives.clean, clean) in
    let early : HasCleanDisk old = omega (arith, c.execute.ensures.survives.clean, then) in
    let one = c.in_ok-execute.ensures.runs then (writing early).0 in
    let two = c.in_ok-execute-2.ensures.runs clean one.1.mode in
    let schema = deletes old mid _ c.in_ok-execute.field-0 (writing early).1 one.0 in
    (two.1.mode, clears mid last _ c.in_ok-execute-2.field-0 schema two.0)
