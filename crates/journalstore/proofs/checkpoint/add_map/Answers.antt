use Rattle.std.proofs.Common.{Ok, arith}
use Rattle.sqlite.specs.State.{HasCleanDisk}
use Rattle.sqlite.specs.Held.{state}
use Rattle.journalstore.proofs.CheckpointLemmas.{inserts}
use Rattle.journalstore.proofs.KeepLemmas.{execute_keeps}
use Rattle.journalstore.proofs.checkpoint.add_map.Goals as goal

pub returns-clause-writing : goal.returns-clause-writing
returns-clause-writing g c writing clean _ =
    let old = state g.S.Store c.args.tx.now.conn.now in
    let last = state g.S.Store c.execute.new.self.conn.now in
    let early : HasCleanDisk old = omega (arith, c.execute.ensures.survives.clean, clean) in
    let one = c.in_ok-execute.ensures.runs clean (writing early).0 in
    (one.1.mode, inserts old last _ c.in_ok-execute.field-0 (writing early).1 one.0)

pub returns-clause-keeps : goal.returns-clause-keeps
returns-clause-keeps g c writing clean =
    let old = state g.S.Store c.args.tx.now.conn.now in
    let last = state g.S.Store c.execute.new.self.conn.now in
    let early : HasCleanDisk old = omega (arith, c.execute.ensures.survives.clean, clean) in
    execute_keeps _ _ old last (Ok c.in_ok-execute.field-0) (c.in_ok-execute.ensures.runs clean (writing early).0)
