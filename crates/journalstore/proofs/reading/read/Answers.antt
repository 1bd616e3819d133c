use Rattle.std.proofs.Common.{rules}
use Rattle.sqlite.specs.Held.{state}
use Rattle.journalstore.specs.Read.{texts_read}
use Rattle.journalstore.specs.Stores.{IsRunning, IsOf}
use Rattle.journalstore.proofs.StoreLemmas.{leaves_held}
use Rattle.journalstore.proofs.reading.read.Goals as goal

pub returns-clause-holds : goal.returns-clause-holds
returns-clause-holds g c ready =
    let new = state g.S.Store c.read_changes.new.conn in
    let t = texts_read (record { first = c.in_ok-first.first; changes = c.in_ok-changes.changes }) in
    let both : IsRunning new × IsOf new t = search rules in
    (both.0, both.1, leaves_held new t (g.met.S.Store.settled c.read_changes.new.conn.store) both.0 both.1)
