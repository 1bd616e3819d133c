use Rattle.std.proofs.Common.{arith}
use Rattle.sqlite.specs.State.{HasCleanDisk}
use Rattle.sqlite.specs.Held.{state}
use Rattle.journalstore.proofs.ReadLemmas.{about_same}
use Rattle.journalstore.proofs.StoreLemmas.{held_still}
use Rattle.journalstore.proofs.facts.read_own.Goals as goal

pub returns-clause-holds : goal.returns-clause-holds
returns-clause-holds g c t holds =
    let old = state g.S.Store c.args.conn.now in
    let new = state g.S.Store c.query_all.new.self in
    let early : HasCleanDisk new → HasCleanDisk old = λ clean. omega (arith, c.query_all.ensures.survives.clean, clean) in
    held_still old new t (g.met.S.Store.settled c.query_all.new.self.store) early (λ clean of. about_same old new c.in_ok-rows.rows.items of (c.in_ok-rows.ensures.ok clean)) holds
