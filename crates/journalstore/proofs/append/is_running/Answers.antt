use Rattle.std.proofs.Common.{◌≡◌, true, is_ok, rules}
use Rattle.sqlite.specs.State.{HasCleanDisk, IsUnchanged}
use Rattle.sqlite.specs.Held.{state}
use Rattle.journalstore.proofs.StoreLemmas.{beside_ok, running_texts, leaves_still}
use Rattle.journalstore.proofs.append.is_running.Goals as goal

pub returns-clause-holds : goal.returns-clause-holds
returns-clause-holds g c is t kept =
    let old = state g.S.Store c.args.conn.now in
    let new = state g.S.Store c.prepare.new.self in
    let found : is_ok c.prepare.result ≡ true = search rules in
    let same : HasCleanDisk new → IsUnchanged old new = λ clean. beside_ok c.prepare.result _ _ found (c.prepare.ensures.ok clean) in
    running_texts old new t (g.met.S.Store.settled c.prepare.new.self.store) c.prepare.ensures.survives same kept

pub returns-clause-crash : goal.returns-clause-crash
returns-clause-crash g c t more =
    leaves_still (state g.S.Store c.args.conn.now) (state g.S.Store c.prepare.new.self) _ c.prepare.ensures.survives
