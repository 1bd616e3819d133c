use Rattle.std.proofs.Common.{inl, rules}
use Rattle.sqlite.specs.Held.{state}
use Rattle.journalstore.specs.Texts.{Texts, bare_text, with_change}
use Rattle.journalstore.specs.Stores.{HoldsIn, KeepsIn}
use Rattle.journalstore.proofs.StoreLemmas.{leaves_held, appends_texts, keeps_texts, crash_texts}
use Rattle.journalstore.proofs.append.append.Goals as goal

pub returns-then-epoch-gt-LAST_EPOCH-clause-crash : goal.returns-then-epoch-gt-LAST_EPOCH-clause-crash
returns-then-epoch-gt-LAST_EPOCH-clause-crash g c t holds after clean db may = inl (holds.2 clean db may)

pub returns-in_err-insert-clause-kept : goal.returns-in_err-insert-clause-kept
returns-in_err-insert-clause-kept g c =
    let kept : (t : Texts) → HoldsIn g.S.Store c.args.conn.now t → KeepsIn g.S.Store c.insert.new.conn t = λ t holds. keeps_texts (state g.S.Store c.args.conn.now) (state g.S.Store c.insert.new.conn) _ _ c.in_err-insert.ensures.survives t holds.0 holds.1 c.in_err-insert.field-0.0 c.in_err-insert.ensures.runs in
    search (rules, kept)

pub returns-in_err-insert-clause-crash : goal.returns-in_err-insert-clause-crash
returns-in_err-insert-clause-crash g c t holds after =
    crash_texts (state g.S.Store c.args.conn.now) (state g.S.Store c.insert.new.conn) c.args.epoch c.args.change.now c.in_err-insert.ensures.survives t holds.0 holds.1 after holds.2

pub returns-clause-appends : goal.returns-clause-appends
returns-clause-appends g c t holds after =
    let new = state g.S.Store c.insert.new.conn in
    let now = appends_texts (state g.S.Store c.args.conn.now) new c.args.epoch c.args.change.now c.in_ok-insert.ensures.survives t holds.0 holds.1 after c.in_ok-insert.field-0 c.in_ok-insert.ensures.runs in
    (now.0, now.1, leaves_held new (with_change t (c.args.epoch, bare_text c.args.change.now)) (g.met.S.Store.settled c.insert.new.conn.store) now.0 now.1)

pub returns-clause-crash : goal.returns-clause-crash
returns-clause-crash g c t holds after =
    crash_texts (state g.S.Store c.args.conn.now) (state g.S.Store c.insert.new.conn) c.args.epoch c.args.change.now c.in_ok-insert.ensures.survives t holds.0 holds.1 after holds.2
