use Rattle.std.proofs.Common.{◌⊎◌, OnOk, OnErr, subst}
use Rattle.journalstore.specs.Texts.{Texts, bare_text, with_change, IsAfter, StandsFor}
use Rattle.journalstore.specs.Stores.{HoldsIn, LeavesIn, KeepsIn}
use Rattle.journalstore.proofs.store.TextStore.append.Goals as goal

pub returns-clause-appends : goal.returns-clause-appends
returns-clause-appends g c =
    subst (λ h. OnOk c.append.result ((t : Texts) → HoldsIn g.S.Store h t → IsAfter t c.args.epoch → HoldsIn g.S.Store c.append.new.conn (with_change t (c.args.epoch, bare_text c.args.change.now)))) c.conn.view_is c.append.ensures.appends

pub returns-clause-kept : goal.returns-clause-kept
returns-clause-kept g c =
    subst (λ h. OnErr c.append.result ((t : Texts) → HoldsIn g.S.Store h t → KeepsIn g.S.Store c.append.new.conn t)) c.conn.view_is c.append.ensures.kept

pub returns-clause-crash : goal.returns-clause-crash
returns-clause-crash g c =
    subst (λ h. (t : Texts) → HoldsIn g.S.Store h t → IsAfter t c.args.epoch → LeavesIn g.S.Store c.append.new.conn (λ db. StandsFor db t ⊎ StandsFor db (with_change t (c.args.epoch, bare_text c.args.change.now)))) c.conn.view_is c.append.ensures.crash
