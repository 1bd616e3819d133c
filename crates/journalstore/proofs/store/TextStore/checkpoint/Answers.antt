use Rattle.std.proofs.Common.{◌⊎◌, OnOk, OnErr, subst}
use Rattle.journalstore.specs.Texts.{Texts, StandsFor}
use Rattle.journalstore.specs.Read.{texts_read}
use Rattle.journalstore.specs.Stores.{HoldsIn, LeavesIn, KeepsIn}
use Rattle.journalstore.proofs.store.TextStore.checkpoint.Goals as goal

pub returns-clause-cut : goal.returns-clause-cut
returns-clause-cut g c =
    subst (λ h. OnOk c.checkpoint.result ((t : Texts) → HoldsIn g.S.Store h t → HoldsIn g.S.Store c.checkpoint.new.conn (texts_read c.args.texts.now))) c.conn.view_is c.checkpoint.ensures.cut

pub returns-clause-crash : goal.returns-clause-crash
returns-clause-crash g c =
    subst (λ h. (t : Texts) → HoldsIn g.S.Store h t → LeavesIn g.S.Store c.checkpoint.new.conn (λ db. StandsFor db t ⊎ StandsFor db (texts_read c.args.texts.now))) c.conn.view_is c.checkpoint.ensures.crash

pub returns-clause-kept : goal.returns-clause-kept
returns-clause-kept g c =
    subst (λ h. OnErr c.checkpoint.result ((t : Texts) → HoldsIn g.S.Store h t → KeepsIn g.S.Store c.checkpoint.new.conn t)) c.conn.view_is c.checkpoint.ensures.kept
