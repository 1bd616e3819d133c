use Rattle.std.proofs.Common.{◌≡◌, ◌⊎◌, true, subst}
use Rattle.journalstore.specs.Texts.{Texts, StandsFor}
use Rattle.journalstore.specs.Stores.{HoldsIn, LeavesIn, KeepsIn}
use Rattle.journalstore.proofs.store.TextStore.is_running.Goals as goal

pub returns-clause-holds : goal.returns-clause-holds
returns-clause-holds g c =
    subst (λ h. c.is_running.result ≡ true → (t : Texts) → KeepsIn g.S.Store h t → HoldsIn g.S.Store c.is_running.new.conn t) c.conn.view_is c.is_running.ensures.holds

pub returns-clause-crash : goal.returns-clause-crash
returns-clause-crash g c =
    subst (λ h. (t more : Texts) → LeavesIn g.S.Store h (λ db. StandsFor db t ⊎ StandsFor db more) → LeavesIn g.S.Store c.is_running.new.conn (λ db. StandsFor db t ⊎ StandsFor db more)) c.conn.view_is c.is_running.ensures.crash
