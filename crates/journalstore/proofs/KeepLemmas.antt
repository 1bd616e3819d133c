-- What the calls inside a transaction leave of the last commit.
use Rattle.std.proofs.Common.{◌≡◌, ◌⊎◌, inl, inr, ℕ, false, List, Ok, Err, Some, None, Result, Option, IsTrue, sym, subst, ◌∙◌}
use Rattle.sqlite.specs.Order.{Row}
use Rattle.sqlite.specs.declared.error.Error.{Error}
use Rattle.sqlite_resolve.specs.declared.compiled.Compiled.{Compiled}
use Rattle.sqlite_schema.specs.declared.command.Returning.{Returning}
use Rattle.sqlite.specs.Clock.{timed}
use Rattle.sqlite.specs.Effect.{Database}
use Rattle.sqlite.specs.Steps.{FailsToCommit}
use Rattle.sqlite.specs.State.{State, Shows as Committed, KeepsCommit, IsUnchanged, IsRolledBack, Fails, IsNotRun, ExecutesInside, FailsToQuery, FailsToShow, IsTooLate}
use Rattle.journalstore.specs.Tables.{IsOfStore}
use Rattle.journalstore.specs.Texts.{Texts, StandsFor}
use Rattle.journalstore.specs.Stores.{IsSettled, IsWritten, Shows}

-- a call that changes nothing commits nothing
unchanged : (old new : State) → IsUnchanged old new → KeepsCommit old new
unchanged old new u = record { was_open = λ _. u.0.was_open; committed = λ _. u.0.committed_is }

-- nor does one that rolls back
rolled_back : (old new : State) → IsRolledBack old new → KeepsCommit old new
rolled_back old new r = record { was_open = r.was_open; committed = λ now. (r.undone now).1 }

-- what is kept twice is kept
pub keeps_then : (a b c : State) → KeepsCommit a b → KeepsCommit b c → KeepsCommit a c
keeps_then a b c one two = record { was_open = λ now. one.was_open (two.was_open now); committed = λ now. two.committed now ∙ one.committed (two.was_open now) }

-- a statement inside a transaction commits nothing, whether it runs or fails
pub execute_keeps : (sql : List ℕ) (params : Row) (old new : State) (r : Result ℕ Error) → ExecutesInside 0 sql params old new r → KeepsCommit old new
execute_keeps sql params old new (Ok count) h = record { was_open = λ _. h.1.was_open; committed = λ _. h.1.committed_is }
execute_keeps sql params old new (Err e) (inl (h, inl u)) = unchanged old new u
execute_keeps sql params old new (Err e) (inl (h, inr r)) = rolled_back old new r
execute_keeps sql params old new (Err e) (inr h) = unchanged old new h.2

-- nor does a question that changes nothing
pub read_keeps : (old new : State) → IsUnchanged old new → KeepsCommit old new
read_keeps = unchanged

-- a failure, which undoes the transaction, commits nothing
fails : (old new : State) (Big : Type 0) (e : Error) → Fails old new Big e → KeepsCommit old new
fails old new Big e f = rolled_back old new f.3

-- a question that fails while it shows its rows commits nothing
show_keeps : (old new : State) (sql : List ℕ) (c : Compiled) (params : Row) (e : Error) (r : Option Returning) → FailsToShow old new sql c params e r → KeepsCommit old new
show_keeps old new sql c params e None h = unchanged old new h.3
show_keeps old new sql c params e (Some what) (inl h) = unchanged old new h.1
show_keeps old new sql c params e (Some what) (inr f) = fails old new _ e f

-- nor does any question that fails, also one that comes after the transaction has ended
pub query_keeps : (sql : List ℕ) (params : Row) (old new : State) (e : Error) → FailsToQuery sql params old new e ⊎ IsTooLate sql params old new e → KeepsCommit old new
unfolding FailsToQuery IsNotRun
query_keeps sql params old new e (inl (inl (inl h))) = unchanged old new h.1
query_keeps sql params old new e (inl (inl (inr f))) = fails old new _ e f
query_keeps sql params old new e (inl (inr h)) = show_keeps old new sql h.0 (timed params h.0.formats h.1.now) e h.0.returning h.2
query_keeps sql params old new e (inr h) = unchanged old new h.5

-- a transaction that is rolled back leaves the texts from before it
pub rolled_texts : (old last new : State) (t : Texts) → IsSettled old → StandsFor old.now.trees t → KeepsCommit old last → IsRolledBack last new → IsTrue new.is_open → Shows new t
rolled_texts old last new t settled stands keeps r now =
    let back : new.now ≡ old.now = (r.undone now).0 ∙ keeps.committed (r.was_open now) ∙ settled.committed in record {
      settled = record { autocommit = r.autocommit; schema = subst (λ (d : Database). IsOfStore d.schema) (sym back) settled.schema; committed = (r.undone now).1 ∙ sym (r.undone now).0 };
      stands = subst (λ (d : Database). StandsFor d.trees t) (sym back) stands;
    }

-- a commit that failed leaves the texts from before the transaction
pub failed_texts : (old begun last new : State) (t : Texts) (e : Error) → IsSettled old → StandsFor old.now.trees t → begun.is_open ≡ old.is_open → begun.committed ≡ old.committed → KeepsCommit begun last
    → IsTrue last.in_transaction → FailsToCommit last new e → IsTrue new.is_open → Shows new t
failed_texts old begun last new t e settled stands running same keeps inside (inl f) now =
    let kept : KeepsCommit old last = record { was_open = λ was. sym running ∙ keeps.was_open was; committed = λ was. keeps.committed was ∙ same } in
    rolled_texts old last new t settled stands kept f.3 now
failed_texts old begun last new t e settled stands running same keeps inside (inr h) now = absurd (let outside = h.1 in cc)

-- a commit leaves the texts that the transaction has written
pub committed_texts : (last new : State) (t : Texts) → IsWritten last t → Committed last new last.now last.now false → Shows new t
committed_texts last new t written c = record {
  settled = record {
    autocommit = c.mode;
    schema = subst (λ (d : Database). IsOfStore d.schema) (sym c.now_is) written.schema;
    committed = c.committed_is ∙ sym c.now_is;
  };
  stands = subst (λ (d : Database). StandsFor d.trees t) (sym c.now_is) written.stands;
}
