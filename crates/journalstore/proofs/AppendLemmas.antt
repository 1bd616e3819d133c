-- What the statement of an append does.
use Rattle.std.proofs.Common.{◌≡◌, ◌⊎◌, inl, inr, ℕ, ℤ, List, [], ◌∷◌, Bool, true, false, cond, None, Ok, Err, Result, IsTrue, refl, sym, ap, subst, ◌∙◌, arith}
use Rattle.std.proofs.lemmas.Bool.{cases_Bool}
use Rattle.sqlite.specs.declared.types.Value.{Value}
use Rattle.sqlite.specs.declared.types.Value.TheVariants.{Null, Int, Text}
use Rattle.sqlite.specs.Order.{Row}
use Rattle.sqlite.specs.Term.{Term, lit, col}
use Rattle.sqlite.specs.Ops.{unary}
use Rattle.sqlite.specs.Kind.TheVariants.{Integer}
use Rattle.sqlite.specs.Source.TheVariants.{Values}
use Rattle.sqlite.specs.Command.{Command}
use Rattle.sqlite.specs.Command.TheVariants.{Insert}
use Rattle.sqlite.specs.Edit.{edit_of, edited}
use Rattle.sqlite.specs.Cast.{cast}
use Rattle.sqlite.specs.Rowids.TheVariants.{Chosen}
use Rattle.sqlite.specs.Does.{Tally, Does}
use Rattle.sqlite.specs.Rows.{Written}
use Rattle.sqlite.specs.Tree.{Trees}
use Rattle.sqlite_trees.specs.Tree.{put_row}
use Rattle.sqlite_tied.specs.Compute.{everything}
use Rattle.sqlite.specs.declared.error.Error.{Error}
use Rattle.sqlite.specs.Listing.{understood}
use Rattle.sqlite.specs.Effect.{Database}
use Rattle.sqlite.specs.State.{State, mode_of, Executes, ExecutesIn, IsNotRun, IsUnchanged, IsRolledBack, Fails, CommitsBy, shows_rows, text_of}
use Rattle.sqlite.proofs.Callers.{IsPlain, command_of, statement_of, runs_as, one_step}
use Rattle.journalstore.specs.Tables.{Form, bare, noted, IsOfStore, journal_table, schema_of, stored_row, insert_text}
use Rattle.journalstore.specs.Stores.{IsSettled}

-- the journal has the row of this epoch in its place, and the first maps are as they were
pub record Appends (epoch : ℤ) (change : List ℕ) (old new : Trees) : Type 0 where
  pub journal : new 0 ≡ put_row (stored_row epoch change) (old 0)
  pub maps : new 1 ≡ old 1

-- the store is open, shows this and has committed it
pub record HasAppended (epoch : ℤ) (change : List ℕ) (old new : State) : Type 0 where
  pub is_open : IsTrue new.is_open
  pub appends : Appends epoch change old.now.trees new.now.trees
  pub committed : new.committed ≡ new.now

-- the store shows and has committed what it did before
pub record IsKept (old new : State) : Type 0 where
  pub shown : new.now ≡ old.now
  pub committed : new.committed ≡ old.committed

abbrev terms : List Term
terms = col 0 0 ∷ lit Null ∷ col 0 1 ∷ []

abbrev command : Command
command = Insert 0 (Values terms 3)

-- the statement of an append is read as an insert of one row into the journal: the epoch, a missing value and the text
insert_is : (f : Form) → command_of (understood (schema_of f) insert_text) ≡ Insert 0 (Values terms 3)
unfolding understood everything
insert_is bare = refl
insert_is noted = refl

-- it has no RETURNING, and does not read the time
insert_plain : (f : Form) → IsPlain (understood (schema_of f) insert_text)
unfolding understood everything
insert_plain bare = (refl, refl)
insert_plain noted = (refl, refl)

-- a choice between a value and the same value is that value
either : (b : Bool) (x : Value) → cond b x x ≡ x
either true x = refl
either false x = refl

-- a missing value put into a column of integers stays missing
cast_null : cast Integer Null ≡ Null
unfolding unary
cast_null = either _ Null

-- an integer put into a column of integers stays the same
cast_int : (n : ℤ) → cast Integer (Int n) ≡ Int n
unfolding unary
cast_int n = either _ (Int n)

-- a part that gave a value did not stop on the way
went : {B E R : Type 0} {b : B} {Stops : E → Type 0} → ((stop : E) × Stops stop × (Ok b ≡ Err stop)) ⊎ R → R
went (inl stopped) = absurd (let e = stopped.2 in cc)
went (inr on) = on

-- equal successes have the same value
same_value : {B E : Type 0} {a b : B} → ◌≡◌ {A = Result B E} (Ok a) (Ok b) → a ≡ b
same_value e = cc

-- an append that goes through keeps the schema of a store, and puts its row into the journal alone
does : (f : Form) (old : State) (n : ℤ) (change text : List ℕ) (tally : Tally) (after : Database) → old.now.schema ≡ schema_of f
    → Does old.step_limit (mode_of old) (Int n ∷ Text change ∷ []) old.now text None command (Ok (tally, after))
    → (after.schema ≡ schema_of f) × Appends n change old.now.trees after.trees
does bare old n change text tally after has h =
    let params = Int n ∷ Text change ∷ [] in
    let db = old.now.trees in
    let done = went (subst (λ s. Does old.step_limit (mode_of old) params (record old.now { schema = s }) text None command (Ok (tally, after))) has h) in
    let now = ap (λ (p : Tally × Database). p.1) (same_value (went (went done.2).2).2) in
    let given = went done.1 in
    let written = went (went given.2).2 in
    let counted = went written.2 in
    let trees : done.0.trees ≡ written.0 = ap (λ (it : Written). it.trees) (same_value counted.2) ∙ same_value counted.1 in
    let step = one_step (schema_of bare) _ db written.0 (edit_of db journal_table [] Chosen 0 given.0) refl written.1 in
    let edit : edited db (edit_of db journal_table [] Chosen 0 given.0) ≡ put_row (stored_row n change) (db 0) = ap (λ all. edited db (edit_of db journal_table [] Chosen 0 all)) given.1.1 ∙ rw (cast_int n, cast_null) in
    let same : after.trees ≡ written.0 = ap (λ (d : Database). d.trees) now ∙ trees in (
      ap (λ (d : Database). d.schema) now,
      record {
        journal = ap (λ (t : Trees). t 0) same ∙ step.rows ∙ edit;
        maps = ap (λ (t : Trees). t 1) same ∙ step.tables.1.0 (λ e. omega (arith, e));
      },
    )
does noted old n change text tally after has h =
    let params = Int n ∷ Text change ∷ [] in
    let db = old.now.trees in
    let done = went (subst (λ s. Does old.step_limit (mode_of old) params (record old.now { schema = s }) text None command (Ok (tally, after))) has h) in
    let now = ap (λ (p : Tally × Database). p.1) (same_value (went (went done.2).2).2) in
    let given = went done.1 in
    let written = went (went given.2).2 in
    let counted = went written.2 in
    let trees : done.0.trees ≡ written.0 = ap (λ (it : Written). it.trees) (same_value counted.2) ∙ same_value counted.1 in
    let step = one_step (schema_of noted) _ db written.0 (edit_of db journal_table [] Chosen 0 given.0) refl written.1 in
    let edit : edited db (edit_of db journal_table [] Chosen 0 given.0) ≡ put_row (stored_row n change) (db 0) = ap (λ all. edited db (edit_of db journal_table [] Chosen 0 all)) given.1.1 ∙ rw (cast_int n, cast_null) in
    let same : after.trees ≡ written.0 = ap (λ (d : Database). d.trees) now ∙ trees in (
      ap (λ (d : Database). d.schema) now,
      record {
        journal = ap (λ (t : Trees). t 0) same ∙ step.rows ∙ edit;
        maps = ap (λ (t : Trees). t 1) same ∙ step.tables.1.0 (λ e. omega (arith, e));
      },
    )

-- on a settled store it leaves the store open and settled, with the row put in and committed
pub appends : (old new : State) (n : ℤ) (change : List ℕ) (count : ℕ) → IsSettled old → Executes insert_text (Int n ∷ Text change ∷ []) old new (Ok count)
    → HasAppended n change old new × IsSettled new
appends old new n change count settled h =
    let params = Int n ∷ Text change ∷ [] in
    let form = settled.schema.0 in
    let w = runs_as insert_text params old new (schema_of form) settled.schema.1 command (insert_is form) (insert_plain form) count h in
    let did = does form old n change (statement_of insert_text (understood (schema_of form) insert_text)) w.tally new.now settled.schema.1 w.changed in
    let committed : new.committed ≡ new.now = rw settled.autocommit at w.shown.committed_is in (
      record { is_open = w.shown.is_open; appends = did.1; committed = committed },
      record { autocommit = w.shown.mode ∙ settled.autocommit; schema = (form, did.0); committed = committed },
    )

-- a store that shows and has committed what it did before, with no transaction under way, is settled as before
kept_schema : (old new : State) → IsSettled old → new.now ≡ old.now → new.committed ≡ old.committed → new.in_transaction ≡ false → IsKept old new × IsSettled new
kept_schema old new settled now committed mode =
    (record { shown = now; committed = committed }, record { autocommit = mode; schema = subst (λ (d : Database). IsOfStore d.schema) (sym now) settled.schema; committed = committed ∙ settled.committed ∙ sym now })

-- a call that changes nothing leaves what there was, settled
unchanged : (old new : State) → IsSettled old → IsUnchanged old new → IsKept old new × IsSettled new
unchanged old new settled u = kept_schema old new settled u.0.now_is u.0.committed_is (u.0.mode ∙ settled.autocommit)

-- one that rolls back does so too, where the store stays open
rolled_back : (old new : State) → IsSettled old → IsTrue new.is_open → IsRolledBack old new → IsKept old new × IsSettled new
rolled_back old new settled running r =
    let u = r.undone running in
    kept_schema old new settled (u.0 ∙ settled.committed) u.1 r.autocommit

-- so does one that fails, where it stays open
fails : (old new : State) (Big : Type 0) (e : Error) → IsSettled old → IsTrue new.is_open → Fails old new Big e → IsKept old new × IsSettled new
fails old new Big e settled running f = rolled_back old new settled running f.3

-- a statement that is refused outside a transaction leaves what there was, unless it shut the database
pub keeps : (sql : List ℕ) (params : Row) (old new : State) (e : Error) → IsSettled old → IsTrue new.is_open → Executes sql params old new (Err e) → IsKept old new × IsSettled new
unfolding ExecutesIn IsNotRun
keeps sql params old new e settled running (inl (inl h)) = unchanged old new settled h.1
keeps sql params old new e settled running (inl (inr f)) = fails old new _ e settled running f
keeps sql params old new e settled running (inr h) = elim (cases_Bool (shows_rows false h.0)) [
  | inl shows ↦ unchanged old new settled (rw shows at h.2).1
  | inr runs ↦ elim (rw runs at h.2) [
    | inl refused ↦ unchanged old new settled refused.1
    | inr f ↦ fails old new _ e settled running f
  ]
]

-- what an append may commit of a settled store has the row put into the journal, and the first maps as they were
pub commits : (old : State) (n : ℤ) (change : List ℕ) → IsSettled old → (db : Trees) → CommitsBy insert_text (Int n ∷ Text change ∷ []) old db → Appends n change old.now.trees db
unfolding CommitsBy
commits old n change settled db h =
    let form = settled.schema.0 in
    let known = sym h.1.is ∙ ap (λ s. understood s insert_text) settled.schema.1 in
    let plain = subst IsPlain (sym known) (insert_plain form) in
    let is : h.0.command ≡ command = ap command_of known ∙ insert_is form in
    elim h.2 [
      | inl ends ↦ elim ends.0 [
        | inl commit ↦ absurd (let e = sym is ∙ commit in cc)
        | inr release ↦ absurd (let e = sym is ∙ release.2 in cc)
      ]
      | inr write ↦
          let did = does form old n change (text_of insert_text h.0) write.1 write.2 settled.schema.1 (rw (plain.0, plain.1, is) at write.3) in
          subst (Appends n change old.now.trees) (sym write.5) did.1
    ]
