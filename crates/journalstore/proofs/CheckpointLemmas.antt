-- What the writes of a checkpoint leave of the schema.
use Rattle.std.proofs.Common.{◌≡◌, ◌⊎◌, inl, inr, ℕ, List, None, Ok, Err, Result, refl, sym, ap, subst, ◌∙◌, arith}
use Rattle.sqlite.specs.Order.{Row}
use Rattle.sqlite.specs.Tree.{Trees}
use Rattle.sqlite.specs.Command.{Command}
use Rattle.sqlite.specs.Command.TheVariants.{Insert, Delete, Update}
use Rattle.sqlite.specs.Source.{Source}
use Rattle.sqlite.specs.Table.{Table}
use Rattle.sqlite.specs.Schema.{Schema}
use Rattle.sqlite_resolve.specs.declared.error.CompileError.{CompileError}
use Rattle.sqlite_schema.specs.declared.program.Program.{Program}
use Rattle.sqlite_tied.specs.Compute.{everything}
use Rattle.sqlite.specs.declared.run.Mode.{Mode}
use Rattle.sqlite.specs.Rows.{Task}
use Rattle.sqlite.specs.Does.{Tally, Does, OnRows}
use Rattle.sqlite.specs.Effect.{Database}
use Rattle.sqlite.specs.Listing.{listing_schema, understood}
use Rattle.sqlite.specs.State.{State, KeepsCommit, Survives, mode_of, Executes, ExecutesIn}
use Rattle.sqlite.proofs.Callers.{IsPlain, command_of, statement_of, runs_as}
use Rattle.journalstore.specs.Tables.{Form, bare, noted, IsOfStore, journal_table, map_table, about_table, schema_of, delete_text, clear_text, map_insert_text, about_update_text}

-- the statement that deletes the changes up to an epoch is read as a deletion from the journal
delete_is : (f : Form) → (q : Program) × (command_of (understood (schema_of f) delete_text) ≡ Delete 0 q)
unfolding understood everything
delete_is bare = (_, refl)
delete_is noted = (_, refl)

-- the one that deletes the first map is read as a deletion from its table
clear_is : (f : Form) → (q : Program) × (command_of (understood (schema_of f) clear_text) ≡ Delete 1 q)
unfolding understood everything
clear_is bare = (_, refl)
clear_is noted = (_, refl)

-- the one that puts in another first map is read as an insert into its table
insert_is : (f : Form) → (from : Source) × (command_of (understood (schema_of f) map_insert_text) ≡ Insert 1 from)
unfolding understood everything
insert_is bare = (_, refl)
insert_is noted = (_, refl)

-- the one that notes of the store what is told is read as an update of its table
about_is : (q : Program) × (command_of (understood (schema_of noted) about_update_text) ≡ Update 2 q)
unfolding understood everything
about_is = (_, refl)

-- none of them has a RETURNING or reads the time
plain : (f : Form) → IsPlain (understood (schema_of f) delete_text) × IsPlain (understood (schema_of f) clear_text) × IsPlain (understood (schema_of f) map_insert_text)
unfolding understood everything
plain bare = ((refl, refl), (refl, refl), (refl, refl))
plain noted = ((refl, refl), (refl, refl), (refl, refl))

-- nor has the one that notes of the store what is told
notes_plain : IsPlain (understood (schema_of noted) about_update_text)
unfolding understood everything
notes_plain = (refl, refl)

-- where there is no place for notes, the one that writes them is refused
about_none : (e : CompileError) × (understood (schema_of bare) about_update_text ≡ Err e)
unfolding understood listing_schema everything
about_none = (_, refl)

-- a part that gave a value did not stop on the way
went : {B E R : Type 0} {b : B} {Stops : E → Type 0} → ((stop : E) × Stops stop × (Ok b ≡ Err stop)) ⊎ R → R
went (inl stopped) = absurd (let e = stopped.2 in cc)
went (inr on) = on

-- equal successes have the same value
same_value : {B E : Type 0} {a b : B} → ◌≡◌ {A = Result B E} (Ok a) (Ok b) → a ≡ b
same_value e = cc

abbrev task_of : Form → State → Row → Table → Task
task_of f old params table = record { limit = old.step_limit; keys = (mode_of old).keys; schema = schema_of f; table = table; params = params }

-- a write on rows leaves the schema
on_rows : (task : Task) (mode : Mode) (command : Command) (db : Trees) (tally : Tally) (after : Database) → OnRows task mode None command db (Ok (tally, after)) → after.schema ≡ task.schema
on_rows task mode command db tally after h =
    let written = went h in
    let tested = went written.2 in
    let shown = went tested.2 in ap (λ (p : Tally × Database). p.1.schema) (same_value shown.2)

-- where nothing is done, nothing is committed, and a crash leaves what it left
pub survives_none : (s : State) → Survives s s (λ _. ⊥)
survives_none s = record { clean = omega arith; shield = λ h. h; counts = omega arith; limit = refl; closes = λ clean was. inl was; crash = λ clean db may. inl may }

-- and what was committed stays committed
pub keeps_none : (s : State) → KeepsCommit s s
keeps_none s = record { was_open = λ h. h; committed = λ h. refl }

-- a statement that is refused does not run
never : (sql : List ℕ) (params : Row) (old new : State) (s : Schema) (count : ℕ) (e : CompileError) → old.now.schema ≡ s → understood s sql ≡ Err e → Executes sql params old new (Ok count) → ⊥
unfolding ExecutesIn
never sql params old new s count e has none h = let wrong = sym h.1.is ∙ ap (λ d. understood d sql) has ∙ none in cc

module _ (old new : State) (params : Row) (count : ℕ) where
  abbrev Made : Command → List ℕ → Tally → Schema → Type 0
  Made command text tally s = Does old.step_limit (mode_of old) params (record old.now { schema = s }) text None command (Ok (tally, new.now))

  -- once the changes up to an epoch are deleted the schema is still that of a store
  deletes_in : (f : Form) → old.now.schema ≡ schema_of f → Executes delete_text params old new (Ok count) → new.now.schema ≡ schema_of f
  deletes_in bare has h =
      let w = runs_as delete_text params old new (schema_of bare) has (Delete 0 (delete_is bare).0) (delete_is bare).1 (plain bare).0 count h in
      on_rows (task_of bare old params journal_table) (mode_of old) (Delete 0 (delete_is bare).0) old.now.trees w.tally new.now (subst (Made (Delete 0 (delete_is bare).0) (statement_of delete_text (understood (schema_of bare) delete_text)) w.tally) has w.changed)
  deletes_in noted has h =
      let w = runs_as delete_text params old new (schema_of noted) has (Delete 0 (delete_is noted).0) (delete_is noted).1 (plain noted).0 count h in
      on_rows (task_of noted old params journal_table) (mode_of old) (Delete 0 (delete_is noted).0) old.now.trees w.tally new.now (subst (Made (Delete 0 (delete_is noted).0) (statement_of delete_text (understood (schema_of noted) delete_text)) w.tally) has w.changed)

  pub deletes : IsOfStore old.now.schema → Executes delete_text params old new (Ok count) → IsOfStore new.now.schema
  deletes of h = (of.0, deletes_in of.0 of.1 h)

  -- so it is once the first map is deleted
  clears_in : (f : Form) → old.now.schema ≡ schema_of f → Executes clear_text params old new (Ok count) → new.now.schema ≡ schema_of f
  clears_in bare has h =
      let w = runs_as clear_text params old new (schema_of bare) has (Delete 1 (clear_is bare).0) (clear_is bare).1 (plain bare).1 count h in
      on_rows (task_of bare old params map_table) (mode_of old) (Delete 1 (clear_is bare).0) old.now.trees w.tally new.now (subst (Made (Delete 1 (clear_is bare).0) (statement_of clear_text (understood (schema_of bare) clear_text)) w.tally) has w.changed)
  clears_in noted has h =
      let w = runs_as clear_text params old new (schema_of noted) has (Delete 1 (clear_is noted).0) (clear_is noted).1 (plain noted).1 count h in
      on_rows (task_of noted old params map_table) (mode_of old) (Delete 1 (clear_is noted).0) old.now.trees w.tally new.now (subst (Made (Delete 1 (clear_is noted).0) (statement_of clear_text (understood (schema_of noted) clear_text)) w.tally) has w.changed)

  pub clears : IsOfStore old.now.schema → Executes clear_text params old new (Ok count) → IsOfStore new.now.schema
  clears of h = (of.0, clears_in of.0 of.1 h)

  -- so it is once another first map is put in
  inserts_in : (f : Form) → old.now.schema ≡ schema_of f → Executes map_insert_text params old new (Ok count) → new.now.schema ≡ schema_of f
  inserts_in bare has h =
      let w = runs_as map_insert_text params old new (schema_of bare) has (Insert 1 (insert_is bare).0) (insert_is bare).1 (plain bare).2 count h in
      on_rows (task_of bare old params map_table) (mode_of old) (Insert 1 (insert_is bare).0) old.now.trees w.tally new.now (subst (Made (Insert 1 (insert_is bare).0) (statement_of map_insert_text (understood (schema_of bare) map_insert_text)) w.tally) has w.changed)
  inserts_in noted has h =
      let w = runs_as map_insert_text params old new (schema_of noted) has (Insert 1 (insert_is noted).0) (insert_is noted).1 (plain noted).2 count h in
      on_rows (task_of noted old params map_table) (mode_of old) (Insert 1 (insert_is noted).0) old.now.trees w.tally new.now (subst (Made (Insert 1 (insert_is noted).0) (statement_of map_insert_text (understood (schema_of noted) map_insert_text)) w.tally) has w.changed)

  pub inserts : IsOfStore old.now.schema → Executes map_insert_text params old new (Ok count) → IsOfStore new.now.schema
  inserts of h = (of.0, inserts_in of.0 of.1 h)

  -- so it is once what the store notes of itself is another
  notes_in : (f : Form) → old.now.schema ≡ schema_of f → Executes about_update_text params old new (Ok count) → new.now.schema ≡ schema_of f
  notes_in bare has h = absurd (never about_update_text params old new (schema_of bare) count about_none.0 has about_none.1 h)
  notes_in noted has h =
      let w = runs_as about_update_text params old new (schema_of noted) has (Update 2 about_is.0) about_is.1 notes_plain count h in
      on_rows (task_of noted old params about_table) (mode_of old) (Update 2 about_is.0) old.now.trees w.tally new.now (subst (Made (Update 2 about_is.0) (statement_of about_update_text (understood (schema_of noted) about_update_text)) w.tally) has w.changed)

  pub notes : IsOfStore old.now.schema → Executes about_update_text params old new (Ok count) → IsOfStore new.now.schema
  notes of h = (of.0, notes_in of.0 of.1 h)
