-- What a store shows and holds once its database makes another claim.
use Rattle.std.proofs.Common.{◌≡◌, ◌<◌, ℕ, IsTrue, sym, ap, subst, ◌∙◌, arith, inl, inr, eq-eqb, ne_eqb}
use Rattle.std.proofs.lemmas.Bool.{cases_eq}
use mathlib.Core.Path.{fun_ext}
use Rattle.sqlite_disk.specs.declared.Disk.{Ghosts}
use Rattle.sqlite_wal.proofs.LogLemmas.{SeenMayStay}
use Rattle.sqlite_schema.specs.declared.schema.Schema.{Schema}
use Rattle.sqlite_schema.specs.declared.schema.Table.{Table}
use Rattle.sqlite_rules.specs.Lists.{Has}
use Rattle.sqlite_rules.proofs.ListLemmas.{all_has, all_from}
use Rattle.sqlite_rules.proofs.RuleLemmas.{keeps_same}
use Rattle.sqlite_catalog.specs.Listing.{IsTableRow, IsIndexRow, IsSound}
use Rattle.sqlite_catalog.proofs.LayoutLemmas.{zipped_left, index_owner}
use Rattle.sqlite_store.specs.declared.store.FileStore.{FileStore}
use Rattle.sqlite_store.specs.FileStore.{view, recovers}
use Rattle.sqlite_store.specs.Laws.{settled_at, stays_at}
use Rattle.sqlite.specs.Effect.{Database}
use Rattle.sqlite.specs.Held.{AreDatabases}
use Rattle.sqlite.specs.State.{State, HasCleanDisk, Opens}
use Rattle.sqlite.specs.Steps.{IsFresh}
use Rattle.sqlite.specs.Tree.{Trees}
use Rattle.sqlite_trees.specs.Objects.{version_tree, version_rows, with_version}
use Rattle.sqlite_trees.specs.View.{View, IsClean, SetsTree, Commits, IsRolledBack}
use Rattle.journalstore.specs.Claims.{Claims}
use Rattle.journalstore.specs.Stores.{IsRunning, IsOf, LeavesOnly}
use Rattle.journalstore.specs.Tables.{IsOfStore}
use Rattle.journalstore.specs.Texts.{Texts, StandsFor}
use Rattle.journalstore.proofs.StoreLemmas.{LeavesCommit, leaves_held}

-- a database that makes a claim is the one with that claim
same_claim : (db : Trees) (claim : ℕ) → db version_tree ≡ version_rows claim → db ≡ with_version db claim
same_claim db claim is = fun_ext (λ t. elim (cases_eq t version_tree) [
  | inl same ↦ rw (eq-eqb t version_tree same, same) is
  | inr other ↦ rw (ne_eqb t version_tree other)
])

module _ (old mid : View) (claim : ℕ) (rolled : IsRolledBack old mid) (clean : IsClean mid) (is_open : IsTrue mid.is_open) where
  was_open : IsTrue old.is_open
  was_open = (rolled.kept clean).was_open is_open

  -- a store that was rolled back, and makes this claim
  pub claims_still : mid.trees version_tree ≡ version_rows claim → Claims claim old mid
  claims_still is =
      let committed = (rolled.kept clean).committed is_open in
      let shown = (rolled.undone is_open).0 in
      record {
        was_open = was_open;
        is_open = is_open;
        numbered = rolled.numbered;
        committed = committed ∙ same_claim old.committed claim (ap (λ (db : Trees). db version_tree) (sym shown) ∙ is);
        shown = shown ∙ sym committed;
        sound = (rolled.undone is_open).1;
        unmarked = (rolled.kept clean).marks is_open;
      }

  -- one that then commits another claim
  pub claims_now : (said new : View) → SetsTree mid said version_tree (λ rows. version_rows claim) → Commits said new → Claims claim old new
  claims_now said new sets commits =
      let shown : said.trees ≡ with_version mid.trees claim = ap (λ (v : View). v.trees) sets.is in
      let trees : new.trees ≡ said.trees = ap (λ (v : View). v.trees) commits.is in
      let committed : new.committed ≡ said.trees = ap (λ (v : View). v.committed) commits.is in
      record {
        was_open = was_open;
        is_open = subst IsTrue (sym (ap (λ (v : View). v.is_open) commits.is ∙ ap (λ (v : View). v.is_open) sets.is)) is_open;
        numbered = ap (λ (v : View). v.is_numbered) commits.is ∙ ap (λ (v : View). v.is_numbered) sets.is ∙ rolled.numbered;
        committed = committed ∙ shown ∙ ap (λ (db : Trees). with_version db claim) (rolled.undone is_open).0;
        shown = trees ∙ sym committed;
        sound = ap (λ (v : View). v.is_broken) commits.is ∙ commits.sound;
        unmarked = ap (λ (v : View). v.marks) commits.is;
      }

-- a store with a claim is as one that was just opened
pub claims_fresh : (claim : ℕ) (old new : View) → Claims claim old new → IsTrue old.is_numbered → IsFresh new
claims_fresh claim old new claims numbered = record { sound = claims.sound; numbered = claims.numbered ∙ numbered; clean = claims.shown; unmarked = claims.unmarked }

-- a database that obeys its schema obeys it with another claim
module _ (schema : Schema) (db : Trees) (claim : ℕ) (sound : IsSound schema db) where
  same_low : (tree : ℕ) → tree < 65536 → with_version db claim tree ≡ db tree
  same_low tree low = rw (ne_eqb tree version_tree (λ e. omega (arith, low)))

  same_table : (t : Table) → Has schema.tables t → with_version db claim t.tree ≡ db t.tree
  same_table t h = same_low t.tree (zipped_left IsTableRow _ schema.tables t sound.lists.listed.tables h).2.described.low

  pub claim_sound : IsSound schema (with_version db claim)
  claim_sound = record {
    lists = sound.lists;
    obeys = record {
      rules = λ rule. keeps_same schema db (with_version db claim) same_table rule (sound.obeys.rules rule);
      indexed = all_from _ schema.indexes (λ i h.
          let r = zipped_left (IsIndexRow schema.tables) _ schema.indexes i sound.lists.listed.indexes h in
          let owner = index_owner r.2.table i _ r.2.defined in
          let own = same_low i.tree r.2.described.low in
          let table : with_version db claim i.table ≡ db i.table = subst (λ t. with_version db claim t ≡ db t) (sym owner) (same_table r.2.table r.2.listed) in
          rw (own, table) (all_has _ schema.indexes i sound.obeys.indexed h));
    };
  }

-- what a crash leaves of a store with a claim is a database, if what it left before is one
pub claims_sound : {D : Type 0} {g : Ghosts D} (claim : ℕ) (old new : FileStore D g) → SeenMayStay g → Claims claim (view old) (view new) → AreDatabases (recovers old) → AreDatabases (recovers new)
claims_sound claim old new stays claims sound db found =
    let schema = sound (view old).committed (stays_at old stays claims.was_open) in
    let is = settled_at new stays db claims.is_open found ∙ claims.committed in
    (schema.0, subst (IsSound schema.0) (sym is) (claim_sound schema.0 (view old).committed claim schema.1))

-- what stands for texts does with another claim
claim_stands : (db : Trees) (t : Texts) (claim : ℕ) → StandsFor db t → StandsFor (with_version db claim) t
claim_stands db t claim stands = record { first = stands.first; changes = stands.changes }

-- a store that held texts holds them with another claim
pub claim_held : (old new : State) (t : Texts) (claim : ℕ) → LeavesCommit new → IsOfStore new.now.schema
    → (HasCleanDisk new → HasCleanDisk old × IsTrue old.is_open × Opens new × (new.committed.trees ≡ with_version old.committed.trees claim))
    → IsOf old t → IsRunning new × IsOf new t × LeavesOnly new (λ db. StandsFor db t)
claim_held old new t claim law schema claims of =
    let running : IsRunning new = λ clean. (claims clean).2.is_open in
    let holds : IsOf new t = λ clean now.
    let it = claims clean in
    let opens = it.2 in
    let shows = of it.0 it.1 in
    let trees : new.now.trees ≡ with_version old.now.trees claim = ap (λ (d : Database). d.trees) opens.clean ∙ it.3 ∙ ap (λ (d : Database). with_version d.trees claim) shows.settled.committed in
    record {
      settled = record { autocommit = opens.autocommit; schema = schema; committed = sym opens.clean };
      stands = subst (λ db. StandsFor db t) (sym trees) (claim_stands old.now.trees t claim shows.stands);
    } in
    (running, holds, leaves_held new t law running holds)
