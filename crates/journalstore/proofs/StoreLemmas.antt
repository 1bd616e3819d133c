-- What an append makes of the texts that a store holds.
use Rattle.std.proofs.Common.{◌≡◌, true, false, Result, is_ok, IfOk, ◌⊎◌, inl, inr, ℕ, pos, List, [], ◌∷◌, map, Ok, Err, IsTrue, refl, sym, ap, subst, ◌∙◌, arith}
use Rattle.sqlite.specs.declared.types.Value.TheVariants.{Int, Text}
use Rattle.sqlite.specs.declared.error.Error.{Error}
use Rattle.sqlite.specs.Order.{Row}
use Rattle.sqlite.specs.Tree.{Trees}
use Rattle.sqlite.specs.Effect.{Database}
use Rattle.sqlite.specs.State.{State, HasCleanDisk, Survives, Executes, CommitsBy, IsUnchanged}
use Rattle.journalstore.specs.Tables.{IsOfStore, insert_text}
use Rattle.journalstore.specs.Texts.{Texts, bare_text, begun_with, with_change, IsAfter, StandsFor}
use Rattle.journalstore.specs.declared.reading.StoredText.{StoredText}
use Rattle.journalstore.specs.declared.reading.StoredTexts.{StoredTexts}
use Rattle.journalstore.specs.Read.{entry_read, texts_read}
use Rattle.journalstore.specs.Stores.{IsSettled, Shows, IsRunning, IsOf, LeavesOnly}
use Rattle.journalstore.proofs.AppendLemmas.{appends, keeps, commits}
use Rattle.journalstore.proofs.EntryLemmas.{stands_with, one_text}

-- an open database leaves its last commit and nothing else
abbrev pub LeavesCommit : State → Type 0
LeavesCommit s = (db : Trees) → IsTrue s.is_open → s.may_leave db → db ≡ s.committed.trees

-- whatever a crash leaves of an open database that has committed texts stands for them
pub leaves_held : (s : State) (t : Texts) → LeavesCommit s → IsRunning s → IsOf s t → LeavesOnly s (λ db. StandsFor db t)
leaves_held s t law running of clean db may =
    let shows = of clean (running clean) in
    let same : db ≡ s.now.trees = law db (running clean) may ∙ ap (λ (d : Database). d.trees) shows.settled.committed in
    subst (λ d. StandsFor d t) (sym same) shows.stands

-- where a call commits nothing but a database that stands for texts, a crash leaves those or the ones from before
pub crash_with : (old new : State) (t more : Texts) → LeavesOnly old (λ db. StandsFor db t) → Survives old new (λ db. StandsFor db more) → LeavesOnly new (λ db. StandsFor db t ⊎ StandsFor db more)
crash_with old new t more leaves survives clean db may = elim (survives.crash clean db may) [
  | inl earlier ↦ inl (leaves (omega (arith, survives.clean, clean)) db earlier)
  | inr made ↦ inr made
]

-- what was read of a database that stands for texts is those
pub found_texts : (old new : State) (db : Trees) (t read : Texts) → IsSettled old → IsUnchanged old new → old.committed.trees ≡ db → StandsFor db t → StandsFor new.now.trees read → read ≡ t
found_texts old new db t read settled same is stands reads =
    let now : new.now.trees ≡ db = ap (λ (d : Database). d.trees) (same.0.now_is ∙ sym settled.committed) ∙ is in
    one_text db t read stands (subst (λ d. StandsFor d read) now reads)

-- what holds beside a value holds where there is one
pub beside_ok : {X E : Type 0} (r : Result X E) (A : X → Type 0) (P : Type 0) → is_ok r ≡ true → IfOk r (λ x. A x × P) → P
beside_ok (Ok x) A P is both = both.1
beside_ok (Err e) A P is both = absurd (let wrong : false ≡ true = is in cc)

-- where a store kept texts, and a call that changes nothing finds it open, it holds them
still_texts : (old new : State) (t : Texts) → LeavesCommit new → (HasCleanDisk new → HasCleanDisk old) → (HasCleanDisk new → IsUnchanged old new) → IsOf old t
    → IsRunning new × IsOf new t × LeavesOnly new (λ db. StandsFor db t)
still_texts old new t law early same of =
    let running : IsRunning new = λ clean. (same clean).0.is_open in
    let holds : IsOf new t = λ clean now.
    let u = (same clean).0 in
    let shows = of (early clean) u.was_open in
    record {
      settled = record { autocommit = u.mode ∙ shows.settled.autocommit; schema = subst (λ (d : Database). IsOfStore d.schema) (sym u.now_is) shows.settled.schema; committed = u.committed_is ∙ shows.settled.committed ∙ sym u.now_is };
      stands = subst (λ (d : Database). StandsFor d.trees t) (sym u.now_is) shows.stands;
    } in
    (running, holds, leaves_held new t law running holds)

-- so it is where the call may commit nothing
pub running_texts : (old new : State) (t : Texts) → LeavesCommit new → Survives old new (λ _. ⊥) → (HasCleanDisk new → IsUnchanged old new) → IsOf old t
    → IsRunning new × IsOf new t × LeavesOnly new (λ db. StandsFor db t)
running_texts old new t law survives same of = still_texts old new t law (λ clean. omega (arith, survives.clean, clean)) same of

-- where a store held texts, and a question was answered and changed nothing, it holds them
pub held_still : (old new : State) (t : Texts) → LeavesCommit new → (HasCleanDisk new → HasCleanDisk old) → (HasCleanDisk new → IsOfStore old.now.schema → IsUnchanged old new)
    → IsRunning old × IsOf old t × LeavesOnly old (λ db. StandsFor db t) → IsRunning new × IsOf new t × LeavesOnly new (λ db. StandsFor db t)
held_still old new t law early same holds =
    still_texts old new t law early (λ clean. same clean (holds.1 (early clean) (holds.0 (early clean))).settled.schema) holds.1

-- a call that commits nothing leaves a crash what it left
pub leaves_still : (old new : State) (Kind : Trees → Type 0) → Survives old new (λ _. ⊥) → LeavesOnly old Kind → LeavesOnly new Kind
leaves_still old new Kind survives leaves clean db may = elim (survives.crash clean db may) [
  | inl earlier ↦ leaves (omega (arith, survives.clean, clean)) db earlier
  | inr none ↦ absurd none
]

-- what was read is what a store begins with
pub begun_read : (t : StoredTexts) (epoch : ℕ) (text : List ℕ) → entry_read t.first ≡ (epoch, text) → t.changes.items ≡ [] → texts_read t ≡ begun_with epoch text
begun_read t epoch text first none = λ i. record { first = first i; changes = map entry_read (none i) }

-- texts whose first maps and changes are read as the same are the same
pub same_read : (t u : StoredTexts) → entry_read t.first ≡ entry_read u.first → map entry_read t.changes.items ≡ map entry_read u.changes.items → texts_read t ≡ texts_read u
same_read t u first changes = λ i. record { first = first i; changes = changes i }

-- texts that are read as no entries are none
none_read : (ts : List StoredText) → map entry_read ts ≡ [] → ts ≡ []
none_read [] e = refl
none_read (t ∷ ts) e = absurd cc

-- what is read as that has this first map, and no change
pub read_begun : (t : StoredTexts) (epoch : ℕ) (text : List ℕ) → texts_read t ≡ begun_with epoch text → (entry_read t.first ≡ (epoch, text)) × (t.changes.items ≡ [])
read_begun t epoch text e = (ap (λ (s : Texts). s.first) e, none_read t.changes.items (ap (λ (s : Texts). s.changes) e))

-- the parameters of an append
abbrev pub params_of : ℕ → List ℕ → Row
params_of n change = Int (pos n) ∷ Text change ∷ []

module _ (old new : State) (n : ℕ) (change : List ℕ) (survives : Survives old new (CommitsBy insert_text (params_of n change) old)) (t : Texts) (running : IsRunning old) (of : IsOf old t) where
  -- the store held the texts before the append, as long as the disk has returned what was written
  was : HasCleanDisk new → Shows old t
  was clean = let early : HasCleanDisk old = omega (arith, survives.clean, clean) in of early (running early)

  -- an append of a later epoch that succeeds leaves the store open, with the texts and that change
  pub appends_texts : IsAfter t n → (count : ℕ) → (HasCleanDisk new → Executes insert_text (params_of n change) old new (Ok count)) → IsRunning new × IsOf new (with_change t (n, bare_text change))
  appends_texts after count ran =
      let it = λ (clean : HasCleanDisk new). appends old new (pos n) change count (was clean).settled (ran clean) in
      (λ clean. (it clean).0.is_open, λ clean now. record { settled = (it clean).1; stands = stands_with old.now.trees new.now.trees t n change (was clean).stands after (it clean).0.appends })

  -- one that fails leaves the texts as they were, unless it has shut the store
  pub keeps_texts : (e : Error) → (HasCleanDisk new → Executes insert_text (params_of n change) old new (Err e)) → IsOf new t
  keeps_texts e ran clean now =
      let kept = keeps insert_text (params_of n change) old new e (was clean).settled now (ran clean) in
      record { settled = kept.1; stands = subst (λ (d : Database). StandsFor d.trees t) (sym kept.0.shown) (was clean).stands }

  -- a crash during an append leaves the texts from before it or those with the change, and no others
  pub crash_texts : IsAfter t n → LeavesOnly old (λ db. StandsFor db t) → LeavesOnly new (λ db. StandsFor db t ⊎ StandsFor db (with_change t (n, bare_text change)))
  crash_texts after leaves clean db may = elim (survives.crash clean db may) [
    | inl earlier ↦ inl (leaves (omega (arith, survives.clean, clean)) db earlier)
    | inr commit ↦ inr (stands_with old.now.trees db t n change (was clean).stands after (commits old (pos n) change (was clean).settled db commit))
  ]
