use Rattle.std.proofs.Common.{◌≡◌, inl, true, refl, sym, subst, rules, arith, ap}
use Rattle.sqlite.specs.Tree.{Trees}
use Rattle.sqlite.specs.State.{HasCleanDisk, KeepsCommit, Survives}
use Rattle.sqlite.specs.Held.{state}
use Rattle.sqlite.proofs.StateLemmas.{survives_then}
use Rattle.sqlite.proofs.Callers.{survives_begin}
use Rattle.journalstore.specs.Texts.{Texts, StandsFor}
use Rattle.journalstore.specs.Read.{texts_read}
use Rattle.journalstore.specs.Stores.{IsInWriting, IsWritten, IsRunning, IsOf, HoldsIn, KeepsIn}
use Rattle.journalstore.proofs.KeepLemmas.{committed_texts, failed_texts, rolled_texts}
use Rattle.journalstore.proofs.StoreLemmas.{leaves_held, crash_with}
use Rattle.journalstore.proofs.checkpoint.checkpoint.Goals as goal

pub returns-then-texts-gt-LAST_EPOCH-clause-crash :
    goal.returns-then-texts-gt-LAST_EPOCH-clause-crash
returns-then-texts-gt-LAST_EPOCH-clause-crash g c t holds clean db may = inl (holds.2 clean db may)

pub returns-in_err-write-clause-crash : goal.returns-in_err-write-clause-crash
returns-in_err-write-clause-crash g c t holds =
    let old = c.args.conn.now in
    let last = c.write.new.tx.conn.now in
    let P = λ (db : Trees). StandsFor db (texts_read c.args.texts.now) in
    let inside : Survives (state g.S.Store (record old { in_transaction = true })) (state g.S.Store last) (λ _. ⊥) = rw c.transaction-tx.ensures.begun at c.write.ensures.survives in
    let whole = survives_then (state g.S.Store old) (state g.S.Store last) (state g.S.Store c.drop-tx.new.self.0) _ _ P (λ _ db none. absurd none) (λ _ db none. absurd none)
    (survives_begin g.S.Store old (state g.S.Store last) _ inside) c.drop-tx.ensures.survives in
    let same : c.drop-tx.new.self.0 ≡ c.conn-1.given.0 = search rules in
    crash_with (state g.S.Store old) (state g.S.Store c.conn-1.given.0) t (texts_read c.args.texts.now) holds.2 (subst (λ h. Survives (state g.S.Store old) (state g.S.Store h) P) same whole)

pub returns-in_err-commit-clause-crash : goal.returns-in_err-commit-clause-crash
returns-in_err-commit-clause-crash g c t holds =
    let old = c.args.conn.now in
    let last = c.write.new.tx.conn.now in
    let more = texts_read c.args.texts.now in
    let P = λ (db : Trees). StandsFor db more in
    let writing : IsInWriting (state g.S.Store c.transaction-tx.result.conn.now) = subst (λ h. IsInWriting (state g.S.Store h)) (sym c.transaction-tx.ensures.begun) (λ clean. (refl, (holds.1 clean (holds.0 clean)).settled.schema)) in
    let inside : Survives (state g.S.Store (record old { in_transaction = true })) (state g.S.Store last) (λ _. ⊥) = rw c.transaction-tx.ensures.begun at c.write.ensures.survives in
    let whole = survives_then (state g.S.Store old) (state g.S.Store last) (state g.S.Store c.commit.new.self.0) _ _ P (λ _ db none. absurd none)
    (λ clean db is. subst P (sym is) (c.in_ok-write.ensures.written writing (omega (arith, c.commit.ensures.survives.clean, clean))).stands) (survives_begin g.S.Store old (state g.S.Store last) _ inside) c.commit.ensures.survives in
    let same : c.commit.new.self.0 ≡ c.conn-2-1.given.0 = search rules in
    crash_with (state g.S.Store old) (state g.S.Store c.conn-2-1.given.0) t more holds.2 (subst (λ h. Survives (state g.S.Store old) (state g.S.Store h) P) same whole)

pub returns-clause-crash : goal.returns-clause-crash
returns-clause-crash g c t holds =
    let old = c.args.conn.now in
    let last = c.write.new.tx.conn.now in
    let more = texts_read c.args.texts.now in
    let P = λ (db : Trees). StandsFor db more in
    let writing : IsInWriting (state g.S.Store c.transaction-tx.result.conn.now) = subst (λ h. IsInWriting (state g.S.Store h)) (sym c.transaction-tx.ensures.begun) (λ clean. (refl, (holds.1 clean (holds.0 clean)).settled.schema)) in
    let inside : Survives (state g.S.Store (record old { in_transaction = true })) (state g.S.Store last) (λ _. ⊥) = rw c.transaction-tx.ensures.begun at c.write.ensures.survives in
    let whole = survives_then (state g.S.Store old) (state g.S.Store last) (state g.S.Store c.commit.new.self.0) _ _ P (λ _ db none. absurd none)
    (λ clean db is. subst P (sym is) (c.in_ok-write.ensures.written writing (omega (arith, c.commit.ensures.survives.clean, clean))).stands) (survives_begin g.S.Store old (state g.S.Store last) _ inside) c.commit.ensures.survives in
    let same : c.commit.new.self.0 ≡ c.conn-2-1.given.0 = search rules in
    crash_with (state g.S.Store old) (state g.S.Store c.conn-2-1.given.0) t more holds.2 (subst (λ h. Survives (state g.S.Store old) (state g.S.Store h) P) same whole)

pub returns-in_err-commit-clause-kept : goal.returns-in_err-commit-clause-kept
returns-in_err-commit-clause-kept g c =
    let old = c.args.conn.now in
    let last = c.write.new.tx.conn.now in
    let end = c.commit.new.self.0 in
    let begun = c.transaction-tx.ensures.begun in
    let at : (t : Texts) → HoldsIn g.S.Store old t → KeepsIn g.S.Store end t = λ t holds clean now.
    let late : HasCleanDisk (state g.S.Store last) = omega (arith, c.commit.ensures.survives.clean, clean) in
    let middle : HasCleanDisk (state g.S.Store c.transaction-tx.result.conn.now) = omega (arith, c.write.ensures.survives.clean, late) in
    let early : HasCleanDisk (state g.S.Store old) = subst (λ h. HasCleanDisk (state g.S.Store h)) begun middle in
    let shows = holds.1 early (holds.0 early) in
    let writing : IsInWriting (state g.S.Store c.transaction-tx.result.conn.now) = subst (λ h. IsInWriting (state g.S.Store h)) (sym begun) (λ _. (refl, shows.settled.schema)) in
    failed_texts (state g.S.Store old) (state g.S.Store c.transaction-tx.result.conn.now) (state g.S.Store last) (state g.S.Store end) t c.in_err-commit.field-0.0 shows.settled shows.stands
    (ap (λ h. (state g.S.Store h).is_open) begun) (ap (λ h. (state g.S.Store h).committed) begun) (c.in_ok-write.ensures.keeps writing late) (c.in_ok-write.ensures.written writing late).in_transaction
    (c.in_err-commit.ensures.err clean) now in
    let same : end ≡ c.conn-2-1.given.0 = search rules in
    let kept : (t : Texts) → HoldsIn g.S.Store old t → KeepsIn g.S.Store c.conn-2-1.given.0 t = subst (λ h. (t : Texts) → HoldsIn g.S.Store old t → KeepsIn g.S.Store h t) same at in
    search (rules, kept)

pub returns-in_err-write-clause-kept : goal.returns-in_err-write-clause-kept
returns-in_err-write-clause-kept g c =
    let old = c.args.conn.now in
    let last = c.write.new.tx.conn.now in
    let end = c.drop-tx.new.self.0 in
    let begun = c.transaction-tx.ensures.begun in
    let at : (t : Texts) → HoldsIn g.S.Store old t → KeepsIn g.S.Store end t = λ t holds clean now.
    let late : HasCleanDisk (state g.S.Store last) = omega (arith, c.drop-tx.ensures.survives.clean, clean) in
    let middle : HasCleanDisk (state g.S.Store c.transaction-tx.result.conn.now) = omega (arith, c.write.ensures.survives.clean, late) in
    let early : HasCleanDisk (state g.S.Store old) = subst (λ h. HasCleanDisk (state g.S.Store h)) begun middle in
    let shows = holds.1 early (holds.0 early) in
    let writing : IsInWriting (state g.S.Store c.transaction-tx.result.conn.now) = subst (λ h. IsInWriting (state g.S.Store h)) (sym begun) (λ _. (refl, shows.settled.schema)) in
    let kept : KeepsCommit (state g.S.Store (record old { in_transaction = true })) (state g.S.Store last) =
    subst (λ h. KeepsCommit (state g.S.Store h) (state g.S.Store last)) begun (c.write.ensures.keeps writing late) in
    rolled_texts (state g.S.Store old) (state g.S.Store last) (state g.S.Store end) t shows.settled shows.stands (record { was_open = kept.was_open; committed = kept.committed }) (c.drop-tx.ensures.undone clean) now in
    let same : end ≡ c.conn-1.given.0 = search rules in
    let kept : (t : Texts) → HoldsIn g.S.Store old t → KeepsIn g.S.Store c.conn-1.given.0 t = subst (λ h. (t : Texts) → HoldsIn g.S.Store old t → KeepsIn g.S.Store h t) same at in
    search (rules, kept)

pub returns-clause-cut : goal.returns-clause-cut
returns-clause-cut g c t holds =
    let old = c.args.conn.now in
    let last = c.write.new.tx.conn.now in
    let end = c.commit.new.self.0 in
    let new = state g.S.Store c.conn-2-1.given.0 in
    let more = texts_read c.args.texts.now in
    let begun = c.transaction-tx.ensures.begun in
    let writing : IsInWriting (state g.S.Store c.transaction-tx.result.conn.now) = subst (λ h. IsInWriting (state g.S.Store h)) (sym begun) (λ clean. (refl, (holds.1 clean (holds.0 clean)).settled.schema)) in
    let written : HasCleanDisk (state g.S.Store end) → IsWritten (state g.S.Store last) more = λ clean. c.in_ok-write.ensures.written writing (omega (arith, c.commit.ensures.survives.clean, clean)) in
    let did = c.in_ok-commit.ensures.ok in
    let running : IsRunning (state g.S.Store end) = λ clean. (did clean).1.is_open in
    let shows : IsOf (state g.S.Store end) more = λ clean now. committed_texts (state g.S.Store last) (state g.S.Store end) more (written clean) (did clean).1 in
    let same : end ≡ c.conn-2-1.given.0 = search rules in
    let both : IsRunning new × IsOf new more = subst (λ h. IsRunning (state g.S.Store h) × IsOf (state g.S.Store h) more) same (running, shows) in
    (both.0, both.1, leaves_held new more (g.met.S.Store.settled c.conn-2-1.given.0.store) both.0 both.1)
