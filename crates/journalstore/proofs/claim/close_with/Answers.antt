use Rattle.std.proofs.Common.{◌≡◌, IsTrue, ap, subst, ◌∙◌, arith}
use Rattle.sqlite_pool.proofs.StateLemmas.{clean_is, may_leave_is}
use Rattle.sqlite_trees.proofs.Doubt.{no_doubt}
use Rattle.sqlite_trees.specs.Objects.{with_version}
use Rattle.sqlite_trees.specs.View.{View, IsClean}
use Rattle.sqlite_store.specs.FileStore.{view}
use Rattle.sqlite.proofs.Theorems.{copied}
use Rattle.sqlite.specs.Closing.{HoldsAlone}
use Rattle.sqlite.specs.Recovery.{Image}
use Rattle.sqlite.specs.Tree.{Trees}
use Rattle.sqlite.specs.WalFiles.{outcomes}
use Rattle.sqlite.specs.WalReads.{AreClean}
use Rattle.journalstore.proofs.ClaimLemmas.{claims_sound}
use Rattle.journalstore.proofs.claim.close_with.Goals as goal

pub returns-in-Ok-clause-closed : goal.returns-in-Ok-clause-closed
returns-in-Ok-clause-closed g c honest =
    let back = c.into_store.result in
    let mid = c.in_ok-store.store in
    let last = c.checkpoint.new.self in
    let stays = g.met.D.Disk.seen_may_stay in
    let sure_now = subst (λ p. AreClean g.D.Disk p.0 p.1) c.close.ensures honest in
    let none : IsClean (view last) = no_doubt _ (clean_is last.pool ∙ sure_now) in
    let clean : IsClean (view mid) = omega (arith, c.checkpoint.ensures.quiet.clean, none) in
    let early : IsClean (view back) = omega (arith, c.in_ok-store.ensures.clean, clean) in
    let on = c.in-Ok.ensures.open none in
    let same = c.checkpoint.ensures.same on in
    let mid_open = subst IsTrue (ap (λ (v : View). v.is_open) same) on in
    let claims = c.in_ok-store.ensures.claims clean mid_open in
    let first = c.into_store.ensures.undone.kept early in
    let numbered : IsTrue (view last).is_numbered = ap (λ (v : View). v.is_numbered) same ∙ claims.numbered ∙ c.into_store.ensures.numbered early in
    let committed : (view last).committed ≡ with_version (view c.args.conn.store).committed c.args.claim =
    ap (λ (v : View). v.committed) same ∙ claims.committed ∙ ap (λ (db : Trees). with_version db c.args.claim) (first.committed claims.was_open) in
    let mid_sound = claims_sound c.args.claim back mid stays claims (c.into_store.ensures.sound early) in
    let each = λ (image : Image) (may : outcomes g.D.Disk c.close.result.log c.close.result.db image).
    subst (HoldsAlone image) committed (copied last stays on numbered
    (λ db found. mid_sound db (c.checkpoint.ensures.quiet.outcomes db found))
    (c.in-Ok.ensures.moved (c.in_ok-store.ensures.logged clean mid_open)) image
    (may_leave_is last.pool image sure_now (subst (λ p. outcomes g.D.Disk p.0 p.1 image) c.close.ensures may))) in
    record {
      was_clean = omega (arith, c.into_store.ensures.quiet.clean, early);
      still = record { seen = each _ (stays _, stays _); left = each };
    }
