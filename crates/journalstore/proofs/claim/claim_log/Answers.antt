use Rattle.std.proofs.Common.{◌≡◌, true, sym, ap, subst, ◌∙◌, rules}
use Rattle.sqlite.specs.Files.{file_state, over_files}
use Rattle.sqlite.specs.State.{HasCleanDisk}
use Rattle.sqlite.specs.Tree.{Trees}
use Rattle.sqlite_trees.specs.Objects.{version_tree, version_rows}
use Rattle.sqlite_store.specs.Laws.{settled_at}
use Rattle.journalstore.specs.Claims.{claim_of}
use Rattle.journalstore.specs.Stores.{HoldsIn}
use Rattle.journalstore.specs.Tables.{IsOfStore}
use Rattle.journalstore.proofs.ClaimLemmas.{claim_held}
use Rattle.journalstore.proofs.claim.claim_log.Goals as goal

pub returns-clause-holds : goal.returns-clause-holds
returns-clause-holds g c t holds =
    let old = c.into_inner.result in
    let new = c.in_ok-conn.conn in
    let shaped : c.is_store.result ≡ true = search rules in
    let held : HoldsIn over_files old t = subst (λ h. HoldsIn over_files h t) (sym c.into_inner.ensures) holds in
    subst (λ h. HoldsIn over_files h t) (sym c.new-conn.ensures) (claim_held (file_state old) (file_state new) t c.claim_of.result (λ db. settled_at new.store g.met.D.Disk.seen_may_stay db)
    (subst IsOfStore c.schema.ensures.value (c.is_store.ensures shaped))
    (λ clean. let it = c.in_ok-conn.ensures.claims clean in (it.was_clean, it.was_open, it.opens, it.committed)) held.1)

pub returns-clause-claims : goal.returns-clause-claims
returns-clause-claims g c clean =
    let last : HasCleanDisk (file_state c.in_ok-conn.conn) = subst (λ h. HasCleanDisk (file_state h)) c.new-conn.ensures clean in
    subst (λ h. (file_state h).committed.trees version_tree ≡ version_rows (claim_of c.args.epoch)) (sym c.new-conn.ensures)
    (ap (λ (db : Trees). db version_tree) (c.in_ok-conn.ensures.claims last).committed ∙ ap version_rows c.claim_of.ensures)

pub returns-clause-clean : goal.returns-clause-clean
returns-clause-clean g c clean =
    let last : HasCleanDisk (file_state c.in_ok-conn.conn) = subst (λ h. HasCleanDisk (file_state h)) c.new-conn.ensures clean in
    subst (λ h. HasCleanDisk (file_state h)) c.into_inner.ensures (c.in_ok-conn.ensures.claims last).was_clean
