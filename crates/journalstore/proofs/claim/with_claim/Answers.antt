use Rattle.std.proofs.Common.{IsTrue, ap, subst, ◌∙◌, arith}
use Rattle.sqlite_trees.specs.View.{View, IsClean}
use Rattle.sqlite_trees.specs.Objects.{version_rows}
use Rattle.sqlite_store.specs.FileStore.{view}
use Rattle.journalstore.proofs.ClaimLemmas.{claims_still, claims_now}
use Rattle.journalstore.proofs.claim.with_claim.Goals as goal

pub returns-then-version-claim-clause-claims : goal.returns-then-version-claim-clause-claims
returns-then-version-claim-clause-claims g c clean is_open =
    claims_still (view c.args.store) (view c.rollback.new.self) c.args.claim c.rollback.ensures.undone clean is_open (c.version.ensures clean is_open ∙ ap version_rows c.if-version-claim.true)

pub returns-then-version-claim-clause-logged : goal.returns-then-version-claim-clause-logged
returns-then-version-claim-clause-logged g c clean is_open = c.rollback.ensures.logged ((c.rollback.ensures.undone.kept clean).was_open is_open)

pub returns-in-Ok-clause-claims : goal.returns-in-Ok-clause-claims
returns-in-Ok-clause-claims g c clean is_open =
    let set : IsClean (view c.set_version.new.self) = omega (arith, c.commit.ensures.clean, clean) in
    let mid : IsClean (view c.rollback.new.self) = omega (arith, c.set_version.ensures.quiet.clean, set) in
    let sets = c.in_default.ensures.ok set in
    let commits = c.in-Ok.ensures.ok clean in
    let was_open : IsTrue (view c.rollback.new.self).is_open = subst IsTrue (ap (λ (v : View). v.is_open) commits.is ∙ ap (λ (v : View). v.is_open) sets.is) is_open in
    claims_now (view c.args.store) (view c.rollback.new.self) c.args.claim c.rollback.ensures.undone mid was_open (view c.set_version.new.self) (view c.commit.new.self) sets commits

pub returns-in-Ok-clause-logged : goal.returns-in-Ok-clause-logged
returns-in-Ok-clause-logged g c clean is_open = c.in-Ok.ensures.logged
