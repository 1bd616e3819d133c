use Rattle.std.proofs.Common.{IsTrue, sym, ap, subst, ◌∙◌, arith}
use Rattle.sqlite_trees.specs.Objects.{with_version}
use Rattle.sqlite_trees.specs.View.{View, IsClean}
use Rattle.sqlite_store.specs.FileStore.{view}
use Rattle.sqlite.specs.Effect.{Database}
use Rattle.sqlite.specs.Steps.{IsFresh}
use Rattle.sqlite.specs.Tree.{Trees}
use Rattle.journalstore.proofs.ClaimLemmas.{claims_fresh}
use Rattle.journalstore.proofs.claim.go_on_with.Goals as goal

pub over-requires : goal.over-requires
over-requires g c none =
    let mid = c.in_ok-store.store in
    let clean : IsClean (view mid) = omega (arith, c.checkpoint.ensures.quiet.clean, none) in
    let early : IsClean (view c.into_store.result) = omega (arith, c.in_ok-store.ensures.clean, clean) in
    let on = c.in_default.ensures.open none in
    let same = c.checkpoint.ensures.same on in
    let claims = c.in_ok-store.ensures.claims clean (subst IsTrue (ap (λ (v : View). v.is_open) same) on) in
    subst IsFresh (sym same) (claims_fresh c.args.claim (view c.into_store.result) (view mid) claims (c.into_store.ensures.numbered early))

pub returns-in-Ok-clause-claims : goal.returns-in-Ok-clause-claims
returns-in-Ok-clause-claims g c new =
    let mid = c.in_ok-store.store in
    let none : IsClean (view c.checkpoint.new.self) = omega (arith, c.in-Ok.ensures.clean, new) in
    let clean : IsClean (view mid) = omega (arith, c.checkpoint.ensures.quiet.clean, none) in
    let early : IsClean (view c.into_store.result) = omega (arith, c.in_ok-store.ensures.clean, clean) in
    let on = c.in_default.ensures.open none in
    let same = c.checkpoint.ensures.same on in
    let claims = c.in_ok-store.ensures.claims clean (subst IsTrue (ap (λ (v : View). v.is_open) same) on) in
    let first = c.into_store.ensures.undone.kept early in
    let opens = (c.in-Ok.ensures.opens new).0 in
    record {
      was_clean = omega (arith, c.into_store.ensures.quiet.clean, early);
      was_open = first.was_open claims.was_open;
      opens = opens;
      committed = ap (λ (d : Database). d.trees) (sym opens.clean) ∙ c.in-Ok.ensures.trees new ∙ ap (λ (v : View). v.trees) same ∙ claims.shown ∙ claims.committed
          ∙ ap (λ (db : Trees). with_version db c.args.claim) (first.committed claims.was_open);
    }
