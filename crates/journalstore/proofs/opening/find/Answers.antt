use Rattle.std.proofs.Common.{◌≡◌, true, sym, subst, rules}
use Rattle.journalstore.specs.Tables.{IsOfStore}
use Rattle.journalstore.proofs.opening.find.Goals as goal

pub returns-then-is_store-clause-ready : goal.returns-then-is_store-clause-ready
returns-then-is_store-clause-ready g c clean =
    let opened = (c.in_ok-conn.ensures.opened clean).0 in
    let shaped : c.is_store.result ≡ true = search rules in
    (opened.is_open, record { autocommit = opened.autocommit; schema = subst IsOfStore c.schema.ensures.value (c.is_store.ensures shaped); committed = sym opened.clean })
