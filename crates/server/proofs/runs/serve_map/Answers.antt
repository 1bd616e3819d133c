use Rattle.std.proofs.Common.{◌≡◌, ◌∙◌, ◌++◌, List, ap, sym, map, rules}
use Rattle.std.specs.List.{list_any}
use Rattle.maptypes.specs.Incrementals.{Step}
use Rattle.server.specs.declared.left.Left.{Left}
use Rattle.server.specs.Serving.{facts_left, journal_of, KeepsAll}
use Rattle.server.proofs.Played.{run_left, texts_left, told_left, served_part}
use Rattle.server.proofs.runs.serve_map.Goals as goal

pub returns-clause-served : goal.returns-clause-served
returns-clause-served g c =
    let m = c.args.first.map.map in
    let same : c.deref.result.now ≡ c.in_ok-lefts.lefts.items = search rules in
    let put = run_left g.K.Keeps.may_leave c.in-Ok.made.0 c.in-Ok.made.1.items m c.args.terms.journal c.args.terms.profile c.args.parts.now
    c.in_ok-lefts.lefts.items c.deref.result.now c.in-Ok.ensures.1 c.in_ok-lefts.ensures same in
    let again : c.deref-2.result.now ≡ c.in_ok-lefts.lefts.items = search rules in (
      map facts_left c.deref.result.now,
      put,
      sym (told_left c.deref.result.now) ∙ ap (list_any (λ (left : Left). left.has_told)) (same ∙ sym again) ∙ sym c.have_told.ensures ∙ c.if-have_told.false,
      c.in_ok-put.ensures.whole ∙ ap (λ text. g.W.Sink.written c.args.out.now ++ text) (texts_left c.deref.result.now),
    )

pub returns-then-have_told-clause-served : goal.returns-then-have_told-clause-served
returns-then-have_told-clause-served g c =
    let m = c.args.first.map.map in
    let same : c.deref.result.now ≡ c.in_ok-lefts.lefts.items = search rules in
    let put = run_left g.K.Keeps.may_leave c.in-Ok.made.0 c.in-Ok.made.1.items m c.args.terms.journal c.args.terms.profile c.args.parts.now
    c.in_ok-lefts.lefts.items c.deref.result.now c.in-Ok.ensures.1 c.in_ok-lefts.ensures same in
    let again : c.deref-2.result.now ≡ c.in_ok-lefts.lefts.items = search rules in (
      map facts_left c.deref.result.now,
      put,
      sym (told_left c.deref.result.now) ∙ ap (list_any (λ (left : Left). left.has_told)) (same ∙ sym again) ∙ sym c.have_told.ensures ∙ c.if-have_told.true,
      c.in_ok-put.ensures.whole ∙ ap (λ text. g.W.Sink.written c.args.out.now ++ text) (texts_left c.deref.result.now),
    )

pub returns-in_err-put-clause-served : goal.returns-in_err-put-clause-served
returns-in_err-put-clause-served g c =
    let m = c.args.first.map.map in
    let same : c.deref.result.now ≡ c.in_ok-lefts.lefts.items = search rules in
    let put = run_left g.K.Keeps.may_leave c.in-Ok.made.0 c.in-Ok.made.1.items m c.args.terms.journal c.args.terms.profile c.args.parts.now
    c.in_ok-lefts.lefts.items c.deref.result.now c.in-Ok.ensures.1 c.in_ok-lefts.ensures same in
    let (rest, out) = c.in_err-put.ensures.part in
    served_part (λ (all : List Step). KeepsAll g.K.Keeps.may_leave (journal_of m all)) c.from_residual-in_err-put.result m c.args.terms.journal c.args.terms.profile c.args.parts.now _ _ c.from_residual-in_err-put.ensures.1
    (map facts_left c.deref.result.now, rest, put, rw (texts_left c.deref.result.now) at out)
