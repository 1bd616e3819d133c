use Rattle.std.proofs.Common.{List, ◌≡◌, ◌∙◌, ◌+◌, [], ◌∷◌, ◌++◌, ap, sym, subst, refl, ℕ, Bool, false, None, rules, arith}
use Rattle.osdmap.specs.Maps.{ClusterMap}
use Rattle.osdmap.specs.Evals.{evals_of}
use Rattle.osdmap.specs.Changes.{apply}
use Rattle.maptypes.specs.Incrementals.{Step}
use Rattle.epochlog.specs.Epochs.{Seen, epoch_of}
use Rattle.epochlog.specs.Journals.{Journal, with_step}
use Rattle.epochlog.specs.Stores.{IsKeptBy}
use Rattle.pgtable.specs.Rooms.{runs_of}
use Rattle.state.specs.States.{StateFacts, facts, journal, fault_in, counted, ran, committed, next_step, longer_by}
use Rattle.state.proofs.Journals.{IsAccepted, accepted, IsKept-committed, IsKept-ran, pass-epoch, with_parts}
use Rattle.state.proofs.Committing.{early_fits, follows, sealed, journal_kept}
use Rattle.state.proofs.state.State.commit.Goals as goal

pub prepare-requires-clause-lawful : goal.prepare-requires-clause-lawful
prepare-requires-clause-lawful g c = λ κs lives.
    let fine : fault_in c.args.self.now c.args.proposal.base c.args.proposal.change ≡ None = search rules in
    rw (← c.self.view_is) at (accepted c.args.self.now c.args.proposal.base c.args.proposal.change fine).fine

pub prepare-requires-clause-early : goal.prepare-requires-clause-early
prepare-requires-clause-early g c = λ κs lives. rw (← c.self.view_is) at (early_fits c.args.self.now.map.epoch c.in_ok-accepts.ensures.early)

pub seal-requires-clause-kept : goal.seal-requires-clause-kept
seal-requires-clause-kept g c =
    let mine : c.args.pass.now.history ≡ c.self.inside.pass.history =
    ap (λ (s : Seen). s.history) c.requires.pass ∙ ap (λ (s : StateFacts). s.pass.history) (sym c.self.view_is) in
    let kept = subst (λ (step : Step). IsKeptBy g.K.Keeps.holds g.K.Keeps.may_leave g.K.Keeps.may_fail c.keep.new.self (with_step (journal c.self.inside.first.map c.self.inside.pass.history) step))
    (sym c.in_ok-kept.ensures.same_step.0)
    (c.in_ok-kept.ensures.kept.2 (journal c.self.inside.first.map c.self.inside.pass.history) c.self.invariant.1) in
    subst (λ (h : List Step). IsKeptBy g.K.Keeps.holds g.K.Keeps.may_leave g.K.Keeps.may_fail c.keep.new.self (with_step (journal c.self.inside.first.map h) c.in_ok-kept.kept))
    (sym mine) kept

pub seal-requires-clause-room : goal.seal-requires-clause-room
seal-requires-clause-room g c =
    let fine : fault_in c.args.self.now c.args.proposal.base c.args.proposal.change ≡ None = search rules in
    rw (c.requires.pass, ← c.requires.row) (accepted c.args.self.now _ _ fine).room

pub seal-requires-clause-next : goal.seal-requires-clause-next
seal-requires-clause-next g c =
    let k : StateFacts = facts c.self.inside.first.map c.self.inside.pass c.self.inside.map.map (runs_of c.self.inside.rooms) c.self.inside.keeper.has_failed in
    let mine : c.args.pass.now ≡ k.pass = c.requires.pass ∙ ap (λ (s : StateFacts). s.pass) (sym c.self.view_is) in
    let step : c.in_ok-patch.step.value ≡ next_step k.map c.args.proposal.change = rw c.prepare.ensures.same at c.in_ok-patch.ensures.ready.step in
    ap (λ (s : Step). s.epoch) (c.in_ok-kept.ensures.same_step.0 ∙ step) ∙ ap (λ n. n + 1) (sym (pass-epoch k c.self.inside.table c.self.invariant.0) ∙ ap (λ (s : Seen). epoch_of s) (sym mine))

pub at-requires-clause-after : goal.at-requires-clause-after
at-requires-clause-after g c =
    let k : StateFacts = facts c.self.inside.first.map c.self.inside.pass c.self.inside.map.map (runs_of c.self.inside.rooms) c.self.inside.keeper.has_failed in
    let fine : fault_in c.args.self.now c.args.proposal.base c.args.proposal.change ≡ None = search rules in
    let ok : IsAccepted k c.args.proposal.base c.args.proposal.change = rw (← c.self.view_is) at (accepted c.args.self.now c.args.proposal.base c.args.proposal.change fine) in
    let mine : c.args.pass.now ≡ k.pass = c.requires.pass ∙ ap (λ (s : StateFacts). s.pass) (sym c.self.view_is) in
    let step : c.in_ok-kept.kept ≡ record { epoch = c.args.proposal.base + 1; change = c.args.proposal.change } =
    c.in_ok-kept.ensures.same_step.0 ∙ (rw c.prepare.ensures.same at c.in_ok-patch.ensures.ready.step) ∙ ap (λ n. record { epoch = n + 1; change = c.args.proposal.change }) (sym ok.current) in
    let done = sealed k c.self.inside.table c.args.proposal.base c.args.proposal.change c.in_ok-kept.kept c.seal.new.pass c.join.new.self c.self.invariant.0 ok step
    (c.in-Ok.ensures.sealed ∙ ap (λ (s : Seen). s.history ++ c.in_ok-kept.kept ∷ []) mine) c.join.ensures.row c.join.ensures.history in
    let number : c.in-Ok.epoch ≡ c.args.proposal.base + 1 = c.in-Ok.ensures.epoch ∙ ap (λ (s : Step). s.epoch) step in
    let row : k.pass.row ≡ c.args.row.now = ap (λ (s : StateFacts). s.pass.row) c.self.view_is ∙ c.requires.row in
    rw (number, ← row) done.later

pub at-requires-clause-seen : goal.at-requires-clause-seen
at-requires-clause-seen g c =
    let k : StateFacts = facts c.self.inside.first.map c.self.inside.pass c.self.inside.map.map (runs_of c.self.inside.rooms) c.self.inside.keeper.has_failed in
    let fine : fault_in c.args.self.now c.args.proposal.base c.args.proposal.change ≡ None = search rules in
    let ok : IsAccepted k c.args.proposal.base c.args.proposal.change = rw (← c.self.view_is) at (accepted c.args.self.now c.args.proposal.base c.args.proposal.change fine) in
    let mine : c.args.pass.now ≡ k.pass = c.requires.pass ∙ ap (λ (s : StateFacts). s.pass) (sym c.self.view_is) in
    let step : c.in_ok-kept.kept ≡ record { epoch = c.args.proposal.base + 1; change = c.args.proposal.change } =
    c.in_ok-kept.ensures.same_step.0 ∙ (rw c.prepare.ensures.same at c.in_ok-patch.ensures.ready.step) ∙ ap (λ n. record { epoch = n + 1; change = c.args.proposal.change }) (sym ok.current) in
    let done = sealed k c.self.inside.table c.args.proposal.base c.args.proposal.change c.in_ok-kept.kept c.seal.new.pass c.join.new.self c.self.invariant.0 ok step
    (c.in-Ok.ensures.sealed ∙ ap (λ (s : Seen). s.history ++ c.in_ok-kept.kept ∷ []) mine) c.join.ensures.row c.join.ensures.history in
    let number : c.in-Ok.epoch ≡ c.args.proposal.base + 1 = c.in-Ok.ensures.epoch ∙ ap (λ (s : Step). s.epoch) step in
    let row : k.pass.row ≡ c.args.row.now = ap (λ (s : StateFacts). s.pass.row) c.self.view_is ∙ c.requires.row in
    omega (arith, number, done.seen)

pub apply_step-requires-clause-next : goal.apply_step-requires-clause-next
apply_step-requires-clause-next g c =
    let k : StateFacts = facts c.self.inside.first.map c.self.inside.pass c.self.inside.map.map (runs_of c.self.inside.rooms) c.self.inside.keeper.has_failed in
    let fine : fault_in c.args.self.now c.args.proposal.base c.args.proposal.change ≡ None = search rules in
    let ok : IsAccepted k c.args.proposal.base c.args.proposal.change = rw (← c.self.view_is) at (accepted c.args.self.now c.args.proposal.base c.args.proposal.change fine) in
    let mine : c.args.pass.now ≡ k.pass = c.requires.pass ∙ ap (λ (s : StateFacts). s.pass) (sym c.self.view_is) in
    let step : c.in_ok-kept.kept ≡ record { epoch = c.args.proposal.base + 1; change = c.args.proposal.change } =
    c.in_ok-kept.ensures.same_step.0 ∙ (rw c.prepare.ensures.same at c.in_ok-patch.ensures.ready.step) ∙ ap (λ n. record { epoch = n + 1; change = c.args.proposal.change }) (sym ok.current) in
    let done = sealed k c.self.inside.table c.args.proposal.base c.args.proposal.change c.in_ok-kept.kept c.seal.new.pass c.join.new.self c.self.invariant.0 ok step
    (c.in-Ok.ensures.sealed ∙ ap (λ (s : Seen). s.history ++ c.in_ok-kept.kept ∷ []) mine) c.join.ensures.row c.join.ensures.history in
    let number : c.in-Ok.epoch ≡ c.args.proposal.base + 1 = c.in-Ok.ensures.epoch ∙ ap (λ (s : Step). s.epoch) step in
    let row : k.pass.row ≡ c.args.row.now = ap (λ (s : StateFacts). s.pass.row) c.self.view_is ∙ c.requires.row in
    let shown : c.at.result.now ≡ next_step k.map c.args.proposal.change = done.shown _ (rw (number, ← row) at c.at.ensures.place) in
    rw (shown, c.prepare.ensures.same) refl

pub apply_step-requires-clause-lawful : goal.apply_step-requires-clause-lawful
apply_step-requires-clause-lawful g c =
    let k : StateFacts = facts c.self.inside.first.map c.self.inside.pass c.self.inside.map.map (runs_of c.self.inside.rooms) c.self.inside.keeper.has_failed in
    let fine : fault_in c.args.self.now c.args.proposal.base c.args.proposal.change ≡ None = search rules in
    let ok : IsAccepted k c.args.proposal.base c.args.proposal.change = rw (← c.self.view_is) at (accepted c.args.self.now c.args.proposal.base c.args.proposal.change fine) in
    let mine : c.args.pass.now ≡ k.pass = c.requires.pass ∙ ap (λ (s : StateFacts). s.pass) (sym c.self.view_is) in
    let step : c.in_ok-kept.kept ≡ record { epoch = c.args.proposal.base + 1; change = c.args.proposal.change } =
    c.in_ok-kept.ensures.same_step.0 ∙ (rw c.prepare.ensures.same at c.in_ok-patch.ensures.ready.step) ∙ ap (λ n. record { epoch = n + 1; change = c.args.proposal.change }) (sym ok.current) in
    let done = sealed k c.self.inside.table c.args.proposal.base c.args.proposal.change c.in_ok-kept.kept c.seal.new.pass c.join.new.self c.self.invariant.0 ok step
    (c.in-Ok.ensures.sealed ∙ ap (λ (s : Seen). s.history ++ c.in_ok-kept.kept ∷ []) mine) c.join.ensures.row c.join.ensures.history in
    let number : c.in-Ok.epoch ≡ c.args.proposal.base + 1 = c.in-Ok.ensures.epoch ∙ ap (λ (s : Step). s.epoch) step in
    let row : k.pass.row ≡ c.args.row.now = ap (λ (s : StateFacts). s.pass.row) c.self.view_is ∙ c.requires.row in
    let shown : c.at.result.now ≡ next_step k.map c.args.proposal.change = done.shown _ (rw (number, ← row) at c.at.ensures.place) in
    rw (shown, c.prepare.ensures.same) ok.fine

pub apply_step-requires-clause-room : goal.apply_step-requires-clause-room
apply_step-requires-clause-room g c =
    let k : StateFacts = facts c.self.inside.first.map c.self.inside.pass c.self.inside.map.map (runs_of c.self.inside.rooms) c.self.inside.keeper.has_failed in
    let fine : fault_in c.args.self.now c.args.proposal.base c.args.proposal.change ≡ None = search rules in
    let ok : IsAccepted k c.args.proposal.base c.args.proposal.change = rw (← c.self.view_is) at (accepted c.args.self.now c.args.proposal.base c.args.proposal.change fine) in
    let mine : c.args.pass.now ≡ k.pass = c.requires.pass ∙ ap (λ (s : StateFacts). s.pass) (sym c.self.view_is) in
    let step : c.in_ok-kept.kept ≡ record { epoch = c.args.proposal.base + 1; change = c.args.proposal.change } =
    c.in_ok-kept.ensures.same_step.0 ∙ (rw c.prepare.ensures.same at c.in_ok-patch.ensures.ready.step) ∙ ap (λ n. record { epoch = n + 1; change = c.args.proposal.change }) (sym ok.current) in
    let done = sealed k c.self.inside.table c.args.proposal.base c.args.proposal.change c.in_ok-kept.kept c.seal.new.pass c.join.new.self c.self.invariant.0 ok step
    (c.in-Ok.ensures.sealed ∙ ap (λ (s : Seen). s.history ++ c.in_ok-kept.kept ∷ []) mine) c.join.ensures.row c.join.ensures.history in
    let number : c.in-Ok.epoch ≡ c.args.proposal.base + 1 = c.in-Ok.ensures.epoch ∙ ap (λ (s : Step). s.epoch) step in
    let row : k.pass.row ≡ c.args.row.now = ap (λ (s : StateFacts). s.pass.row) c.self.view_is ∙ c.requires.row in
    let shown : c.at.result.now ≡ next_step k.map c.args.proposal.change = done.shown _ (rw (number, ← row) at c.at.ensures.place) in
    rw shown c.in_ok-patch.ensures.ready.room

pub apply_step-requires-clause-leads : goal.apply_step-requires-clause-leads
apply_step-requires-clause-leads g c =
    let k : StateFacts = facts c.self.inside.first.map c.self.inside.pass c.self.inside.map.map (runs_of c.self.inside.rooms) c.self.inside.keeper.has_failed in
    let fine : fault_in c.args.self.now c.args.proposal.base c.args.proposal.change ≡ None = search rules in
    let ok : IsAccepted k c.args.proposal.base c.args.proposal.change = rw (← c.self.view_is) at (accepted c.args.self.now c.args.proposal.base c.args.proposal.change fine) in
    let mine : c.args.pass.now ≡ k.pass = c.requires.pass ∙ ap (λ (s : StateFacts). s.pass) (sym c.self.view_is) in
    let step : c.in_ok-kept.kept ≡ record { epoch = c.args.proposal.base + 1; change = c.args.proposal.change } =
    c.in_ok-kept.ensures.same_step.0 ∙ (rw c.prepare.ensures.same at c.in_ok-patch.ensures.ready.step) ∙ ap (λ n. record { epoch = n + 1; change = c.args.proposal.change }) (sym ok.current) in
    let done = sealed k c.self.inside.table c.args.proposal.base c.args.proposal.change c.in_ok-kept.kept c.seal.new.pass c.join.new.self c.self.invariant.0 ok step
    (c.in-Ok.ensures.sealed ∙ ap (λ (s : Seen). s.history ++ c.in_ok-kept.kept ∷ []) mine) c.join.ensures.row c.join.ensures.history in
    let number : c.in-Ok.epoch ≡ c.args.proposal.base + 1 = c.in-Ok.ensures.epoch ∙ ap (λ (s : Step). s.epoch) step in
    let row : k.pass.row ≡ c.args.row.now = ap (λ (s : StateFacts). s.pass.row) c.self.view_is ∙ c.requires.row in
    let shown : c.at.result.now ≡ next_step k.map c.args.proposal.change = done.shown _ (rw (number, ← row) at c.at.ensures.place) in
    rw (shown, c.prepare.ensures.same) (rw c.prepare.ensures.same at c.in_ok-patch.ensures.ready.leads)

pub invariant_of-self-2 : goal.invariant_of-self-2
invariant_of-self-2 g c =
    let k : StateFacts = facts c.self.inside.first.map c.self.inside.pass c.self.inside.map.map (runs_of c.self.inside.rooms) c.self.inside.keeper.has_failed in
    let fine : fault_in c.args.self.now c.args.proposal.base c.args.proposal.change ≡ None = search rules in
    let ok : IsAccepted k c.args.proposal.base c.args.proposal.change = rw (← c.self.view_is) at (accepted c.args.self.now c.args.proposal.base c.args.proposal.change fine) in
    let mine : c.args.pass.now ≡ k.pass = c.requires.pass ∙ ap (λ (s : StateFacts). s.pass) (sym c.self.view_is) in
    let step : c.in_ok-kept.kept ≡ record { epoch = c.args.proposal.base + 1; change = c.args.proposal.change } =
    c.in_ok-kept.ensures.same_step.0 ∙ (rw c.prepare.ensures.same at c.in_ok-patch.ensures.ready.step) ∙ ap (λ n. record { epoch = n + 1; change = c.args.proposal.change }) (sym ok.current) in
    let done = sealed k c.self.inside.table c.args.proposal.base c.args.proposal.change c.in_ok-kept.kept c.seal.new.pass c.join.new.self c.self.invariant.0 ok step
    (c.in-Ok.ensures.sealed ∙ ap (λ (s : Seen). s.history ++ c.in_ok-kept.kept ∷ []) mine) c.join.ensures.row c.join.ensures.history in
    let number : c.in-Ok.epoch ≡ c.args.proposal.base + 1 = c.in-Ok.ensures.epoch ∙ ap (λ (s : Step). s.epoch) step in
    let row : k.pass.row ≡ c.args.row.now = ap (λ (s : StateFacts). s.pass.row) c.self.view_is ∙ c.requires.row in
    let shown : c.at.result.now ≡ next_step k.map c.args.proposal.change = done.shown _ (rw (number, ← row) at c.at.ensures.place) in
    let made : c.apply_step.new.map.map ≡ apply k.map (next_step k.map c.args.proposal.change) = rw (shown, c.prepare.ensures.same) at c.apply_step.ensures.map in (
      rw (done.joined, made) (IsKept-committed k c.self.inside.table c.apply_step.new.table c.args.proposal.change _ _ c.self.invariant.0 ok.fine (rw (shown, c.prepare.ensures.same) at c.apply_step.ensures.table)),
      subst (λ (j : Journal). IsKeptBy g.K.Keeps.holds g.K.Keeps.may_leave g.K.Keeps.may_fail c.keep.new.self j)
          (journal_kept c.self.inside.first.map c.self.inside.pass c.join.new.self c.in_ok-patch.step.value (next_step k.map c.args.proposal.change) (rw c.prepare.ensures.same at c.in_ok-patch.ensures.ready.step) done.joined)
          (c.in_ok-kept.ensures.kept.2 (journal c.self.inside.first.map c.self.inside.pass.history) c.self.invariant.1),
    )

pub returns-clause-commits : goal.returns-clause-commits
returns-clause-commits g c =
    let k : StateFacts = facts c.self.inside.first.map c.self.inside.pass c.self.inside.map.map (runs_of c.self.inside.rooms) c.self.inside.keeper.has_failed in
    let fine : fault_in c.args.self.now c.args.proposal.base c.args.proposal.change ≡ None = search rules in
    let ok : IsAccepted k c.args.proposal.base c.args.proposal.change = rw (← c.self.view_is) at (accepted c.args.self.now c.args.proposal.base c.args.proposal.change fine) in
    let mine : c.args.pass.now ≡ k.pass = c.requires.pass ∙ ap (λ (s : StateFacts). s.pass) (sym c.self.view_is) in
    let step : c.in_ok-kept.kept ≡ record { epoch = c.args.proposal.base + 1; change = c.args.proposal.change } =
    c.in_ok-kept.ensures.same_step.0 ∙ (rw c.prepare.ensures.same at c.in_ok-patch.ensures.ready.step) ∙ ap (λ n. record { epoch = n + 1; change = c.args.proposal.change }) (sym ok.current) in
    let done = sealed k c.self.inside.table c.args.proposal.base c.args.proposal.change c.in_ok-kept.kept c.seal.new.pass c.join.new.self c.self.invariant.0 ok step
    (c.in-Ok.ensures.sealed ∙ ap (λ (s : Seen). s.history ++ c.in_ok-kept.kept ∷ []) mine) c.join.ensures.row c.join.ensures.history in
    let number : c.in-Ok.epoch ≡ c.args.proposal.base + 1 = c.in-Ok.ensures.epoch ∙ ap (λ (s : Step). s.epoch) step in
    let row : k.pass.row ≡ c.args.row.now = ap (λ (s : StateFacts). s.pass.row) c.self.view_is ∙ c.requires.row in
    let shown : c.at.result.now ≡ next_step k.map c.args.proposal.change = done.shown _ (rw (number, ← row) at c.at.ensures.place) in
    let made : c.apply_step.new.map.map ≡ apply k.map (next_step k.map c.args.proposal.change) = rw (shown, c.prepare.ensures.same) at c.apply_step.ensures.map in
    let evaluated : c.in_ok-patch.patch.evals ≡ evals_of (apply k.map (next_step k.map c.args.proposal.change)) c.args.proposal.change = rw c.prepare.ensures.same at c.in_ok-patch.ensures.ready.counted in
    let runs : (runs_of c.prepare.new.rooms) ≡ counted (k.runs + c.evals-evals.result) = c.in_ok-patch.ensures.runs ∙ ap (λ n. counted (k.runs + n)) (sym c.evals-evals.ensures) in
    let map_then = apply k.map (next_step k.map c.args.proposal.change) in
    let pass_then = longer_by k.pass (next_step k.map c.args.proposal.change) in
    let same : c.keep.new.self.has_failed ≡ k.has_failed = c.in_ok-kept.ensures.kept.1 ∙ sym c.in_ok-kept.ensures.kept.0 in
    let before : c.args.self.now.has_failed ≡ false = sym (ap (λ (s : StateFacts). s.has_failed) c.self.view_is) ∙ c.in_ok-kept.ensures.kept.0 in
    let left = ap (λ (b : Bool). with_parts k c.join.new.self c.apply_step.new.map.map (runs_of c.prepare.new.rooms) b) same
    ∙ ap (λ (p : Seen). with_parts k p c.apply_step.new.map.map (runs_of c.prepare.new.rooms) k.has_failed) done.joined
    ∙ ap (λ (m : ClusterMap). with_parts k pass_then m (runs_of c.prepare.new.rooms) k.has_failed) made
    ∙ ap (λ (n : ℕ). with_parts k pass_then map_then n k.has_failed) runs
    ∙ ap (λ (s : StateFacts). ran c.evals-evals.result (committed s c.args.proposal.change)) c.self.view_is in
    ((fine, (before, left, number, c.evals-evals.ensures ∙ evaluated ∙ ap (λ (m : ClusterMap). evals_of m c.args.proposal.change) (sym made))), tt)

pub invariant_of-self-in_default : goal.invariant_of-self-in_default
invariant_of-self-in_default g c =
    let k : StateFacts = facts c.self.inside.first.map c.self.inside.pass c.self.inside.map.map (runs_of c.self.inside.rooms) c.self.inside.keeper.has_failed in
    let fine : fault_in c.args.self.now c.args.proposal.base c.args.proposal.change ≡ None = search rules in
    let ok : IsAccepted k c.args.proposal.base c.args.proposal.change = rw (← c.self.view_is) at (accepted c.args.self.now c.args.proposal.base c.args.proposal.change fine) in
    let next = follows k c.self.inside.table c.args.proposal.base c.args.proposal.change c.in_ok-patch.step.value c.self.invariant.0 ok (rw c.prepare.ensures.same at c.in_ok-patch.ensures.ready.step) in (
      rw c.prepare.ensures.same (IsKept-ran k c.self.inside.table _ _ c.self.invariant.0),
      c.forget.ensures (journal c.self.inside.first.map c.self.inside.pass.history) c.in_ok-patch.step.value next c.in_ok-kept.ensures.same_step.1
          (c.in_ok-kept.ensures.kept.2 (journal c.self.inside.first.map c.self.inside.pass.history) c.self.invariant.1) c.in_ok-kept.ensures.kept.1,
    )

pub invariant_of-self-in_err-kept : goal.invariant_of-self-in_err-kept
invariant_of-self-in_err-kept g c =
    let k : StateFacts = facts c.self.inside.first.map c.self.inside.pass c.self.inside.map.map (runs_of c.self.inside.rooms) c.self.inside.keeper.has_failed in
    let fine : fault_in c.args.self.now c.args.proposal.base c.args.proposal.change ≡ None = search rules in
    let ok : IsAccepted k c.args.proposal.base c.args.proposal.change = rw (← c.self.view_is) at (accepted c.args.self.now c.args.proposal.base c.args.proposal.change fine) in
    let next = follows k c.self.inside.table c.args.proposal.base c.args.proposal.change c.in_ok-patch.step.value c.self.invariant.0 ok (rw c.prepare.ensures.same at c.in_ok-patch.ensures.ready.step) in (
      rw c.prepare.ensures.same (IsKept-ran k c.self.inside.table _ _ c.self.invariant.0),
      c.in_err-kept.ensures.same (journal c.self.inside.first.map c.self.inside.pass.history) next c.self.invariant.1,
    )

pub returns-in_err-kept-clause-stored : goal.returns-in_err-kept-clause-stored
returns-in_err-kept-clause-stored g c =
    let k : StateFacts = facts c.self.inside.first.map c.self.inside.pass c.self.inside.map.map (runs_of c.self.inside.rooms) c.self.inside.keeper.has_failed in
    let fine : fault_in c.args.self.now c.args.proposal.base c.args.proposal.change ≡ None = search rules in
    let ok : IsAccepted k c.args.proposal.base c.args.proposal.change = rw (← c.self.view_is) at (accepted c.args.self.now c.args.proposal.base c.args.proposal.change fine) in
    let next = follows k c.self.inside.table c.args.proposal.base c.args.proposal.change c.in_ok-patch.step.value c.self.invariant.0 ok (rw c.prepare.ensures.same at c.in_ok-patch.ensures.ready.step) in
    let kept = c.in_err-kept.ensures.same (journal c.self.inside.first.map c.self.inside.pass.history) next c.self.invariant.1 in
    search (rules, kept.fails)
