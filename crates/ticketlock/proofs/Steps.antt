-- Each step keeps the rule, and under it no word comes near its end.
use Rattle.std.proofs.Common.{◌≡◌, ℕ, ◌+◌, ◌^◌, ◌≤◌, sym, refl, ap, subst, ◌∙◌, arith}
use mathlib.Core.Option.{some}
use lib.ListN.{get_elem?}
use Rattle.ticketlock.specs.declared.view.View.{View}
use Rattle.ticketlock.specs.declared.view.Kind.TheVariants.{Read, Write}
use Rattle.ticketlock.specs.declared.view.Stage.{Stage}
use Rattle.ticketlock.specs.declared.view.Step.{Step}
use Rattle.ticketlock.specs.declared.view.Step.TheVariants.{Draws, ReaderLooks, WriterLooks, ReaderEnters, ReaderLeaves, WriterCloses, WriterLeaves}
use Rattle.ticketlock.specs.Rule.{LockWorld, has, inside, IsInTurn, KeepsRule, moved_on, gone_in, Takes}
use Rattle.ticketlock.proofs.Totals.{bounded}
use Rattle.ticketlock.proofs.Views.{one, at_one, not_past}
use Rattle.ticketlock.proofs.Draws.{draw_keeps}
use Rattle.ticketlock.proofs.Looks.{look_keeps, reader_served, writer_served}
use Rattle.ticketlock.proofs.Entering.{GoesIn, enter_keeps}
use Rattle.ticketlock.proofs.Leaving.{leave_keeps}

-- the seat that enters or closes, at the stage s with the ticket that may enter, goes in
goes_in : (w : LockWorld) (v : View) (s : Stage) → v.stage ≡ s → ((x : ℕ) → has x s ≡ one x w.reader_word) → ((x : ℕ) → has x (moved_on s) ≡ 0) → inside s ≡ 0 → inside (moved_on s) ≡ 1
    → IsInTurn (w.reader_word + 1) w.writer_word (moved_on s) → GoesIn w v (gone_in v)
goes_in w v s e had has_none was_out is_in served = record {
  had = λ x. ap (has x) e ∙ had x;
  has_none = λ x. ap (λ (z : Stage). has x (moved_on z)) e ∙ has_none x;
  was_out = ap inside e ∙ was_out;
  is_in = ap (λ (z : Stage). inside (moved_on z)) e ∙ is_in;
  served = subst (λ (z : Stage). IsInTurn (w.reader_word + 1) w.writer_word (moved_on z)) (sym e) served;
  same_draws = refl;
  same_spare = refl;
}

-- each of the seven kinds keeps the rule
pub step_keeps : (s : Step) (w : LockWorld) (seat : ℕ) (v : View) (next : LockWorld) → KeepsRule w → get_elem? w.views seat ≡ some v → Takes s w seat v next → KeepsRule next
step_keeps (Draws kind) w seat v next k at h = subst KeepsRule (sym h.2) (draw_keeps w kind seat v k at h.0 h.1)
step_keeps ReaderLooks w seat v next k at h = subst KeepsRule (sym h.2) (look_keeps w seat v h.0 Read w.reader_word k at h.1 (reader_served w.reader_word w.writer_word h.0))
step_keeps WriterLooks w seat v next k at h = subst KeepsRule (sym h.2)
    (look_keeps w seat v h.0 Write w.writer_word k at h.1 (writer_served w.reader_word w.writer_word h.0 k.order.0 (not_past w seat v h.0 k.tickets at (ap (has h.0) h.1 ∙ at_one h.0))))
step_keeps ReaderEnters w seat v next k at h = let now : w.reader_word ≡ h.0 = subst (IsInTurn w.reader_word w.writer_word) h.1 (k.served seat v at) in
    subst KeepsRule (sym h.2) (enter_keeps w seat v (gone_in v) k at (goes_in w v _ h.1 (λ x. ap (one x) (sym now)) (λ x. refl) refl refl tt))
step_keeps ReaderLeaves w seat v next k at h = subst KeepsRule (sym h.2) (leave_keeps w seat v k at (λ x. ap (has x) h.1) (ap inside h.1))
step_keeps WriterCloses w seat v next k at h = let now : (w.reader_word ≡ h.0) × (w.writer_word ≡ h.0) = subst (IsInTurn w.reader_word w.writer_word) h.1 (k.served seat v at) in
    subst KeepsRule (sym h.2) (enter_keeps w seat v (gone_in v) k at (goes_in w v _ h.1 (λ x. ap (one x) (sym now.0)) (λ x. refl) refl refl tt))
step_keeps WriterLeaves w seat v next k at h = subst KeepsRule (sym h.2) (leave_keeps w seat v k at (λ x. ap (has x) h.1) (ap inside h.1))

-- there are at most 2^50 draws
pub few_draws : (w : LockWorld) → KeepsRule w → w.draw_word ≤ 2 ^ 50
few_draws w k = let b = bounded (λ v. v.draws) (2 ^ 40) w.views k.counted.limit in let q = k.counted.sum in let s = k.counted.seats in omega arith
