-- A look keeps the rule.
use Rattle.std.proofs.Common.{◌≡◌, ℕ, ◌+◌, ◌≤◌, sym, refl, ap, subst, ◌∙◌, eq-eqb, ne_eqb, arith}
use mathlib.Core.Option.{some}
use mathlib.Core.Logic.{dite}
use native.Mathlib.Decide.{ℕ_discrete}
use lib.ListN.{get_elem?}
use Rattle.ticketlock.specs.declared.view.View.{View}
use Rattle.ticketlock.specs.declared.view.Kind.{Kind}
use Rattle.ticketlock.specs.declared.view.Kind.TheVariants.{Read, Write}
use Rattle.ticketlock.specs.declared.view.Stage.{Stage}
use Rattle.ticketlock.specs.declared.view.Stage.TheVariants.{Waiting}
use Rattle.ticketlock.specs.Rule.{LockWorld, has, inside, IsInTurn, KeepsRule, let_on, looked_at, with_view}
use Rattle.ticketlock.proofs.Totals.{total_stays}
use Rattle.ticketlock.proofs.Views.{one, each_set, counted_stays, tickets_stay}

-- a look keeps the ticket
look_has : (n t : ℕ) (kind : Kind) (x : ℕ) → has x (let_on n (Waiting t kind)) ≡ one x t
look_has n t Read x = dite (ℕ_discrete n t) (λ e. rw (eq-eqb n t e) refl) (λ d. rw (ne_eqb n t d) refl)
look_has n t Write x = dite (ℕ_discrete n t) (λ e. rw (eq-eqb n t e) refl) (λ d. rw (ne_eqb n t d) refl)

-- a look lets nobody in
look_inside : (n t : ℕ) (kind : Kind) → inside (let_on n (Waiting t kind)) ≡ 0
look_inside n t Read = dite (ℕ_discrete n t) (λ e. rw (eq-eqb n t e) refl) (λ d. rw (ne_eqb n t d) refl)
look_inside n t Write = dite (ℕ_discrete n t) (λ e. rw (eq-eqb n t e) refl) (λ d. rw (ne_eqb n t d) refl)

-- a look by which the seat is served if it is let on keeps the rule
pub look_keeps : (w : LockWorld) (seat : ℕ) (v : View) (t : ℕ) (kind : Kind) (n : ℕ) → KeepsRule w → get_elem? w.views seat ≡ some v → v.stage ≡ Waiting t kind → IsInTurn w.reader_word w.writer_word (let_on n (Waiting t kind)) → KeepsRule (with_view w seat (looked_at n v))
look_keeps w seat v t kind n k at waits served = let new : View = looked_at n v in record {
  order = k.order;
  tickets = tickets_stay w seat v new at (λ x. ap (λ (s : Stage). has x (let_on n s)) waits ∙ look_has n t kind x ∙ sym (ap (has x) waits)) k.tickets w.writer_word;
  insiders = ap (λ m. w.writer_word + m) (total_stays (λ u. inside u.stage) w.views seat v new at (ap (λ (s : Stage). inside (let_on n s)) waits ∙ look_inside n t kind ∙ sym (ap inside waits))) ∙ k.insiders;
  served = each_set (λ u. IsInTurn w.reader_word w.writer_word u.stage) w.views seat new (subst (λ (s : Stage). IsInTurn w.reader_word w.writer_word (let_on n s)) (sym waits) served) (λ j u _ e. k.served j u e);
  counted = counted_stays w seat v new at refl refl k.counted w.reader_word w.writer_word;
}

-- a reader that finds its ticket in the reader word is served
pub reader_served : (r a t : ℕ) → IsInTurn r a (let_on r (Waiting t Read))
reader_served r a t = dite (ℕ_discrete r t) (λ e. rw (eq-eqb r t e) e) (λ d. rw (ne_eqb r t d) tt)

-- a writer that finds its ticket in the writer word is served, since the reader word is no less and not past the ticket
pub writer_served : (r a t : ℕ) → a ≤ r → r ≤ t → IsInTurn r a (let_on a (Waiting t Write))
writer_served r a t low high = dite (ℕ_discrete a t) (λ e. rw (eq-eqb a t e) (omega arith, e)) (λ d. rw (ne_eqb a t d) tt)
