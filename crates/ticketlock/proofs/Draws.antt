-- A draw keeps the rule.
use Rattle.std.proofs.Common.{◌≡◌, ℕ, ◌+◌, ◌^◌, ◌<◌, ◌≤◌, ⊎_elim, set, sym, refl, ap, ◌∙◌, arith}
use mathlib.Core.Option.{some}
use lib.ListN.{get_elem?}
use Rattle.ticketlock.specs.declared.view.View.{View}
use Rattle.ticketlock.specs.declared.view.Kind.{Kind}
use Rattle.ticketlock.specs.declared.view.Stage.TheVariants.{Idle}
use Rattle.ticketlock.specs.Rule.{LockWorld, has, inside, holders, IsInTurn, KeepsRule, drawn_for, draw_word_up}
use Rattle.ticketlock.proofs.Totals.{total_set, total_stays}
use Rattle.ticketlock.proofs.Views.{one, is_at, each_set, seats_stay}

-- the drawn ticket is held once, and every other as before
pub draw_keeps : (w : LockWorld) (kind : Kind) (seat : ℕ) (v : View) → KeepsRule w → get_elem? w.views seat ≡ some v → v.stage ≡ Idle → v.draws < 2 ^ 40 → KeepsRule (draw_word_up w seat (drawn_for kind w.draw_word v))
draw_keeps w kind seat v k at idle room = let new : View = drawn_for kind w.draw_word v in
    let held : (t : ℕ) → holders t (set w.views seat new) ≡ holders t w.views + one t w.draw_word = λ t. (
    let s = total_set (λ u. has t u.stage) w.views seat v new at in let z : has t v.stage ≡ 0 = ap (has t) idle in omega arith
    ) in record {
      order = (k.order.0, let o = k.order.1 in omega arith);
      tickets = record {
        once = λ t low high. ⊎_elim (λ x. let z = k.tickets.none_yet t (omega arith) in let h = held t in omega arith) (λ x. let n = x.0 in let z = k.tickets.once t low (omega arith) in let h = held t in omega arith) (is_at t w.draw_word);
        none_past = λ t low. let o = k.order.1 in ⊎_elim (λ x. absurd (omega arith)) (λ x. let z = k.tickets.none_past t low in let h = held t in omega arith) (is_at t w.draw_word);
        none_yet = λ t high. ⊎_elim (λ x. absurd (omega arith)) (λ x. let z = k.tickets.none_yet t (omega arith) in let h = held t in omega arith) (is_at t w.draw_word);
      };
      insiders = ap (λ n. w.writer_word + n) (total_stays (λ u. inside u.stage) w.views seat v new at (sym (ap inside idle))) ∙ k.insiders;
      served = each_set (λ u. IsInTurn w.reader_word w.writer_word u.stage) w.views seat new tt (λ j u _ e. k.served j u e);
      counted = record {
        sum = let d = total_set (λ u. u.draws) w.views seat v new at in let q = k.counted.sum in omega arith;
        limit = each_set (λ u. u.draws ≤ 2 ^ 40) w.views seat new (omega arith) (λ j u _ e. k.counted.limit j u e);
        seats = seats_stay w.views seat v new at refl k.counted.seats;
      };
    }
