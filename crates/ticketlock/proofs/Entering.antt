-- An add to the reader word keeps the rule.
use Rattle.std.proofs.Common.{◌≡◌, ℕ, ◌+◌, ◌<◌, ⊎_elim, set, sym, ap, ◌∙◌, arith}
use mathlib.Core.Option.{some}
use mathlib.Core.Logic.{dite}
use native.Mathlib.Decide.{ℕ_discrete}
use lib.ListN.{get_elem?}
use Rattle.ticketlock.specs.declared.view.View.{View}
use Rattle.ticketlock.specs.declared.view.Stage.{Stage}
use Rattle.ticketlock.specs.declared.view.Stage.TheVariants.{Idle, Waiting, Next, Reading, Writing, Closing}
use Rattle.ticketlock.specs.Rule.{LockWorld, has, inside, holders, IsInTurn, KeepsRule, reader_word_up}
use Rattle.ticketlock.proofs.Totals.{total_set, part_of, two_of}
use Rattle.ticketlock.proofs.Views.{one, is_at, at_one, each_set, counted_stays}

-- who does not have the ticket that may enter sees the next one enter
passed : (r a : ℕ) (s : Stage) → has r s ≡ 0 → IsInTurn r a s → IsInTurn (r + 1) a s
passed r a Idle z i = tt
passed r a (Waiting t kind) z i = tt
passed r a (Next t) z i = ⊎_elim (λ x. absurd (omega arith)) (λ x. absurd (x.0 (sym i))) (is_at r t)
passed r a (Reading t) z i = tt
passed r a (Writing t) z i = ⊎_elim (λ x. absurd (omega arith)) (λ x. absurd (x.0 (sym i.0))) (is_at r t)
passed r a (Closing t) z i = tt

-- what the step of the seat with the ticket that may enter makes of its view: it gives the ticket up and is inside
pub record GoesIn (w : LockWorld) (v new : View) : Type 0 where
  pub had : (x : ℕ) → has x v.stage ≡ one x w.reader_word
  pub has_none : (x : ℕ) → has x new.stage ≡ 0
  pub was_out : inside v.stage ≡ 0
  pub is_in : inside new.stage ≡ 1
  pub served : IsInTurn (w.reader_word + 1) w.writer_word new.stage
  pub same_draws : new.draws ≡ v.draws
  pub same_spare : new.spare ≡ v.spare

-- such a step keeps the rule
pub enter_keeps : (w : LockWorld) (seat : ℕ) (v new : View) → KeepsRule w → get_elem? w.views seat ≡ some v → GoesIn w v new → KeepsRule (reader_word_up w seat new)
enter_keeps w seat v new k at g = let r : ℕ = w.reader_word in
    let held : (x : ℕ) → holders x (set w.views seat new) + one x r ≡ holders x w.views = λ x. (let h = total_set (λ u. has x u.stage) w.views seat v new at in let y = g.had x in let z = g.has_none x in omega arith) in
    let here : has r v.stage ≡ 1 = g.had r ∙ at_one r in
    let below : r < w.draw_word = (
    let o = k.order.1 in let p = part_of (λ u. has r u.stage) w.views seat v at in
    dite (ℕ_discrete r w.draw_word) (λ e. let z = k.tickets.none_yet r (omega arith) in absurd (omega arith)) (λ n. omega arith)
    ) in let all = k.tickets.once r (omega arith) below in
    let i = total_set (λ u. inside u.stage) w.views seat v new at in record {
      order = (let o = k.order.0 in omega arith, omega arith);
      tickets = record {
        once = λ t low high. ⊎_elim (λ x. absurd (omega arith)) (λ x. let h = held t in let z = k.tickets.once t (omega arith) high in omega arith) (is_at t r);
        none_past = λ t low. ⊎_elim (λ x. let h = held t in let z : holders t w.views ≡ 1 = ap (λ (n : ℕ). holders n w.views) (sym x.0) ∙ all in omega arith)
            (λ x. let n = x.0 in let h = held t in let z = k.tickets.none_past t (omega arith) in omega arith) (is_at t r);
        none_yet = λ t high. let h = held t in let z = k.tickets.none_yet t high in omega arith;
      };
      insiders = let q = k.insiders in let o = g.was_out in let n = g.is_in in omega arith;
      served = each_set (λ u. IsInTurn (r + 1) w.writer_word u.stage) w.views seat new g.served
          (λ j u other e. let two = two_of (λ u. has r u.stage) w.views j seat u v e at other in passed r w.writer_word u.stage (omega arith) (k.served j u e));
      counted = counted_stays w seat v new at g.same_draws g.same_spare k.counted (r + 1) w.writer_word;
    }
