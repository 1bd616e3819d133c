-- An add to the writer word keeps the rule.
use Rattle.std.proofs.Common.{◌≡◌, ℕ, ◌+◌, ◌<◌, sym, refl, arith}
use mathlib.Core.Option.{some}
use lib.ListN.{get_elem?}
use Rattle.ticketlock.specs.declared.view.View.{View}
use Rattle.ticketlock.specs.declared.view.Stage.{Stage}
use Rattle.ticketlock.specs.declared.view.Stage.TheVariants.{Idle, Waiting, Next, Reading, Writing, Closing}
use Rattle.ticketlock.specs.Rule.{LockWorld, has, inside, IsInTurn, KeepsRule, gone_out, writer_word_up}
use Rattle.ticketlock.proofs.Totals.{total_set, part_of}
use Rattle.ticketlock.proofs.Views.{each_set, counted_stays, tickets_stay}

-- while a seat is inside, no one writes
blocked : (r a : ℕ) (s : Stage) → a < r → IsInTurn r a s → IsInTurn r (a + 1) s
blocked r a Idle h i = tt
blocked r a (Waiting t kind) h i = tt
blocked r a (Next t) h i = i
blocked r a (Reading t) h i = tt
blocked r a (Writing t) h i = let p = i.0 in let q = i.1 in absurd (omega arith)
blocked r a (Closing t) h i = tt

-- a seat that is inside goes out
pub leave_keeps : (w : LockWorld) (seat : ℕ) (v : View) → KeepsRule w → get_elem? w.views seat ≡ some v → ((x : ℕ) → has x v.stage ≡ 0) → inside v.stage ≡ 1 → KeepsRule (writer_word_up w seat (gone_out v))
leave_keeps w seat v k at has_none was_in = let new : View = gone_out v in
    let i = total_set (λ u. inside u.stage) w.views seat v new at in let q = k.insiders in let p = part_of (λ u. inside u.stage) w.views seat v at in record {
      order = (omega arith, k.order.1);
      tickets = tickets_stay w seat v new at (λ x. sym (has_none x)) k.tickets (w.writer_word + 1);
      insiders = omega arith;
      served = each_set (λ u. IsInTurn w.reader_word (w.writer_word + 1) u.stage) w.views seat new tt
          (λ j u other e. blocked w.reader_word w.writer_word u.stage (omega arith) (k.served j u e));
      counted = counted_stays w seat v new at refl refl k.counted w.reader_word (w.writer_word + 1);
    }
