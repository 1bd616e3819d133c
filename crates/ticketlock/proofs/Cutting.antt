-- What the table asks where a seat is cut off from another: the rule is kept.
use Rattle.std.proofs.Common.{◌≡◌, ℕ, ◌+◌, ◌^◌, ◌<◌, ◌≤◌, List, [], ◌∷◌, ◌++◌, set, sym, refl, ap, subst, ◌∙◌, ⊎_elim, arith, length-append}
use mathlib.Core.Option.{some}
use lib.ListN.{get_elem?}
use Rattle.atomic_table.proofs.Lists.{at_snoc}
use Rattle.ticketlock.specs.declared.view.View.{View}
use Rattle.ticketlock.specs.Rule.{LockWorld, KeepsRule, IsInTurn, Each, has, inside, total, newcomer}
use Rattle.ticketlock.specs.Places.{one_cut}
use Rattle.ticketlock.proofs.Totals.{total_set, total_append}
use Rattle.ticketlock.proofs.Views.{each_set, length_set}

-- one seat more that is idle, cut from one that still may be cut, keeps the rule
pub cut_keeps : (w : LockWorld) (id : ℕ) (v : View) → KeepsRule w → get_elem? w.views id ≡ some v → 0 < v.spare → KeepsRule (record { draw_word = w.draw_word; reader_word = w.reader_word; writer_word = w.writer_word; views = set w.views id (one_cut v) ++ newcomer ∷ [] })
cut_keeps w id v k at some_spare = let views : List View = set w.views id (one_cut v) in
    let same_total : (f : View → ℕ) → f (one_cut v) ≡ f v → f newcomer ≡ 0 → total f (views ++ newcomer ∷ []) ≡ total f w.views = λ f e z. (
    let a = total_append f views newcomer in let s = total_set f w.views id v (one_cut v) at in omega arith
    ) in let held : (t : ℕ) → total (λ u. has t u.stage) (views ++ newcomer ∷ []) ≡ total (λ u. has t u.stage) w.views = λ t. same_total (λ u. has t u.stage) refl refl in
    let each_cut : (P : View → Type 0) → Each P w.views → P (one_cut v) → P newcomer → Each P (views ++ newcomer ∷ []) = λ P all mine new j u e. ⊎_elim
    (λ x. each_set P w.views id (one_cut v) mine (λ i y _ d. all i y d) j u x) (λ x. subst P x new) (at_snoc views newcomer u j e) in record {
      order = k.order;
      tickets = record {
        once = λ t low high. held t ∙ k.tickets.once t low high;
        none_past = λ t low. held t ∙ k.tickets.none_past t low;
        none_yet = λ t high. held t ∙ k.tickets.none_yet t high;
      };
      insiders = ap (λ n. w.writer_word + n) (same_total (λ u. inside u.stage) refl refl) ∙ k.insiders;
      served = each_cut (λ u. IsInTurn w.reader_word w.writer_word u.stage) k.served (k.served id v at) tt;
      counted = record {
        sum = k.counted.sum ∙ sym (same_total (λ u. u.draws) refl refl);
        limit = each_cut (λ u. u.draws ≤ 2 ^ 40) k.counted.limit (k.counted.limit id v at) (omega arith);
        seats = let q = k.counted.seats in let l = length_set w.views id (one_cut v) in let m = length-append views (newcomer ∷ []) in
            let a = total_append (λ u. u.spare) views newcomer in let s = total_set (λ u. u.spare) w.views id v (one_cut v) at in omega arith;
      };
    }
