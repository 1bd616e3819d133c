-- The rule holds at the start and after every list of steps, and leaves a writer alone.
use Rattle.std.proofs.Common.{◌≡◌, ℕ, zero, suc, ◌≤◌, ◌⊎◌, inl, inr, ⊎_elim, List, [], ◌∷◌, length, sym, refl, ap, subst, ◌∙◌, replicate, arith}
use mathlib.Core.Option.{some, some-injective, some-ne-none}
use mathlib.Core.Logic.{dite}
use native.Mathlib.Decide.{ℕ_discrete}
use lib.ListN.{get_elem?}
use Rattle.ticketlock.specs.declared.view.View.{View}
use Rattle.ticketlock.specs.declared.view.Stage.{Stage}
use Rattle.ticketlock.specs.declared.view.Stage.TheVariants.{Idle, Waiting, Next, Reading, Writing, Closing}
use Rattle.ticketlock.specs.declared.view.Step.{Step}
use Rattle.ticketlock.specs.Rule.{LockWorld, has, inside, IsInTurn, KeepsRule, newcomer}
use Rattle.ticketlock.specs.Law.{start, Runs, IsWriting, IsIn, IsAlone}
use Rattle.ticketlock.proofs.Totals.{part_of, two_of, total_copies}
use Rattle.ticketlock.proofs.Views.{is_at}
use Rattle.ticketlock.proofs.Steps.{step_keeps}

-- each of n copies is the one
copy_at : (n : ℕ) (x : View) (i : ℕ) (v : View) → get_elem? (replicate n x) i ≡ some v → x ≡ v
copy_at zero x i v e = absurd (some-ne-none v (sym e))
copy_at (suc n) x zero v e = some-injective x v e
copy_at (suc n) x (suc i) v e = copy_at n x i v e

-- n copies are n
length_copies : (n : ℕ) (x : View) → length (replicate n x) ≡ n
length_copies zero x = refl
length_copies (suc n) x = ap suc (length_copies n x)

-- the start keeps the rule
pub starts : (seats : ℕ) → seats ≤ 1024 → KeepsRule (start seats)
starts seats few = record {
  order = (omega arith, omega arith);
  tickets = record {
    once = λ t low high. absurd (omega arith);
    none_past = λ t low. absurd (omega arith);
    none_yet = λ t high. total_copies (λ v. has t v.stage) seats newcomer refl;
  };
  insiders = let z = total_copies (λ v. inside v.stage) seats newcomer refl in omega arith;
  served = λ j u e. subst (λ (v : View). IsInTurn 0 0 v.stage) (copy_at seats newcomer j u e) tt;
  counted = record {
    sum = sym (total_copies (λ v. v.draws) seats newcomer refl);
    limit = λ j u e. let c : 0 ≡ u.draws = ap (λ (v : View). v.draws) (copy_at seats newcomer j u e) in omega arith;
    seats = let l = length_copies seats newcomer in let z = total_copies (λ v. v.spare) seats newcomer refl in omega arith;
  };
}

-- a list of steps keeps the rule
pub lasts : (w : LockWorld) (steps : List (Step × ℕ)) (last : LockWorld) → KeepsRule w → Runs w steps last → KeepsRule last
lasts w [] last k run = subst KeepsRule (sym run) k
lasts w (s ∷ steps) last k run = lasts run.0 steps last (step_keeps s.0 w s.1 run.1 run.0 k run.2 run.3) run.4

-- who is in beside a writer has the ticket that may enter, or is inside
in_or_next : (r a : ℕ) (s : Stage) → IsIn s → IsInTurn r a s → (has r s ≡ 1) ⊎ (inside s ≡ 1)
in_or_next r a Idle h i = absurd h
in_or_next r a (Waiting t kind) h i = absurd h
in_or_next r a (Next t) h i = absurd h
in_or_next r a (Reading t) h i = inr refl
in_or_next r a (Writing t) h i = ⊎_elim (λ x. inl x.1) (λ x. absurd (x.0 (sym i.0))) (is_at r t)
in_or_next r a (Closing t) h i = inr refl

-- who writes has the ticket that may enter, and nobody is inside
writes_next : (r a : ℕ) (s : Stage) → IsWriting s → IsInTurn r a s → (has r s ≡ 1) × (r ≡ a)
writes_next r a Idle h i = absurd h
writes_next r a (Waiting t kind) h i = absurd h
writes_next r a (Next t) h i = absurd h
writes_next r a (Reading t) h i = absurd h
writes_next r a (Writing t) h i = (⊎_elim (λ x. x.1) (λ x. absurd (x.0 (sym i.0))) (is_at r t), i.0 ∙ sym i.1)
writes_next r a (Closing t) h i = absurd h

-- so two seats of which one writes and the other is in are one seat
pub alone_writes : (w : LockWorld) → KeepsRule w → IsAlone w.views
alone_writes w k i j v u e d hv hu = let r : ℕ = w.reader_word in dite (ℕ_discrete i j) (λ s. s) (λ n.
    let p = writes_next r w.writer_word v.stage hv (k.served i v e) in
    let q = k.insiders in
    ⊎_elim (λ x.
    let two = two_of (λ x. has r x.stage) w.views i j v u e d n in
    let o = k.order.1 in
    dite (ℕ_discrete r w.draw_word) (λ y. let z = k.tickets.none_yet r (omega arith) in absurd (omega arith)) (λ y. let z = k.tickets.once r (omega arith) (omega arith) in absurd (omega arith)))
    (λ x. let part = part_of (λ x. inside x.stage) w.views j u d in absurd (omega arith)) (in_or_next r w.writer_word u.stage hu (k.served j u d)))
