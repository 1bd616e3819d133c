use Rattle.std.proofs.Common.{◌≡◌, ℕ, ◌-◌, ◌<◌, ◌≤◌, ◌%◌, min, length, slice_index, ap, subst, sym, ◌∙◌, arith}
use Rattle.std.proofs.lemmas.List.FromFn.{length-range_with_len}
use Rattle.std.proofs.lemmas.Nat.{mod_below}
use Rattle.std.proofs.Math.Nat.{mod-le}
use Rattle.rjenkins.proofs.FourLanes.{below_four}
use Rattle.buckets.proofs.UniformDraws.{take-range, drawn-numbered, uniform_place_below}
use Rattle.buckets.proofs.pick.uniform.uniform_picks.Goals as goal

-- the places of the first replica numbers are among those drawn
r_within : (r n m : ℕ) → r ≤ 3 → r % n ≤ r → r % n < n → m ≡ min n 4 → r % n ≤ m - 1
r_within r n m few le lt e = omega arith

pub returns-clause-place : goal.returns-clause-place
returns-clause-place c =
    let n = c.args.count in
    let is = take-range 0 n 64 c.requires.few in
    let place = λ (r : ℕ) (low : r % n ≤ c.min.result - 1). c.draw.ensures (r % n) low ∙ drawn-numbered c.args.x c.args.id r n n _ is (ap length is ∙ length-range_with_len 0 n) in
    let within = λ (r : ℕ) (few : r ≤ 3). let le = mod-le r n in let lt = mod_below r n c.requires.some in r_within r n c.min.result few le lt c.min.ensures in
    let zero : 0 % n ≡ 0 = omega (arith, mod-le 0 n) in
    below_four _
    (c.from.ensures ∙ ap (λ k. slice_index c.draw.new.places k) (sym zero) ∙ place 0 (within 0 (omega arith)))
    (c.from-2.ensures ∙ place 1 (within 1 (omega arith)))
    (c.from-3.ensures ∙ place 2 (within 2 (omega arith)))
    (c.from-4.ensures ∙ place 3 (within 3 (omega arith)))

pub returns-clause-within : goal.returns-clause-within
returns-clause-within c r low =
    let P : ℕ → Type 0 = λ m. m < c.args.count in
    subst P (sym (returns-clause-place c r low)) (uniform_place_below c.args.x c.args.id c.args.count r c.requires.some)
