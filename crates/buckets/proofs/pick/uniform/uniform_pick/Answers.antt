use Rattle.std.proofs.Common.{◌<◌, ◌%◌, ℕ, length, subst, sym, ap, ◌∙◌, arith}
use Rattle.std.proofs.lemmas.List.FromFn.{length-range_with_len}
use Rattle.buckets.proofs.UniformDraws.{take-range, drawn-numbered, uniform_place_below, first_drawn}
use Rattle.buckets.proofs.pick.uniform.uniform_pick.Goals as goal

pub returns-then-last-eq0-clause-place : goal.returns-then-last-eq0-clause-place
returns-then-last-eq0-clause-place c = ap (λ h. h % c.args.count) c.hash3.ensures ∙ first_drawn c.args.x c.args.id c.args.count c.args.r c.requires.some c.if-last-eq0.true

pub returns-clause-place : goal.returns-clause-place
returns-clause-place c =
    let is = take-range 0 c.args.count 64 c.requires.few in
    c.from.ensures ∙ c.draw.ensures (c.args.r % c.args.count) (omega arith) ∙ drawn-numbered c.args.x c.args.id c.args.r c.args.count c.args.count _ is (ap length is ∙ length-range_with_len 0 c.args.count)

pub returns-clause-within : goal.returns-clause-within
returns-clause-within c =
    let low = uniform_place_below c.args.x c.args.id c.args.count c.args.r c.requires.some in
    let P : ℕ → Type 0 = λ m. m < c.args.count in
    subst P (sym (returns-clause-place c)) low
