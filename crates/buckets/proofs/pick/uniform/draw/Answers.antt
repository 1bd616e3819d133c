use Rattle.std.proofs.Common.{◌≡◌, ◌-◌, ◌%◌, length, ap, ◌∙◌, arith}
use Rattle.rjenkins.specs.Jenkins.{hash3_of}
use Rattle.buckets.specs.Uniform.{places_drawn}
use Rattle.buckets.proofs.UniformDraws.{drawn_step, drawn_front}
use Rattle.buckets.proofs.pick.uniform.draw.Goals as goal

pub loop-p-preserved : goal.loop-p-preserved
loop-p-preserved c =
    let all = c.args.places.now in
    let xs = c.loop-p.places in
    let p = c.loop-p.p in
    let same : length all ≡ length xs = omega arith in
    let k = c.hash_of.result % (length all - p) in
    let e = ap (λ h. h % (length all - p)) c.hash_of.ensures ∙ ap (λ n. hash3_of c.args.x c.args.id p % (n - p)) same in
    drawn_step c.args.x c.args.id p k xs c.swap.new.self (places_drawn c.args.x c.args.id 0 (length all) all) (omega arith) e c.swap.ensures.after c.loop-p.invariant

-- the first places are the places drawn
pub returns : goal.returns
returns c i low = drawn_front c.loop-p.places _ _ c.loop-p.p i (omega arith) (omega arith) c.loop-p.invariant
