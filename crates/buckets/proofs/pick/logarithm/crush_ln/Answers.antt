use Rattle.std.proofs.Common.{◌-◌, ◌*◌, ◌/◌, refl, arith}
use Rattle.buckets.proofs.Logarithms.{product_small}
use Rattle.buckets.proofs.pick.logarithm.crush_ln.Goals as goal

pub overflow_mul-near : goal.overflow_mul-near
overflow_mul-near c =
    let x = c.from-x.result in
    omega (arith, product_small x (2 * (x / 256 - 128)) c.rh_lh.result (omega arith) refl c.rh_lh.ensures.value c.rh_lh.ensures.small)
