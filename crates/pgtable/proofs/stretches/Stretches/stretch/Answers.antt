use Rattle.std.proofs.Common.{◌≡◌, ◌∙◌, refl, ap, ◌+◌, ◌-◌, ◌^◌, min, arith}
use Rattle.pgtable.specs.Stretches.{first_of}
use Rattle.pgtable.proofs.Stretching.{first_rises, next_first}
use Rattle.pgtable.proofs.stretches.Stretches.stretch.Goals as goal

pub slice_bounds-result-count : goal.slice_bounds-result-count
slice_bounds-result-count c =
    let s = c.args.self.now in
    let next : c.saturating_add.result ≡ min (c.args.room + 1) (2 ^ 64 - 1) = omega (arith, c.saturating_add.ensures) in
    let up = first_rises c.args.room c.saturating_add.result s.size s.pools.now (omega (arith, next, c.ranges.room.fits)) in
    omega (arith, c.first-from.ensures.value, c.first-to.ensures.value, up)

pub slice_bounds-result-start : goal.slice_bounds-result-start
slice_bounds-result-start c =
    let s = c.args.self.now in
    let next : c.saturating_add.result ≡ min (c.args.room + 1) (2 ^ 64 - 1) = omega (arith, c.saturating_add.ensures) in
    let up = first_rises c.args.room c.saturating_add.result s.size s.pools.now (omega (arith, next, c.ranges.room.fits)) in
    omega (arith, c.first-from.ensures.value, c.first-to.ensures.value, up)

pub returns : goal.returns
returns c =
    let s = c.args.self.now in
    let next : c.saturating_add.result ≡ min (c.args.room + 1) (2 ^ 64 - 1) = omega (arith, c.saturating_add.ensures) in
    let to : c.first-to.result ≡ first_of (c.args.room + 1) s.size s.pools.now = c.first-to.ensures.value ∙ ap (λ n. first_of n s.size s.pools.now) next ∙ next_first c.args.room s.size s.pools.now (omega (arith, c.ranges.room.fits)) in
    rw (c.first-from.ensures.value, to) refl
