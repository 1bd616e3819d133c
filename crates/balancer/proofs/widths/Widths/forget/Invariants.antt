use Rattle.std.proofs.Common.{◌≡◌, ℕ, ℤ, Some, false, take}
use Rattle.maptypes.specs.Sets.{stands}
use Rattle.balancer.specs.Widths.{bound_of}
use Rattle.balancer.proofs.widths.Widths.forget.Given as goal

abbrev pub invariant-loop-place : goal.invariant-loop-place
invariant-loop-place l =
    (from : ℕ) (bound : ℤ) → bound_of l.self from ≡ Some bound → (bound_of l.initial.self from ≡ Some bound) × (stands from (take l.place-index l.places) ≡ false)
