use Rattle.std.proofs.Common.{◌≡◌, true, take}
use Rattle.maptypes.specs.Sets.{stands}
use Rattle.balancer.specs.Standing.{AreLonger, IsKnownAt}
use Rattle.balancer.proofs.standing.Standing.add.Given as goal

-- so far it is known at the places passed
abbrev pub invariant-loop-place : goal.invariant-loop-place
invariant-loop-place l =
    AreLonger l.number l.initial.self l.self × IsKnownAt l.number l.self (λ osd. stands osd (take l.place-index l.places) ≡ true)
