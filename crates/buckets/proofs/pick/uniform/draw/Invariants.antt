use Rattle.std.proofs.Common.{◌≡◌, ◌-◌, ◌++◌, length, take, drop}
use Rattle.buckets.specs.Uniform.{places_drawn}
use Rattle.buckets.proofs.pick.uniform.draw.Given as goal

-- the places places_drawn so far, and then what is places_drawn from the rest, are all that is places_drawn
abbrev pub invariant-loop-p : goal.invariant-loop-p
invariant-loop-p l =
    take l.p l.places ++ places_drawn l.x l.id l.p (length l.places - l.p) (drop l.p l.places)
    ≡ places_drawn l.x l.id 0 (length l.initial.places) l.initial.places
