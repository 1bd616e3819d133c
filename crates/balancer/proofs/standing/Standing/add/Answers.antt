use Rattle.std.proofs.Common.{arith, None}
use Rattle.std.proofs.lemmas.List.{take_all}
use mathlib.Core.Bool.{false≢true}
use Rattle.balancer.proofs.RowsOfGroups.{longer_same, longer_put, known_hole, known_put}
use Rattle.balancer.proofs.standing.Standing.add.Goals as goal
use Rattle.balancer.proofs.standing.Standing.add.Goals.{in-Some+in_ok-put, in_default}

pub loop-place-init : goal.loop-place-init
loop-place-init c = (longer_same c.args.number c.args.self.now, λ osd below stood. absurd (false≢true stood))

pub returns-in_err-put-clause-longer : goal.returns-in_err-put-clause-longer
returns-in_err-put-clause-longer c = rw c.in_err-put.ensures.same c.loop-place.invariant.0

pub loop-place-preserved : goal.loop-place-preserved
loop-place-preserved c = elim c.match-place.branch [
  | in-Some+in_ok-put w ↦
      rw (w.self-is, w.in_ok-put.ensures.put) (
        longer_put c.args.number w.in-Some.osd c.args.self.now c.loop-place.self c.loop-place.invariant.0,
        known_put c.args.number w.in-Some.osd c.loop-place.self c.args.places.now c.loop-place.place-index None c.loop-place-test.true w.in-Some.is c.loop-place.invariant.1,
      )
  | in_default w ↦
      rw w.self-is (
        c.loop-place.invariant.0,
        known_hole c.args.number c.loop-place.self c.args.places.now c.loop-place.place-index None c.loop-place-test.true w.in_default.is c.loop-place.invariant.1,
      )
]

pub returns-clause-longer : goal.returns-clause-longer
returns-clause-longer c = c.loop-place.invariant.0

pub returns-clause-known : goal.returns-clause-known
returns-clause-known c = λ osd below stood.
    c.loop-place.invariant.1 osd below (rw (take_all c.loop-place.place-index c.args.places.now (omega (arith, c.loop-place-test.false))) stood)
