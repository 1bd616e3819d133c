use Rattle.std.proofs.Common.{◌≡◌, ◌∙◌, sym, ap, subst, IfOk, ◌+◌, ◌-◌, Some, slice_get}
use Rattle.monitor.specs.Followers.{Followed, IsFollowed, GoesOnFrom, Advances, followed}
use Rattle.monitor.proofs.Followers.{stands_on, advances_on}
use Rattle.monitor.proofs.follower.Follower.advance.Goals as goal

-- the follower once the next incremental is looked at
abbrev now : goal.After-step_on → Followed
now c = followed c.self.inside.first.map c.next_after.new.pass c.step_on.new.map.map c.self.inside.work.runs

stands : (c : goal.After-step_on) → IsFollowed (now c) × GoesOnFrom (followed c.self.inside.first.map c.self.inside.pass c.self.inside.map.map c.self.inside.work.runs) (now c) × IfOk c.step_on.result (Advances (followed c.self.inside.first.map c.self.inside.pass c.self.inside.map.map c.self.inside.work.runs) (now c))
stands c =
    let f = c.self.inside in
    let next = c.in-Some.ensures in
    let rows : f.pass.row ≡ c.args.row.now = ap (λ (s : Followed). s.row) c.self.view_is ∙ c.requires in
    let place : slice_get c.next_after.new.pass.history (f.map.map.epoch - f.pass.row.first) ≡ Some c.in-Some.step.now =
    rw (rows, ← c.epoch.ensures) next.place in
    let step = next.epoch ∙ ap (λ n. n + 1) c.epoch.ensures in
    let on = stands_on f.first.map f.map.map f.pass c.next_after.new.pass f.work.runs c.self.invariant (next.row ∙ sym rows) next.begins
    c.step_on.new.map.map c.in-Some.step.now c.step_on.result step place c.step_on.ensures.made c.step_on.ensures.same in
    let advances = advances_on f.first.map f.map.map f.pass c.next_after.new.pass f.work.runs c.self.invariant (next.row ∙ sym rows) next.begins
    c.step_on.new.map.map c.in-Some.step.now c.step_on.result step place c.step_on.ensures.made in
    (on.0, on.1, advances)

pub invariant_of-self : goal.invariant_of-self
invariant_of-self c = (stands c).0

pub returns-in-Some-clause-goes_on : goal.returns-in-Some-clause-goes_on
returns-in-Some-clause-goes_on c = subst (λ (s : Followed). GoesOnFrom s (now c)) c.self.view_is (stands c).1

pub returns-in-Some-clause-advances : goal.returns-in-Some-clause-advances
returns-in-Some-clause-advances c = subst (λ (s : Followed). IfOk c.step_on.result (Advances s (now c))) c.self.view_is (stands c).2

pub returns-in-Some-clause-front : goal.returns-in-Some-clause-front
returns-in-Some-clause-front c = (stands c).0.front
