use Rattle.std.proofs.Common.{◌≡◌, ◌∙◌, [], ◌∷◌, ◌++◌, ap, get_or, None}
use Rattle.std.proofs.lemmas.List.{get_or-set_same}
use Rattle.balancer.specs.Shares.{aim_of}
use Rattle.balancer.specs.declared.group.Group.{Group}
use Rattle.balancer.specs.Greedy.{after_moves}
use Rattle.balancer.specs.Boards.{group_after, group_at, IsBoardOf}
use Rattle.balancer.specs.Marks.{is_shut, IsMarked}
use Rattle.balancer.proofs.DeviationsSmall.{candidate_below}
use Rattle.balancer.proofs.MarksHold.{gone_marked}
use Rattle.balancer.proofs.SearchCovers.{good_ends, group_kept, none_covers}
use Rattle.balancer.proofs.BoundsOfMoves.{bounds_moved}
use Rattle.balancer.proofs.board.Board.go.Goals as goal

pub returns-clause-marks : goal.returns-clause-marks
returns-clause-marks c =
    let b = c.args.self.now in
    let made = c.in_ok-make.ensures.groups in
    let there : c.in-Some.group.now ≡ group_after made.0 c.args.step =
    c.in-Some.ensures.lookup.1 ∙ ap (λ gs. get_or gs c.args.step.group c.in-Some.group.now) (c.deref.ensures.value ∙ made.3)
    ∙ get_or-set_same b.groups.items c.args.step.group (group_after made.0 c.args.step) c.in-Some.group.now made.1
    in
    rw (c.make.ensures.same.map, c.make.ensures.same.pool)
    (gone_marked b.frame.map.now.map b.frame.pool b.groups.items c.make.new.self.groups.items c.args.step made.0 c.args.marks.now c.look_again_at.new.marks made.2 made.3 made.1 c.look_again_at.ensures.alike
    (rw (c.make.ensures.same.map, c.make.ensures.same.pool, there) at c.look_again_at.ensures.known) c.requires.marks)

pub widen-requires : goal.widen-requires
widen-requires c =
    let b = c.args.self.now in
    rw (c.make.ensures.same.map, c.make.ensures.same.pool) (good_ends b.frame.map.now.map b.frame.pool (aim_of b.frame.carried.now b.frame.apart) b.moves.items c.args.step c.requires.good).0

pub returns-clause-widths : goal.returns-clause-widths
returns-clause-widths c =
    let b = c.args.self.now in
    let m = b.frame.map.now.map in
    let p = b.frame.pool in
    let cs = (aim_of b.frame.carried.now b.frame.apart) in
    let v = c.args.step in
    let next = after_moves m p (b.moves.items ++ v ∷ []) in
    let new = c.make.new.self in
    let kept : c.in-Some.group.now ≡ group_at next p v.group =
    c.in-Some.ensures.lookup.1 ∙ ap (λ gs. get_or gs v.group c.in-Some.group.now) c.deref.ensures.value
    ∙ (rw (c.make.ensures.same.map, c.make.ensures.same.pool, c.in_ok-make.ensures.moves) at (group_kept new.frame.map.now.map new.frame.pool (aim_of new.frame.carried.now new.frame.apart) new.moves.items new.groups.items new.deviations.items new.board v.group c.in-Some.group.now (rw c.make.ensures.same.pool c.requires.good.there)))
    in
    let places : c.as_slice.result.now ≡ (group_at next p v.group).places = c.as_slice.ensures.value ∙ ap (λ (g : Group). g.places) kept in
    let marked : IsMarked m p new.groups.items c.look_again_at.new.marks = rw (c.make.ensures.same.map, c.make.ensures.same.pool) at (returns-clause-marks c) in
    let board : IsBoardOf next p cs new.groups.items new.deviations.items = rw (c.make.ensures.same.map, c.make.ensures.same.pool, c.make.ensures.same.aim, c.in_ok-make.ensures.moves) at new.board in
    let low = candidate_below m p v.from (good_ends m p cs b.moves.items v c.requires.good).0 in
    rw (c.make.ensures.same.map, c.make.ensures.same.pool, c.make.ensures.same.aim, c.in_ok-make.ensures.moves)
    (bounds_moved m p cs b.moves.items v c.requires.good b.reached b.frame.pool_is c.args.widths.now c.widen.new.widths (λ f. is_shut c.look_again_at.new.marks f v.from) c.requires.widths
    (λ f closed g below. (none_covers m p cs (b.moves.items ++ v ∷ []) new.groups.items new.deviations.items board f v.from None (marked.known f v.from low closed)).each g below)
    (λ f bound known.
    let wide = c.widen.ensures f bound known in
    let left = c.forget.ensures f wide.0.0 wide.0.1 in
    ((wide.0.0, left.0, wide.0.2), rw (c.make.ensures.same.map, c.make.ensures.same.pool, c.make.ensures.same.aim, c.in_ok-make.ensures.moves) at wide.1, rw places at left.1)))
