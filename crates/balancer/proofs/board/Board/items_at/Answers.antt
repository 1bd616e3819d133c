use Rattle.std.proofs.Common.{◌∙◌, ap, arith}
use Rattle.balancer.specs.Shares.{aim_of}
use Rattle.balancer.specs.declared.group.Group.{Group}
use Rattle.balancer.specs.Greedy.{after_moves}
use Rattle.balancer.specs.Boards.{group_at}
use Rattle.balancer.proofs.SearchCovers.{long_groups, group_kept}
use Rattle.balancer.proofs.board.Board.items_at.Goals as goal

pub index-requires : goal.index-requires
index-requires c =
    let b = c.args.self.now in
    omega (arith, c.requires, long_groups (after_moves b.frame.map.now.map b.frame.pool b.moves.items) b.frame.pool (aim_of b.frame.carried.now b.frame.apart) b.groups.items b.deviations.items b.board, b.groups.ok.0)

pub returns : goal.returns
unfolding group_at
returns c =
    let b = c.args.self.now in
    let kept = c.index.ensures ∙ group_kept b.frame.map.now.map b.frame.pool (aim_of b.frame.carried.now b.frame.apart) b.moves.items b.groups.items b.deviations.items b.board c.args.number c.index.result.now c.requires in
    let pairs = ap (λ (g : Group). g.pairs) kept in
    λ i. record { pg = record { pool = c.id.ensures i; number = c.args.number }; entries = pairs i }
