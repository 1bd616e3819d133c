use Rattle.balancer.specs.Shares.{aim_of}
use Rattle.balancer.specs.Greedy.{after_moves}
use Rattle.balancer.proofs.SearchCovers.{in_order}
use Rattle.balancer.proofs.board.Board.sort_candidates.Goals as goal

pub returns : goal.returns
returns c =
    let b = c.args.self.now in
    let n = after_moves b.frame.map.now.map b.frame.pool b.moves.items in
    in_order n b.frame.pool (aim_of b.frame.carried.now b.frame.apart) b.frame.map.now.map b.frame.osds.items c.measure.new.order.items c.sort.new.self.items b.frame.osds_are c.measure.ensures.0 c.measure.ensures.1 c.in_ok-sort.ensures.permutation c.in_ok-sort.ensures.sorted
