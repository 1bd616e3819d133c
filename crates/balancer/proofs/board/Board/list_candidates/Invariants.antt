use Rattle.std.proofs.Common.{◌≡◌, map, take}
use Rattle.balancer.proofs.board.Board.list_candidates.Given as goal

-- the candidates so far
abbrev pub invariant-loop-osd : goal.invariant-loop-osd
invariant-loop-osd l = map (λ e. e.1) l.order.items ≡ take l.osd-index l.self.frame.osds.items
