use Rattle.balancer.specs.Shares.{aim_of}
use Rattle.balancer.proofs.SearchCovers.{best_ends}
use Rattle.balancer.proofs.board.Board.is_wanted.Goals as goal

pub beats-requires-clause-v_from : goal.beats-requires-clause-v_from
beats-requires-clause-v_from c = (best_ends c.args.self.now.frame.map.now.map c.args.self.now.frame.pool (aim_of c.args.self.now.frame.carried.now c.args.self.now.frame.apart) c.args.self.now.moves.items c.args.best c.in-Some.best c.requires.best c.in-Some.is).0

pub beats-requires-clause-v_to : goal.beats-requires-clause-v_to
beats-requires-clause-v_to c = (best_ends c.args.self.now.frame.map.now.map c.args.self.now.frame.pool (aim_of c.args.self.now.frame.carried.now c.args.self.now.frame.apart) c.args.self.now.moves.items c.args.best c.in-Some.best c.requires.best c.in-Some.is).1
