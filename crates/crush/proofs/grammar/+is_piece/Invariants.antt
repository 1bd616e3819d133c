use Rattle.std.proofs.Common.{length}
use Rattle.crush.proofs.grammar.+is_piece.Given as goal

abbrev pub decreases-is_piece : goal.decreases-is_piece
decreases-is_piece l = length l.steps.now
