use Rattle.std.proofs.Common.{take}
use Rattle.replay.proofs.Standing.{StandTo}
use Rattle.replay.proofs.rows.replay.Given as goal

-- the rows so far stand for incrementals, and the map is the one after them
abbrev pub invariant-loop-row : goal.invariant-loop-row
invariant-loop-row l = StandTo l.profile l.initial.map.map (take l.row-index l.rows) l.map.map
