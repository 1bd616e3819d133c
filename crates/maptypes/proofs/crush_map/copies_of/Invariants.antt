use Rattle.std.proofs.Common.{◌≡◌, take}
use Rattle.maptypes.proofs.crush_map.copies_of.Given as goal

-- the rules so far
abbrev pub invariant-loop-numbered : goal.invariant-loop-numbered
invariant-loop-numbered l = l.copies.items ≡ take l.numbered-index l.rules
