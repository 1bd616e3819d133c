use Rattle.std.proofs.Common.{◌≡◌, drop}
use Rattle.std.specs.List.{fold}
use Rattle.osdmap.specs.Mapped.{with_pair}
use Rattle.osdmap.proofs.map.OsdMap.act_all.Given as goal

-- the rest of the pairs make of the set what all make of the first
abbrev pub invariant-loop-pair : goal.invariant-loop-pair
invariant-loop-pair l = fold (with_pair l.self.map.weights) l.set (drop l.pair-index l.pairs)
    ≡ fold (with_pair l.self.map.weights) l.fn.set l.pairs
