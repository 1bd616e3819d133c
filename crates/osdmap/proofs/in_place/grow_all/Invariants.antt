use Rattle.std.proofs.Common.{◌≡◌, map, take, drop, length}
use Rattle.maptypes.specs.Growth.{with_growths}
use Rattle.osdmap.proofs.in_place.grow_all.Given as goal

-- the pools before the place have grown, those from it on stand as they did
abbrev pub invariant-loop-at : goal.invariant-loop-at
invariant-loop-at l = record {
  grew : take l.at l.pools.items ≡ map (with_growths l.growths) (take l.at l.fn.pools.items);
  rest : drop l.at l.pools.items ≡ drop l.at l.fn.pools.items;
  long : length l.pools.items ≡ length l.fn.pools.items;
}
