use Rattle.std.proofs.Common.{◌≡◌, map, take, true}
use Rattle.std.specs.List.{list_all}
use Rattle.maptypes.specs.Values.{pool_of}
use Rattle.osdmap.specs.Stated.{pool_ok}
use Rattle.osdmap.proofs.build.pools.make_pools.Given as goal

abbrev pub invariant-loop-part : goal.invariant-loop-part
invariant-loop-part l = record {
  made : l.pools.items ≡ map pool_of (take l.part-index l.parts);
  lawful : list_all (pool_ok l.rules) (take l.part-index l.parts) ≡ true;
}
