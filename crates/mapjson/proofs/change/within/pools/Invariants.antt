use Rattle.std.proofs.Common.{◌≡◌, map, take, true}
use Rattle.std.specs.List.{list_all}
use Rattle.maptypes.specs.Values.{pool_of}
use Rattle.mapparts.specs.Parts.{has_enough_groups}
use Rattle.mapjson.proofs.change.within.pools.Given as goal

abbrev pub invariant-loop-part : goal.invariant-loop-part
invariant-loop-part l = record {
  made : l.pools.items ≡ map pool_of (take l.part-index l.stated);
  enough : list_all has_enough_groups (take l.part-index l.stated) ≡ true;
}
