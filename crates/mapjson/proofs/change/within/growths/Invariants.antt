use Rattle.std.proofs.Common.{◌≡◌, map, take, true}
use Rattle.std.specs.List.{list_all}
use Rattle.maptypes.specs.Values.{growth_of}
use Rattle.mapparts.specs.Parts.{grows_evenly}
use Rattle.mapjson.proofs.change.within.growths.Given as goal

abbrev pub invariant-loop-part : goal.invariant-loop-part
invariant-loop-part l = record {
  made : l.found.items ≡ map growth_of (take l.part-index l.stated);
  even : list_all grows_evenly (take l.part-index l.stated) ≡ true;
}
