use Rattle.std.proofs.Common.{◌≡◌, map, take, true}
use Rattle.std.specs.List.{list_all}
use Rattle.maptypes.specs.Values.{rule_of}
use Rattle.maptypes.specs.CrushMaps.{is_lawful}
use Rattle.maptypes.proofs.crush_map.make_rules.Given as goal

abbrev pub invariant-loop-part : goal.invariant-loop-part
invariant-loop-part l = record {
  made : l.rules.items ≡ map rule_of (take l.part-index l.parts);
  lawful : list_all (is_lawful l.forest) (take l.part-index l.parts) ≡ true;
}
