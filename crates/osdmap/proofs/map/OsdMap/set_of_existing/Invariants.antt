use Rattle.std.proofs.Common.{◌≡◌, ◌≤◌, ◌++◌, map, drop, length, option_and_then}
use Rattle.maptypes.specs.Sets.{kept_places}
use Rattle.osdmap.specs.Placement.{existing_osd}
use Rattle.osdmap.proofs.map.OsdMap.set_of_existing.Given as goal

-- what is set, and what is kept of the rest, come to what is kept of all
abbrev pub invariant-loop-device : goal.invariant-loop-device
invariant-loop-device l = record {
  set : l.set ++ kept_places l.pool.kind (map (option_and_then (existing_osd l.self.map)) (drop l.device-index l.devices))
      ≡ kept_places l.pool.kind (map (option_and_then (existing_osd l.self.map)) l.devices);
  few : length l.set ≤ l.device-index;
}
