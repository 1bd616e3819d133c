use Rattle.std.proofs.Common.{◌≡◌, ◌≤◌, ◌++◌, map, drop, length, option_and_then}
use Rattle.maptypes.specs.Sets.{kept_places}
use Rattle.osdmap.specs.Placement.{up_osd}
use Rattle.osdmap.proofs.map.OsdMap.set_of_up.Given as goal

-- what is set, and what is kept of the rest, come to what is kept of all
abbrev pub invariant-loop-place : goal.invariant-loop-place
invariant-loop-place l = record {
  set : l.set ++ kept_places l.pool.kind (map (option_and_then (up_osd l.self.map)) (drop l.place-index l.place-items))
      ≡ kept_places l.pool.kind (map (option_and_then (up_osd l.self.map)) l.osds);
  few : length l.set ≤ l.place-index;
}
