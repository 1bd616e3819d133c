use Rattle.std.proofs.Common.{◌≡◌, ◌≤◌, ◌++◌, map, drop, length, Some}
use Rattle.maptypes.proofs.up_set.UpSet.of.Given as goal

-- the places so far, and those of the rest, come to those of all
abbrev pub invariant-loop-osd : goal.invariant-loop-osd
invariant-loop-osd l = record {
  set : l.set ++ map (λ osd. Some osd) (drop l.osd-index l.osds) ≡ map (λ osd. Some osd) l.osds;
  few : length l.set ≤ l.osd-index;
}
