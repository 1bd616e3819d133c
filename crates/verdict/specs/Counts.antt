-- What is counted of a cluster: as if all its OSDs were up, so that what is down for a while still counts.
use Rattle.std.specs.Prelude.{ℕ, List, length, map}
use Rattle.std.specs.List.{range_with_len}
use Rattle.mapparts.specs.declared.parts.MapParts.{MapParts}
use Rattle.mapparts.specs.declared.parts.OsdPart.{OsdPart}
use Rattle.osdmap.specs.Maps.{ClusterMap}
use Rattle.pgtable.specs.Index.{count_of}

-- an OSD that is up, where it exists
abbrev pub up_part : OsdPart → OsdPart
up_part osd = record osd { up = osd.exists }

-- the parts of a map whose OSDs are all up
abbrev pub all_up : MapParts → MapParts
all_up parts = record parts { osds = map up_part parts.osds }

-- in how many groups' up sets each OSD stands, by number
abbrev pub all_counts : ClusterMap → List ℕ
all_counts m = map (count_of m) (range_with_len 0 (length m.presences))
