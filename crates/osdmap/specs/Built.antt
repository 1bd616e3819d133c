-- How the map that parts state is built: the pools and the OSDs, each with what refuses it; and the exceptions after
-- these.
use Rattle.std.specs.Prelude.{ℕ, ◌&&◌, Bool, false, nat_abs, List, [], map, Option}
use Rattle.std.specs.List.{list_all, range_with_len}
use Rattle.std.specs.Option.{option_map, option_map_or}
use Rattle.keylist.specs.Keys.{is_distinct}
use Rattle.maptypes.specs.declared.osd.Presence.{Presence}
use Rattle.maptypes.specs.declared.osd.OsdState.{OsdState}
use Rattle.mapparts.specs.declared.parts.MapParts.{MapParts}
use Rattle.mapparts.specs.declared.parts.PoolPart.{PoolPart}
use Rattle.mapparts.specs.declared.parts.OsdPart.{OsdPart}
use Rattle.maptypes.specs.declared.rules.NumberedRule.{NumberedRule}
use Rattle.osdmap.specs.Stated.{pool_ok, osd_ok, listed_osd}

-- parts without their exceptions
abbrev pub without_exceptions : MapParts → MapParts
without_exceptions p = record p { pg_upmap = []; pg_upmap_items = [] }

-- no id twice, and each pool by itself
abbrev pub pools_fit : List NumberedRule → List PoolPart → Bool
pools_fit rules pools = is_distinct (map (λ q. nat_abs q.id) pools) && list_all (pool_ok rules) pools

-- no id twice, and each OSD by itself
abbrev pub osds_fit : ℕ → List OsdPart → Bool
osds_fit max_osd osds = is_distinct (map (λ o. nat_abs o.id) osds) && list_all (osd_ok max_osd) osds

-- what is listed of an OSD, as a state
abbrev pub state_of : OsdPart → OsdState
state_of o = record { exists = o.exists; up = o.up; weight = nat_abs o.weight }

-- for each OSD below max_osd what is listed of it
abbrev pub rows_of : List OsdPart → ℕ → List (Option OsdState)
rows_of osds max_osd = map (λ n. option_map state_of (listed_osd osds n)) (range_with_len 0 max_osd)

-- an OSD that is not listed does not exist, is down and has reweight 0
abbrev pub row_presence : Option OsdState → Presence
row_presence row = option_map_or (λ s. record { exists = s.exists; up = s.up }) row (record {
  exists = false;
  up = false;
})

-- an OSD that is not listed has reweight 0
abbrev pub row_weight : Option OsdState → ℕ
row_weight row = option_map_or (λ s. s.weight) row 0
