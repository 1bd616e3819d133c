-- OSDs as a map states them.
use Rattle.std.specs.Prelude.{ℕ, ℤ, pos, negsuc, Bool, true, false, not, ◌&&◌, ◌||◌, ◌/◌, ◌%◌, ◌==◌, nat_le, min, List, Option, Some, None, is_some, slice_get, unwrap_or, if◌then◌else◌}
use Rattle.std.specs.List.{filter_map, enumerate_from}
use Rattle.std.specs.Option.{option_map_or}
use Rattle.cephmap.specs.declared.map.Osds.{Osds}
use Rattle.mapparts.specs.declared.parts.OsdPart.{OsdPart}

-- the bits of a state
abbrev pub is_there : ℕ → Bool
is_there state = state % 2 == 1

-- the bit of an OSD that is up
abbrev pub is_up : ℕ → Bool
is_up state = state / 2 % 2 == 1

-- the reweight of an OSD, 0 where none is told; one above the whole is one of the whole
unfoldable pub kept_reweight : Osds → ℕ → ℕ
kept_reweight osds id = min (unwrap_or (slice_get osds.reweights id) 0) 65536

-- an OSD that exists, or one below max_osd that has kept a reweight
unfoldable pub imported_osd : Osds → ℕ → ℕ → Option OsdPart
imported_osd osds id state =
    if not (is_there state) && (kept_reweight osds id == 0 || nat_le osds.max_osd id) then None
    else Some (record {
      id = pos id;
      exists = is_there state;
      up = is_there state && is_up state;
      weight = pos (kept_reweight osds id);
    })

-- the OSDs of the map, by their numbers
unfoldable pub imported_osds : Osds → List OsdPart
imported_osds osds = filter_map (λ s. imported_osd osds s.0 s.1) (enumerate_from 0 osds.states)

-- whether a number is that of an OSD that exists
unfoldable pub exists_osd : Osds → ℤ → Bool
exists_osd osds (pos n) = option_map_or is_there (slice_get osds.states n) false
exists_osd osds (negsuc n) = false

-- or one that has kept a reweight
unfoldable pub is_known_osd : Osds → ℕ → Bool
is_known_osd osds id = option_map_or (λ state. is_some (imported_osd osds id state)) (slice_get osds.states id) false
