-- Exceptions as a map states them.
use Rattle.std.specs.Prelude.{ℕ, ◌^◌, ◌==◌, ℤ, pos, negsuc, Bool, not, ◌&&◌, ◌||◌, nat_lt, List, map, length, Option, Some, None, if◌then◌else◌}
use Rattle.std.specs.Ordering.{int_eq}
use Rattle.std.specs.List.{list_any, filter, filter_map}
use Rattle.cephmap.specs.declared.map.CephMap.{CephMap}
use Rattle.cephmap.specs.declared.map.Osds.{Osds}
use Rattle.cephmap.specs.declared.pool.Pool.{Pool}
use Rattle.cephmap.specs.declared.group.Group.{Group}
use Rattle.cephmap.specs.declared.group.GroupOsds.{GroupOsds}
use Rattle.cephmap.specs.declared.group.GroupPairs.{GroupPairs}
use Rattle.cephmap.specs.declared.group.Pair.{Pair}
use Rattle.mapparts.specs.declared.parts.ExceptionPart.{ExceptionPart}
use Rattle.mapparts.specs.declared.parts.PairPart.{PairPart}
use Rattle.mapparts.specs.declared.pg_parts.PgParts.{PgParts}
use Rattle.cephimport.specs.Osds.{exists_osd}

-- a number, where it has no sign and at most 32 bits
abbrev pub word_in : ℤ → Option ℕ
word_in (pos n) = if nat_lt n (2 ^ 32) then Some n else None
word_in (negsuc n) = None

-- a group of the cluster as one of the map
abbrev pub imported_group : Group → PgParts
imported_group g = record { pool = word_in g.pool; number = Some g.number }

-- whether a group is one of a pool's
unfoldable pub is_group : List Pool → Group → Bool
is_group pools g = list_any (λ p. int_eq p.id g.pool && nat_lt g.number p.pg_num) pools

-- the set of a group as an explicit set
unfoldable pub imported_set : GroupOsds → ExceptionPart ℤ
imported_set s = record { pg = imported_group s.group; entries = s.osds }

-- the set of a group that is there
abbrev pub set_of_group : CephMap → GroupOsds → Option (ExceptionPart ℤ)
set_of_group m s = if is_group m.pools s.group then Some (imported_set s) else None

-- the explicit sets of groups that are there
unfoldable pub set_parts : CephMap → List (ExceptionPart ℤ)
set_parts m = filter_map (set_of_group m) m.upmaps.sets

-- a pair of the cluster as one of the map
abbrev pub imported_pair : Pair → PairPart
imported_pair p = record { from = p.from; to = p.to }

-- a pair between two OSDs that exist
unfoldable pub pair_acts : Osds → Pair → Bool
pair_acts osds p = exists_osd osds p.from && exists_osd osds p.to && not (int_eq p.from p.to)

-- the pairs that act, in their order
unfoldable pub own_pairs : Osds → List Pair → List PairPart
own_pairs osds pairs = map imported_pair (filter (pair_acts osds) pairs)

-- the pairs of a group that is there, where any may act
unfoldable pub pairs_part : CephMap → GroupPairs → Option (ExceptionPart PairPart)
pairs_part m g =
    if length (own_pairs m.osds g.pairs) == 0 || not (is_group m.pools g.group) then None
    else Some (record { pg = imported_group g.group; entries = own_pairs m.osds g.pairs })

-- the pairs of all groups that are there
unfoldable pub pair_parts : CephMap → List (ExceptionPart PairPart)
pair_parts m = filter_map (pairs_part m) m.upmaps.pairs

-- whether a number is not that of an OSD that exists
abbrev pub is_missing : Osds → ℤ → Bool
is_missing osds id = not (exists_osd osds id)

-- an exception of a group that is there leads to an OSD that does not exist
unfoldable pub set_leads_nowhere : CephMap → GroupOsds → Bool
set_leads_nowhere m s = is_group m.pools s.group && list_any (is_missing m.osds) s.osds

-- a pair of a group that is there leads to an OSD that does not exist
unfoldable pub pairs_lead_nowhere : CephMap → GroupPairs → Bool
pairs_lead_nowhere m g = is_group m.pools g.group && list_any (λ p. is_missing m.osds p.to) g.pairs

-- some exception of the cluster leads to an OSD that does not exist
unfoldable pub leads_nowhere : CephMap → Bool
leads_nowhere m = list_any (set_leads_nowhere m) m.upmaps.sets || list_any (pairs_lead_nowhere m) m.upmaps.pairs
