-- Which OSDs stand in the sets of a group.
use Rattle.std.specs.Prelude.{◌≡◌, ℕ, true, ◌&&◌, All, IfSome}
use Rattle.maptypes.specs.Pools.{PoolFacts}
use Rattle.maptypes.specs.Sets.{stands}
use Rattle.osdmap.specs.Maps.{ClusterMap, osd_exists, osd_is_up, HoldsTogether}
use Rattle.osdmap.specs.Placement.{mapped_set, up_set}

-- an OSD stands in the up set of a group exactly where it stands in the mapped set and is up
abbrev pub UpAreMappedAndUp : Type 0
UpAreMappedAndUp =
    (m : ClusterMap) (p : PoolFacts) (n osd : ℕ) →
    stands osd (up_set m p n) ≡ (stands osd (mapped_set m p n) && osd_is_up m osd)

-- each OSD of a mapped set exists in the map
abbrev pub MappedExist : Type 0
MappedExist = (m : ClusterMap) (p : PoolFacts) (n : ℕ) → HoldsTogether m →
    All (λ place. IfSome place (λ osd. osd_exists m osd ≡ true)) (mapped_set m p n)
