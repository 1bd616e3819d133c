-- The OSDMap (OSDMap::encode), by releases from Nautilus to Reef.
use Rattle.std.specs.Prelude.{ℕ, ◌+◌, ◌-◌, List, [], length, take, Result, Ok, Err, ◌==◌, nat_lt, if◌then◌else◌}
use Rattle.std.specs.Int.{w64}
use Rattle.cephbytes.specs.declared.refused.Refused.{Refused}
use Rattle.cephbytes.specs.declared.refused.Refused.TheVariants.{WrongSum}
use Rattle.cephbytes.specs.Crc.{crc32c_of}
use Rattle.cephbytes.specs.Encoding.{Front, ◌>>=◌, gives, number, signed, skip, text, listed, section, Own, meant, inside, known_version, ended}
use Rattle.cephmap.specs.Parts.{fsid, interval, settings}
use Rattle.cephmap.specs.Groups.{group_osds, group_primary, group_pairs}
use Rattle.cephmap.specs.Pools.{pool, pool_name}
use Rattle.cephmap.specs.Addresses.{addresses}
use Rattle.cephmap.specs.Crush.{crush}
use Rattle.cephmap.specs.declared.crush.Crush.{Crush}
use Rattle.cephmap.specs.declared.group.GroupPrimary.{GroupPrimary}
use Rattle.cephmap.specs.declared.map.Start.{Start}
use Rattle.cephmap.specs.declared.map.Osds.{Osds}
use Rattle.cephmap.specs.declared.map.Temporary.{Temporary}
use Rattle.cephmap.specs.declared.map.RemovedSnapshots.{RemovedSnapshots}
use Rattle.cephmap.specs.declared.map.Upmaps.{Upmaps}
use Rattle.cephmap.specs.declared.map.CephMap.{CephMap}

-- from the cluster's id to the map's flags
unfoldable pub start : Front Start
start = do
  fsid ← fsid
  epoch ← number 4
  _ ← skip 16
  pools ← listed 14 pool
  pool_names ← listed 12 pool_name
  _ ← skip 4
  flags ← number 4
  gives (record { fsid = fsid; epoch = epoch; pools = pools; pool_names = pool_names; flags = flags })

-- OSDs, with their addresses, which are passed
unfoldable pub osds : Front Osds
osds = do
  max_osd ← number 4
  states ← listed 4 (number 4)
  reweights ← listed 4 (number 4)
  own ← listed 1 addresses
  gives (record { max_osd = max_osd; states = states; reweights = reweights })

-- the sets and the primaries that hold for a time
unfoldable pub temporary : Front Temporary
temporary = do
  sets ← listed 21 group_osds
  primaries ← listed 21 group_primary
  gives (record { sets = sets; primaries = primaries })

-- the CRUSH map behind its length
unfoldable pub boxed_crush : Front Crush
boxed_crush = do
  own ← text
  inside crush own

-- the snapshots of a pool that were removed
unfoldable pub removed_snapshots : Front RemovedSnapshots
removed_snapshots = do
  pool ← signed w64
  intervals ← listed 16 interval
  gives (record { pool = pool; intervals = intervals })

-- the version of the CRUSH map, what snapshots were removed of late, and when an OSD changed last: all of it passed
unfoldable pub lately : Front (Unit {0})
lately = do
  _ ← skip 4
  removed ← listed 12 removed_snapshots
  purged ← listed 12 removed_snapshots
  skip 16

-- the primaries that stand in a map from version 10 on
unfoldable pub upmap_primaries : ℕ → Front (List GroupPrimary)
upmap_primaries version = if nat_lt version 10 then gives [] else listed 21 group_primary

-- the exceptions of a map of a version: sets, pairs and primaries
unfoldable pub upmaps : ℕ → Front Upmaps
upmaps version = do
  sets ← listed 21 group_osds
  pairs ← listed 21 group_pairs
  _ ← lately
  primaries ← upmap_primaries version
  gives (record { sets = sets; pairs = pairs; primaries = primaries })

-- what clients use of a map, with nothing behind it
unfoldable pub client_map : ℕ → Front CephMap
client_map version = do
  _ ← meant (known_version 9 10 version)
  start ← start
  osds ← osds
  temporary ← temporary
  affinities ← listed 4 (number 4)
  crush ← boxed_crush
  profiles ← listed 8 settings
  upmaps ← upmaps version
  _ ← ended
  gives (record {
    fsid = start.fsid;
    epoch = start.epoch;
    flags = start.flags;
    pools = start.pools;
    pool_names = start.pool_names;
    osds = osds;
    affinities = affinities;
    crush = crush;
    profiles = profiles;
    temporary = temporary;
    upmaps = upmaps;
  })

-- the sum of all bytes but the four in which it stands: of those before it, and of those behind it
abbrev pub sum_over : List ℕ → List ℕ → ℕ
sum_over bytes after = crc32c_of (crc32c_of 4294967295 (take (length bytes - (length after + 4)) bytes)) after

-- nothing where the sum that stands is that of the bytes, else the fault
abbrev pub is_sum : ℕ → ℕ → Result (Unit {0}) Refused
is_sum stands sum = if stands == sum then Ok tt else Err WrongSum

-- the sum of all bytes, where it stands among them
unfoldable pub own_sum : List ℕ → Front (Unit {0})
own_sum bytes = do
  stands ← number 4
  λ after. meant (is_sum stands (sum_over bytes after)) after

-- the section of clients, of a map whose sum is right; that of OSDs is passed
unfoldable pub client_section : List ℕ → Front Own
client_section bytes = do
  client ← section 1
  _ ← section 1
  _ ← own_sum bytes
  gives client

-- the whole section of a map and all that stands in it, for the sum over these bytes
unfoldable pub whole_map : List ℕ → Front CephMap
whole_map bytes = do
  outer ← section 8
  _ ← meant (known_version 8 8 outer.version)
  _ ← ended
  client ← inside (client_section bytes) outer.own
  inside (client_map client.version) client.own

-- what was read, without the bytes behind it
abbrev pub first_of : {X : Type 0} → Result (X × List ℕ) Refused → Result X Refused
first_of (Ok p) = Ok p.0
first_of (Err e) = Err e

-- the map that bytes are, or the first fault: of the sections, of the sum, of what stands in them
abbrev pub osd_map : List ℕ → Result CephMap Refused
osd_map bytes = first_of (whole_map bytes bytes)
