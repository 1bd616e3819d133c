-- Groups, and what is stated of them one by one.
use Rattle.std.specs.Int.{w32, w64}
use Rattle.cephbytes.specs.Encoding.{Front, ◌>>=◌, gives, number, signed, skip, listed, meant, known_version}
use Rattle.cephmap.specs.declared.group.Group.{Group}
use Rattle.cephmap.specs.declared.group.GroupOsds.{GroupOsds}
use Rattle.cephmap.specs.declared.group.GroupPrimary.{GroupPrimary}
use Rattle.cephmap.specs.declared.group.GroupPairs.{GroupPairs}
use Rattle.cephmap.specs.declared.group.Pair.{Pair}

-- a group: the version of its form, its pool, its number, and what no release uses any more
unfoldable pub group : Front Group
group = do
  version ← number 1
  _ ← meant (known_version 1 1 version)
  pool ← signed w64
  number ← number 4
  _ ← skip 4
  gives (record { pool = pool; number = number })

-- a group and its OSDs
unfoldable pub group_osds : Front GroupOsds
group_osds = do
  group ← group
  osds ← listed 4 (signed w32)
  gives (record { group = group; osds = osds })

-- a group and its primary
unfoldable pub group_primary : Front GroupPrimary
group_primary = do
  group ← group
  osd ← signed w32
  gives (record { group = group; osd = osd })

-- a pair of two OSDs
unfoldable pub pair : Front Pair
pair = do
  from ← signed w32
  to ← signed w32
  gives (record { from = from; to = to })

-- a group and its pairs
unfoldable pub group_pairs : Front GroupPairs
group_pairs = do
  group ← group
  pairs ← listed 8 pair
  gives (record { group = group; pairs = pairs })
