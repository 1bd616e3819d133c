-- Small parts that stand in many places.
use Rattle.std.specs.Int.{w32}
use Rattle.cephbytes.specs.Encoding.{Front, ◌>>=◌, gives, number, signed, taken, text, listed, section}
use Rattle.cephmap.specs.declared.parts.Fsid.{Fsid}
use Rattle.cephmap.specs.declared.parts.Name.{Name}
use Rattle.cephmap.specs.declared.parts.Setting.{Setting}
use Rattle.cephmap.specs.declared.parts.Settings.{Settings}
use Rattle.cephmap.specs.declared.parts.Interval.{Interval}
use Rattle.cephmap.specs.declared.parts.Snapshot.{Snapshot}

-- a cluster's id
unfoldable pub fsid : Front Fsid
fsid = do
  bytes ← taken 16
  gives (record { bytes = bytes })

-- a name, behind the number that has it
unfoldable pub name : Front Name
name = do
  id ← signed w32
  name ← text
  gives (record { id = id; name = name })

-- a setting: its key and its value
unfoldable pub setting : Front Setting
setting = do
  key ← text
  value ← text
  gives (record { key = key; value = value })

-- settings under a name
unfoldable pub settings : Front Settings
settings = do
  name ← text
  settings ← listed 8 setting
  gives (record { name = name; settings = settings })

-- numbers of snapshots, from the first on
unfoldable pub interval : Front Interval
interval = do
  first ← number 8
  length ← number 8
  gives (record { first = first; length = length })

-- a snapshot: its number, and a section that is passed
unfoldable pub snapshot : Front Snapshot
snapshot = do
  id ← number 8
  _ ← section 255
  gives (record { id = id })
