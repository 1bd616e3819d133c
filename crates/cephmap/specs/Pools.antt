-- Pools (pg_pool_t::encode), by releases from Nautilus on.
use Rattle.std.specs.Prelude.{ℕ, Result, Ok, Err, ◌==◌, if◌then◌else◌}
use Rattle.std.specs.Int.{w64}
use Rattle.cephbytes.specs.declared.refused.Refused.{Refused}
use Rattle.cephbytes.specs.declared.refused.Refused.TheVariants.{Unknown}
use Rattle.cephbytes.specs.Encoding.{Front, ◌>>=◌, gives, number, signed, skip, text, listed, section_of, section, meant, known_version}
use Rattle.cephmap.specs.Parts.{interval, snapshot, setting, settings}
use Rattle.cephmap.specs.declared.pool.PoolKind.{PoolKind}
use Rattle.cephmap.specs.declared.pool.PoolKind.TheVariants.{Replicated, Erasure}
use Rattle.cephmap.specs.declared.pool.Sizes.{Sizes}
use Rattle.cephmap.specs.declared.pool.Target.{Target}
use Rattle.cephmap.specs.declared.pool.Fields.{Fields}
use Rattle.cephmap.specs.declared.pool.Pool.{Pool}
use Rattle.cephmap.specs.declared.pool.PoolName.{PoolName}

-- the kind of a pool by its number
abbrev pub pool_kind_of : ℕ → Result PoolKind Refused
pool_kind_of n = if n == 1 then Ok Replicated else (if n == 3 then Ok Erasure else Err Unknown)

-- the kind of a pool
unfoldable pub pool_kind : Front PoolKind
pool_kind = do
  n ← number 1
  meant (pool_kind_of n)

-- what places the groups of a pool
unfoldable pub sizes : Front Sizes
sizes = do
  kind ← pool_kind
  size ← number 1
  rule ← number 1
  object_hash ← number 1
  pg_num ← number 4
  pgp_num ← number 4
  gives (record {
    kind = kind;
    size = size;
    rule = rule;
    object_hash = object_hash;
    pg_num = pg_num;
    pgp_num = pgp_num;
  })

-- counts of old kinds of groups and when it changed last, snapshots, those removed, and its owner: all of it passed
unfoldable pub snapshots : Front (Unit {0})
snapshots = do
  _ ← skip 24
  taken ← listed 14 snapshot
  removed ← listed 16 interval
  skip 8

-- quotas, tiers and caches: all of it passed
unfoldable pub tiers : Front (Unit {0})
tiers = do
  _ ← skip 16
  tiers ← listed 8 (number 8)
  _ ← skip 25
  properties ← listed 8 setting
  _ ← section 255
  skip 44

-- what else stands before the numbers of groups that a pool is to have: all of it passed
unfoldable pub options : Front (Unit {0})
options = do
  _ ← skip 34
  _ ← section 255
  _ ← skip 4
  applications ← listed 8 settings
  skip 8

-- numbers of groups that a pool is to have
unfoldable pub target : Front Target
target = do
  pg_num ← number 4
  pgp_num ← number 4
  pending ← number 4
  gives (record { pg_num = pg_num; pgp_num = pgp_num; pending = pending })

-- What stands in a pool's section. What is behind it is passed.
unfoldable pub fields : ℕ → Front Fields
fields version = do
  _ ← meant (known_version 29 30 version)
  sizes ← sizes
  _ ← snapshots
  flags ← number 8
  _ ← skip 4
  min_size ← number 1
  _ ← tiers
  erasure_code_profile ← text
  _ ← options
  target ← target
  gives (record {
    sizes = sizes;
    flags = flags;
    min_size = min_size;
    erasure_code_profile = erasure_code_profile;
    target = target;
  })

-- a pool: its id and the section of its fields
unfoldable pub pool : Front Pool
pool = do
  id ← signed w64
  fields ← section_of 5 fields
  gives (record {
    id = id;
    kind = fields.sizes.kind;
    size = fields.sizes.size;
    min_size = fields.min_size;
    rule = fields.sizes.rule;
    object_hash = fields.sizes.object_hash;
    pg_num = fields.sizes.pg_num;
    pgp_num = fields.sizes.pgp_num;
    pg_num_target = fields.target.pg_num;
    pgp_num_target = fields.target.pgp_num;
    pg_num_pending = fields.target.pending;
    flags = fields.flags;
    erasure_code_profile = fields.erasure_code_profile;
  })

-- the name of a pool
unfoldable pub pool_name : Front PoolName
pool_name = do
  pool ← signed w64
  name ← text
  gives (record { pool = pool; name = name })
