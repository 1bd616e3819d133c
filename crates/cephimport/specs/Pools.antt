-- Pools as a map states them.
use Rattle.std.specs.Prelude.{ℕ, pos, Bool, ◌&&◌, ◌%◌, ◌==◌, List, map}
use Rattle.crush.specs.declared.step.RuleKind.{RuleKind}
use Rattle.crush.specs.declared.step.RuleKind.TheVariants as kinds
use Rattle.cephmap.specs.declared.pool.Pool.{Pool}
use Rattle.cephmap.specs.declared.pool.PoolKind.{PoolKind}
use Rattle.cephmap.specs.declared.pool.PoolKind.TheVariants.{Replicated, Erasure}
use Rattle.mapparts.specs.declared.parts.PoolPart.{PoolPart}

-- the kind of rule that a pool of a kind has
abbrev pub pool_use : PoolKind → RuleKind
pool_use Replicated = kinds.Replicated
pool_use Erasure = kinds.Erasure

-- a pool of the cluster as one of the map
unfoldable pub imported_pool : Pool → PoolPart
imported_pool p = record {
  id = p.id;
  kind = pool_use p.kind;
  pg_num = pos p.pg_num;
  pgp_num = pos p.pgp_num;
  rule = pos p.rule;
  size = pos p.size;
}

-- groups of several pools are kept apart (`hashpspool`), and names of objects are hashed by rjenkins
unfoldable pub hashes_well : Pool → Bool
hashes_well p = p.flags % 2 == 1 && p.object_hash == 2
