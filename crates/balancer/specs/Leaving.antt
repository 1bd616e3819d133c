-- Which groups may leave an OSD, wherever they would go.
use Rattle.std.specs.Prelude.{ℕ, ◌==◌, Bool, not, ◌&&◌, nat_lt, length}
use Rattle.std.specs.List.{count_by}
use Rattle.maptypes.specs.Pools.{PoolFacts}
use Rattle.maptypes.specs.Sets.{is_of}
use Rattle.balancer.specs.declared.group.Group.{Group}

-- whether a group may leave an OSD: pairs move it, it stands there once, and it may have one more
unfoldable pub may_leave : PoolFacts → ℕ → Group → Bool
may_leave p from g = not g.is_fixed && (count_by (is_of from) g.places == 1) && nat_lt (length g.pairs) p.size
