-- How many groups' placement a change can alter.
use Rattle.std.specs.Prelude.{ℕ, Bool, false, ◌||◌, pos, List, Option}
use Rattle.std.specs.List.{list_any, sum_by, count_by, range_with_len}
use Rattle.std.specs.Option.{option_map_or}
use Rattle.crush.specs.Paths as paths
use Rattle.keylist.specs.Keys.{has_key}
use Rattle.maptypes.specs.declared.change.ChangeParts.{ChangeParts}
use Rattle.maptypes.specs.declared.pg.Pg.{Pg}
use Rattle.maptypes.specs.Exceptions.{said_of, target, sides}
use Rattle.maptypes.specs.Named.{is_named, renews}
use Rattle.maptypes.specs.Pools.{PoolFacts}
use Rattle.osdmap.specs.Maps.{ClusterMap}
use Rattle.osdmap.specs.Placement.{group_of, steps_of}

-- whether a pool's rule reaches an OSD that gets another reweight
unfoldable pub reaches_reweighted : ClusterMap → ChangeParts → PoolFacts → Bool
reaches_reweighted m c p = list_any (λ w. paths.reaches m.buckets (steps_of m p) (pos w.osd)) c.weights

-- whether all groups of a pool are evaluated: the change makes the pool anew, or its rule reaches such an OSD
unfoldable pub is_touched : ClusterMap → ChangeParts → PoolFacts → Bool
is_touched m c p = renews c p.id || reaches_reweighted m c p

-- whether an exception names an OSD that gets another reweight
abbrev pub names_reweighted : {E : Type 0} → (E → List ℕ) → ChangeParts → Option (List E) → Bool
names_reweighted names c said =
    option_map_or (λ entries. list_any (λ entry. list_any (has_key (λ w. w.osd) c.weights)
    (names entry)) entries) said false

-- whether a change concerns the exceptions of a group: they go or come, or name an OSD that gets another reweight
unfoldable pub concerns : ClusterMap → ChangeParts → Pg → Bool
concerns m c g =
    is_named c g || names_reweighted target c (said_of m.explicit g) || names_reweighted sides c (said_of m.items g)

-- whether group n of a pool of the map after the change may be placed otherwise than before
abbrev pub is_evaluated : ClusterMap → ChangeParts → PoolFacts → ℕ → Bool
is_evaluated m c p n = is_touched m c p || concerns m c (group_of p n)

-- how many groups of the map after the change may be placed otherwise than before
unfoldable pub evals_of : ClusterMap → ChangeParts → ℕ
evals_of m c = sum_by (λ p. count_by (is_evaluated m c p) (range_with_len 0 p.pg_num)) m.pools
