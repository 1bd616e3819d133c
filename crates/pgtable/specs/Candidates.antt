-- The groups that a change can concern, found without looking at all groups.
use Rattle.std.specs.Prelude.{◌≡◌, true, ℕ, ◌+◌, ◌*◌, ◌-◌, ◌^◌, Bool, ◌&&◌, nat_lt, nat_le, List, [], ◌∷◌, filter_map, Option, Some, None, if◌then◌else◌}
use Rattle.keylist.specs.Keys.{has_key}
use Rattle.keylist.specs.Order.{IsRising}
use Rattle.maptypes.specs.declared.pg.Pg.{Pg}
use Rattle.maptypes.specs.declared.change.ChangeParts.{ChangeParts}
use Rattle.maptypes.specs.declared.change.Reweight.{Reweight}
use Rattle.maptypes.specs.Exceptions.{pg_key}
use Rattle.maptypes.specs.Named.{excepted_groups, union_of, named_groups}
use Rattle.maptypes.specs.Pools.{PoolFacts}
use Rattle.osdmap.specs.Maps.{ClusterMap}
use Rattle.osdmap.specs.Evals.{concerns}
use Rattle.osdmap.specs.Placement.{group_of}

-- the groups that a change names, and where some OSD gets another reweight those that have exceptions
abbrev pub candidates_by : List Reweight → ClusterMap → ChangeParts → List Pg
candidates_by [] m c = named_groups c
candidates_by (w ∷ ws) m c = union_of (union_of (named_groups c) (excepted_groups m.explicit)) (excepted_groups m.items)

-- the same by the reweights of the change itself
unfoldable pub candidates : ClusterMap → ChangeParts → List Pg
candidates m c = candidates_by c.weights m c

-- the number in a pool of the group of a key, where the pool has it and a test passes it; `base` is the key of the
-- pool's first group
abbrev pub number_at : (ℕ → Bool) → ℕ → ℕ → ℕ → Option ℕ
number_at q base n key =
    if nat_le base key && (nat_lt (key - base) n && q (key - base)) then Some (key - base) else None

-- the number in a pool of a group that a change concerns
abbrev pub concerned_number : ClusterMap → ChangeParts → PoolFacts → Pg → Option ℕ
concerned_number m c p g = number_at (λ n. concerns m c (group_of p n)) (p.id * 2 ^ 32) p.pg_num (pg_key g)

-- whether a group stands in a pool
abbrev pub is_of_pool : PoolFacts → Pg → Bool
is_of_pool p g = nat_le (p.id * 2 ^ 32) (pg_key g) && nat_lt (pg_key g) (p.id * 2 ^ 32 + p.pg_num)

-- the numbers in a pool of those of some groups that a change concerns
abbrev pub numbers_in : ClusterMap → ChangeParts → PoolFacts → List Pg → List ℕ
numbers_in m c p groups = filter_map (concerned_number m c p) groups

-- groups in ascending order, among which are all that a change concerns
pub record IsCandidates (m : ClusterMap) (c : ChangeParts) (groups : List Pg) : Type 0 where
  pub rising : IsRising pg_key groups
  pub all : (g : Pg) → concerns m c g ≡ true → has_key pg_key groups (pg_key g) ≡ true
