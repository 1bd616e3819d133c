-- Where the groups of a map are placed (Ceph, OSDMap.cc: _pg_to_raw_osds, _raw_to_up_osds; osd_types.h: raw_pg_to_pps).
use Rattle.std.specs.Prelude.{◌≡◌, ℕ, ◌+◌, ◌-◌, ◌/◌, ◌^◌, min, ℤ, pos, negsuc, List, [], ◌∷◌, map, nat_lt, nat_le, bit_and, Option, Some, None, option_and_then, unwrap_or, IfSome, Result, MatchResult, if◌then◌else◌}
use Rattle.std.specs.List.{find}
use Rattle.std.specs.Option.{option_map_or}
use Rattle.rjenkins.specs.Jenkins.{hash2_of}
use Rattle.crush.specs.declared.step.Step.{Step}
use Rattle.crush.specs.World.{world_of}
use Rattle.crush.specs.Run.{Ran, run_of}
use Rattle.maptypes.specs.declared.pg.Pg.{Pg}
use Rattle.maptypes.specs.declared.exception.Pair.{Pair}
use Rattle.refusal.specs.declared.refused.Refusal.{Refusal}
use Rattle.refusal.specs.declared.refused.Refusal.TheVariants.{UnknownPool, UnknownGroup}
use Rattle.maptypes.specs.Pools.{PoolFacts}
use Rattle.maptypes.specs.Sets.{kept_places}
use Rattle.maptypes.specs.Exceptions.{said_of}
use Rattle.osdmap.specs.Mapped.{with_exceptions}
use Rattle.maptypes.specs.CrushMaps.{rule_at}
use Rattle.osdmap.specs.Maps.{ClusterMap, pool_at, osd_exists, osd_is_up}

-- the numbers 2 ^ k - 1 up to 65535
unfoldable pub masks : List ℕ
masks = 0 ∷ 1 ∷ 3 ∷ 7 ∷ 15 ∷ 31 ∷ 63 ∷ 127 ∷ 255 ∷ 511 ∷ 1023 ∷ 2047 ∷ 4095 ∷ 8191 ∷ 16383 ∷ 32767 ∷
    65535 ∷ []

-- the least of these that is at least b - 1, for b up to 65536
unfoldable pub mask_of : ℕ → ℕ
mask_of b = unwrap_or (find (λ m. nat_le (b - 1) m) masks) 65535

-- a number folded into the numbers below b, so that most stay where they are when b grows (ceph_stable_mod)
unfoldable pub stable_mod : ℕ → ℕ → ℕ → ℕ
stable_mod x b m = if nat_lt (bit_and x m) b then bit_and x m else bit_and x (m / 2)

-- the input with which the rule places group n of a pool (hashpspool)
unfoldable pub placement_input : PoolFacts → ℕ → ℕ
placement_input p n = hash2_of (stable_mod n p.pgp_num (mask_of p.pgp_num)) p.id

-- what refuses a question about a group
abbrev pub group_fault : ClusterMap → Pg → Option Refusal
group_fault m pg =
    elim (pool_at m.pools pg.pool) [
      | None ↦ Some UnknownPool
      | Some p ↦ (if nat_lt pg.number p.pg_num then None else Some UnknownGroup)
    ]

-- group n of a pool
abbrev pub group_of : PoolFacts → ℕ → Pg
group_of p n = record { pool = p.id; number = n }

-- the steps of the pool's rule
abbrev pub steps_of : ClusterMap → PoolFacts → List Step
steps_of m p = option_map_or (λ r. r.steps) (rule_at m.rules p.rule) []

-- the devices that the pool's rule places (_pg_to_raw_osds)
unfoldable pub placed_devices : ClusterMap → PoolFacts → ℕ → List (Option ℤ)
placed_devices m p n = run_of (world_of m.buckets m.weights (placement_input p n)) (steps_of m p) p.size

-- a device that is an OSD which exists
abbrev pub existing_osd : ClusterMap → ℤ → Option ℕ
existing_osd m (pos osd) = if osd_exists m osd then Some osd else None
existing_osd m (negsuc n) = None

-- an OSD that is up
abbrev pub up_osd : ClusterMap → ℕ → Option ℕ
up_osd m osd = if osd_is_up m osd then Some osd else None

-- the raw set: what the rule places, without OSDs that do not exist (_pg_to_raw_osds)
unfoldable pub raw_set : ClusterMap → PoolFacts → ℕ → List (Option ℕ)
raw_set m p n = kept_places p.kind (map (option_and_then (existing_osd m)) (placed_devices m p n))

-- what an explicit set and pairs make of the raw set (_apply_upmap)
abbrev pub mapped_with : Option (List ℕ) → Option (List Pair) → ClusterMap → PoolFacts → ℕ → List (Option ℕ)
mapped_with explicit items m p n = with_exceptions m.weights explicit items (raw_set m p n)

-- the mapped set: the raw set under the exceptions of the group
unfoldable pub mapped_set : ClusterMap → PoolFacts → ℕ → List (Option ℕ)
mapped_set m p n = mapped_with (said_of m.explicit (group_of p n)) (said_of m.items (group_of p n)) m p n

-- the up set: the mapped set without OSDs that are down (_raw_to_up_osds)
unfoldable pub up_set : ClusterMap → PoolFacts → ℕ → List (Option ℕ)
up_set m p n = kept_places p.kind (map (option_and_then (up_osd m)) (mapped_set m p n))

-- a set of the group is the one that a definition gives, where the group's pool is there
pub record IsPlacedBy (set : ClusterMap → PoolFacts → ℕ → List (Option ℕ)) (m : ClusterMap) (pg : Pg)
    (places : List (Option ℕ)) : Type 0 where
  pub is : IfSome (pool_at m.pools pg.pool) (λ p. places ≡ set m p pg.number)

-- a rule is run once for an answer, and no run is counted without one; the count stays at the greatest number
abbrev pub RunsOnce : {X E : Type 0} → Ran → Ran → Result X E → Type 0
RunsOnce old new r = MatchResult r (λ _. new.runs ≡ min (old.runs + 1) (2 ^ 64 - 1)) (λ _. new.runs ≡ old.runs)
