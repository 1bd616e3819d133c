-- Which exceptions a Ceph monitor leaves at a new map (Ceph 16.2, OSDMap.cc: check_pg_upmaps).
use Rattle.std.specs.Prelude.{ℕ, pos, ◌==◌, Bool, true, false, not, ◌&&◌, ◌||◌, List, [], ◌∷◌, length, Option, Some, None, option_and_then, if◌then◌else◌}
use Rattle.std.specs.List.{list_all, list_any}
use Rattle.std.specs.Option.{option_map, option_map_or}
use Rattle.crush.specs.Paths.{reaches}
use Rattle.maptypes.specs.declared.exception.Pair.{Pair}
use Rattle.maptypes.specs.declared.pg.Pg.{Pg}
use Rattle.maptypes.specs.Exceptions.{said_of}
use Rattle.maptypes.specs.Pools.{PoolFacts}
use Rattle.maptypes.specs.Sets.{stands, is_of}
use Rattle.osdmap.specs.Maps.{ClusterMap, pool_at}
use Rattle.osdmap.specs.Mapped.{is_weightless}
use Rattle.osdmap.specs.Placement.{group_of, steps_of, raw_set, mapped_set}
use Rattle.upmap_cleanup.specs.Causes.{first}
use Rattle.upmap_cleanup.specs.Reading.{rule_fault}
use Rattle.upmap_cleanup.specs.declared.cause.Cause.{Cause}
use Rattle.upmap_cleanup.specs.declared.cause.Cause.TheVariants.{Unreached, Out, IdleSet, SetLength, IdlePairs}
use Rattle.upmap_cleanup.specs.declared.kept.Remnant.{Remnant}
use Rattle.upmap_cleanup.specs.declared.kept.Remnant.TheVariants.{All, Fewer, Gone}

-- what is wrong with an OSD of a set: the pool's rule does not reach it, or it is out
unfoldable pub osd_fault : ClusterMap → PoolFacts → ℕ → Option Cause
osd_fault m p osd =
    if not (reaches m.buckets (steps_of m p) (pos osd)) then Some (Unreached (Some osd))
    else if is_weightless m.weights osd then Some (Out osd) else None

-- what is wrong with a place of a set
abbrev pub place_fault : ClusterMap → PoolFacts → Option ℕ → Option Cause
place_fault m p None = Some (Unreached None)
place_fault m p (Some osd) = osd_fault m p osd

-- with the first of some places that is wrong
abbrev pub places_fault : ClusterMap → PoolFacts → List (Option ℕ) → Option Cause
places_fault m p [] = None
places_fault m p (place ∷ places) = first (place_fault m p place) (places_fault m p places)

-- why a set may not stand in a pool
unfoldable pub set_fault : ClusterMap → PoolFacts → List (Option ℕ) → Option Cause
set_fault m p places = first (rule_fault m.buckets (steps_of m p) p.size places) (places_fault m p places)

-- whether an explicit set is not what the rule gives
abbrev pub says_more : List (Option ℕ) → List ℕ → Bool
says_more [] [] = false
says_more [] (osd ∷ osds) = true
says_more (place ∷ places) [] = true
says_more (place ∷ places) (osd ∷ osds) = not (is_of osd place) || says_more places osds

-- why an explicit set does not serve: it is what the rule gives, or has not as many places as the pool
abbrev pub explicit_fault : PoolFacts → List (Option ℕ) → List ℕ → Option Cause
explicit_fault p raw osds =
    if not (says_more raw osds) then Some IdleSet else if length osds == p.size then None else Some SetLength

-- whether a pair leads from an OSD that the rule gives to one that is in
unfoldable pub acts : List ℕ → List (Option ℕ) → Pair → Bool
acts weights raw pair = stands pair.from raw && not (is_weightless weights pair.to)

-- why some pairs do not serve: none of them acts
abbrev pub pairs_fault : List ℕ → List (Option ℕ) → List Pair → Option Cause
pairs_fault weights raw pairs = if list_any (acts weights raw) pairs then None else Some IdlePairs

-- why no exception of a group stays: its set may not stand, its explicit set does not serve, or its pairs do not
unfoldable pub cause_of : ClusterMap → PoolFacts → ℕ → Option Cause
cause_of m p n =
    first (set_fault m p (mapped_set m p n))
    (first (option_and_then (explicit_fault p (raw_set m p n)) (said_of m.explicit (group_of p n)))
    (option_and_then (pairs_fault m.weights (raw_set m p n)) (said_of m.items (group_of p n))))

-- whether each pair of a group acts
unfoldable pub all_act : ClusterMap → PoolFacts → ℕ → Bool
all_act m p n =
    option_map_or (list_all (acts m.weights (raw_set m p n))) (said_of m.items (group_of p n)) true

-- what is left where this takes all away, if there is something, and else where each pair acts or not
abbrev pub remnant_by : Option Cause → Bool → Remnant
remnant_by (Some cause) all = Gone cause
remnant_by None true = All
remnant_by None false = Fewer

-- what a monitor leaves of the exceptions of a group
unfoldable pub remnant_of : ClusterMap → PoolFacts → ℕ → Remnant
remnant_of m p n = remnant_by (cause_of m p n) (all_act m p n)

-- the same of a group by its pool's number, where there is such a pool
abbrev pub remnant_at : ClusterMap → Pg → Option Remnant
remnant_at m pg = option_map (λ p. remnant_of m p pg.number) (pool_at m.pools pg.pool)
