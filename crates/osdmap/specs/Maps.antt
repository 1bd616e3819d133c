-- The map of a cluster as callers see it, and the look-ups in it. A map is finite: rules and pools by id, OSDs by
-- number.
use Rattle.std.specs.Prelude.{◌≡◌, length, ℕ, ◌==◌, nat_le, Bool, true, false, not, ◌||◌, List, Option, slice_get, slice_index, ◌≤◌}
use Rattle.std.specs.List.{find, list_all, All}
use Rattle.std.specs.Option.{option_map, option_map_or}
use Rattle.buckets.specs.declared.bucket.Bucket.{Bucket}
use Rattle.crush.specs.declared.step.RuleKind.{RuleKind}
use Rattle.crush.specs.declared.step.RuleKind.TheVariants.{Replicated, Erasure}
use Rattle.crush.specs.WellFormed.{forest_ok}
use Rattle.maptypes.specs.declared.osd.Presence.{Presence}
use Rattle.maptypes.specs.declared.osd.OsdState.{OsdState}
use Rattle.maptypes.specs.declared.rules.NumberedRule.{NumberedRule}
use Rattle.maptypes.specs.declared.exception.Exception.{Exception}
use Rattle.maptypes.specs.declared.exception.Pair.{Pair}
use Rattle.maptypes.specs.Exceptions.{key_of, is_exception, target, sides, is_set, are_pairs}
use Rattle.keylist.specs.Order.{IsRising}
use Rattle.buckets.specs.Limits.{max_devices}
use Rattle.mapparts.specs.Limits.{max_pools, max_total_groups}
use Rattle.crush.specs.Limits.{full_weight}
use Rattle.maptypes.specs.CrushMaps.{rule_at, IsCrushMap}
use Rattle.maptypes.specs.Pools.{PoolFacts, total_groups, IsWithinLimits}

-- what callers see of a map: its epoch, the buckets of its forest by id downwards, its rules and pools by id upwards,
-- and by number whether each OSD exists and is up, and its reweight; the explicit sets and the pairs of groups, by
-- group upwards
pub record ClusterMap : Type 0 where
  pub epoch : ℕ
  pub buckets : List Bucket
  pub rules : List NumberedRule
  pub pools : List PoolFacts
  pub presences : List Presence
  pub weights : List ℕ
  pub explicit : List (Exception ℕ)
  pub items : List (Exception Pair)

-- the pool of an id
abbrev pub pool_at : List PoolFacts → ℕ → Option PoolFacts
pool_at pools id = find (λ p. p.id == id) pools

-- an OSD below max_osd: whether it exists and is up, and its reweight
abbrev pub osd_at : ClusterMap → ℕ → Option OsdState
osd_at m osd =
    option_map (λ p. record {
      exists = p.exists;
      up = p.up;
      weight = slice_index m.weights osd;
    }) (slice_get m.presences osd)

-- whether an OSD exists
abbrev pub osd_exists : ClusterMap → ℕ → Bool
osd_exists m osd = option_map_or (λ p. p.exists) (slice_get m.presences osd) false

-- whether an OSD is up
abbrev pub osd_is_up : ClusterMap → ℕ → Bool
osd_is_up m osd = option_map_or (λ p. p.up) (slice_get m.presences osd) false

-- whether two kinds are the same
abbrev pub is_kind : RuleKind → RuleKind → Bool
is_kind Replicated Replicated = true
is_kind Replicated Erasure = false
is_kind Erasure Replicated = false
is_kind Erasure Erasure = true

-- whether the pool's rule is there, and of its kind
abbrev pub has_rule : List NumberedRule → PoolFacts → Bool
has_rule rules p = option_map_or (λ r. is_kind r.kind p.kind) (rule_at rules p.rule) false

-- an OSD that is up only where it exists
abbrev pub is_presence : Presence → Bool
is_presence p = not p.up || p.exists

-- what holds of the OSDs of a map: there are 1 to 4,096, of which only those that exist are up, each with a reweight of
-- at most 65,536
pub record AreOsds (presences : List Presence) (weights : List ℕ) : Type 0 where
  pub some : 1 ≤ length presences
  pub few : length presences ≤ max_devices
  pub present : list_all is_presence presences ≡ true
  pub weighed : length weights ≡ length presences
  pub weigh_little : list_all (λ w. nat_le w full_weight) weights ≡ true

-- what holds of its pools: at most 256 by id upwards, each within its limits, and not too many groups together
pub record ArePools (pools : List PoolFacts) : Type 0 where
  pub few : length pools ≤ max_pools
  pub rise : IsRising (λ p. p.id) pools
  pub within : All IsWithinLimits pools
  pub few_groups : total_groups pools ≤ max_total_groups

-- what holds of its exceptions of one kind: they stand by group upwards, each of them soundly
pub record AreExceptions {E : Type 0} (is_sound : Exception E → Bool) (exceptions : List (Exception E)) : Type 0 where
  pub rise : IsRising key_of exceptions
  pub sound : list_all is_sound exceptions ≡ true

-- what holds in every map: its OSDs; a CRUSH map over them; pools, each with a rule of its kind; and exceptions
pub record HoldsTogether (m : ClusterMap) : Type 0 where
  pub osds : AreOsds m.presences m.weights
  pub crush : IsCrushMap (record { buckets = m.buckets; rules = m.rules })
  pub over_osds : forest_ok m.buckets (length m.presences) ≡ true
  pub pools : ArePools m.pools
  pub ruled : list_all (has_rule m.rules) m.pools ≡ true
  pub explicit : AreExceptions (is_exception target is_set m.pools (osd_exists m)) m.explicit
  pub items : AreExceptions (is_exception sides are_pairs m.pools (osd_exists m)) m.items
