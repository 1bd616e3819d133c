-- Changes: what refuses one, the map after one, and what makes a journal of them lawful.
use Rattle.std.specs.Prelude.{◌≡◌, ℕ, ◌+◌, Bool, true, false, not, ◌&&◌, ◌||◌, pos, int_lt, List, [], ◌∷◌, length, map, Option, Some, None, slice_get, slice_set, nat_le, if◌then◌else◌}
use Rattle.std.specs.List.{list_all, filter, fold}
use Rattle.std.specs.Option.{option_map_or}
use Rattle.buckets.specs.declared.bucket.Bucket.{Bucket}
use Rattle.maptypes.specs.declared.change.ChangeParts.{ChangeParts}
use Rattle.maptypes.specs.declared.change.Reweight.{Reweight}
use Rattle.maptypes.specs.declared.osd.Presence.{Presence}
use Rattle.refusal.specs.declared.refused.Refusal.{Refusal}
use Rattle.maptypes.specs.declared.rules.NumberedRule.{NumberedRule}
use Rattle.maptypes.specs.Growth.{Growth, with_growths}
use Rattle.refusal.specs.declared.refused.Refusal.TheVariants.{UnknownOsd, BadWeight, UnknownPool, PoolExists, BadForest, BadPool, UnknownGroup, BadNewException, DuplicatePart}
use Rattle.maptypes.specs.Named.{loses, all_named_groups, names_once}
use Rattle.maptypes.specs.Incrementals.{Step}
use Rattle.mapparts.specs.Limits.{max_total_groups}
use Rattle.mapparts.specs.Profiles.{most_pools}
use Rattle.crush.specs.Limits.{full_weight}
use Rattle.maptypes.specs.Pools.{PoolFacts, total_groups}
use Rattle.keylist.specs.Keys.{is_distinct}
use Rattle.keylist.specs.Puts.{put}
use Rattle.maptypes.specs.Exceptions.{has_pool, has_pool_of, has_group, target, sides, all_named, is_set, are_pairs, is_sound, exceptions_after}
use Rattle.osdmap.specs.Maps.{ClusterMap, pool_at, osd_exists, has_rule}

-- ---- refusals

-- each OSD that is named exists
unfoldable pub names_osds : ClusterMap → ChangeParts → Bool
names_osds m c =
    list_all (osd_exists m) c.osds.down && list_all (osd_exists m) c.osds.up
    && list_all (λ w. osd_exists m w.osd) c.weights
    && list_all (all_named target (osd_exists m)) c.explicit.come
    && list_all (all_named sides (osd_exists m)) c.items.come

-- each reweight is at most 65,536
unfoldable pub weighs_rightly : ChangeParts → Bool
weighs_rightly c = list_all (λ w. nat_le w.weight full_weight) c.weights

-- the pools that stay
unfoldable pub pools_kept : ClusterMap → ChangeParts → List PoolFacts
pools_kept m c = filter (λ p. not (loses c p.id)) m.pools

-- the pools that are there once the old ones went and the new ones came, of a pool that comes twice the last one
unfoldable pub pools_there : ClusterMap → ChangeParts → List PoolFacts
pools_there m c = fold (put (λ p. p.id)) (pools_kept m c) c.pools.come

-- the pools after a change: of these, some have grown
unfoldable pub pools_after : ClusterMap → ChangeParts → List PoolFacts
pools_after m c = map (with_growths c.pools.grow) (pools_there m c)

-- the forest and the rules after a change
abbrev pub buckets_after : ClusterMap → ChangeParts → List Bucket
buckets_after m c = option_map_or (λ k. k.buckets) c.crush m.buckets

-- the rules after a change
abbrev pub rules_after : ClusterMap → ChangeParts → List NumberedRule
rules_after m c = option_map_or (λ k. k.rules) c.crush m.rules

-- each pool that is taken away is there; each that grows, and the pool of each group that is named, is there once the
-- old ones went and the new ones came
unfoldable pub names_pools : ClusterMap → ChangeParts → Bool
names_pools m c =
    list_all (has_pool m.pools) c.pools.gone && list_all (λ g. has_pool (pools_there m c) g.pool) c.pools.grow
    && all_named_groups (has_pool_of (pools_there m c)) c

-- no pool comes whose id is there
unfoldable pub brings_new : ClusterMap → ChangeParts → Bool
brings_new m c = list_all (λ p. not (has_pool (pools_kept m c) p.id)) c.pools.come

-- each device of a forest is below a number
unfoldable pub has_devices_below : ℕ → List Bucket → Bool
has_devices_below n buckets = list_all (λ b. list_all (λ i. int_lt i.id (pos n)) b.items) buckets

-- the forest that comes has no device but those of the map
unfoldable pub brings_forest : ClusterMap → ChangeParts → Bool
brings_forest m c = option_map_or (λ k. has_devices_below (length m.presences) k.buckets) c.crush true

-- a pool that is there gets no fewer groups, nor fewer for placement
unfoldable pub grows_from : List PoolFacts → Growth → Bool
grows_from pools g =
    option_map_or (λ p. nat_le p.pg_num g.pg_num && nat_le p.pgp_num g.pgp_num) (pool_at pools g.pool) false

-- where no pool comes twice, all pools have at most 1,048,576 groups after the change
unfoldable pub leaves_few_groups : ClusterMap → ChangeParts → Bool
leaves_few_groups m c =
    not (is_distinct (map (λ p. p.id) c.pools.come)) || nat_le (total_groups (pools_after m c)) max_total_groups

-- each pool that stays or comes has a rule of its kind then, there are no more pools than the profile allows, none gets
-- fewer groups, and all together do not get too many
unfoldable pub brings_rightly : ClusterMap → ChangeParts → Bool
brings_rightly m c =
    list_all (has_rule (rules_after m c)) (pools_kept m c) && list_all (has_rule (rules_after m c)) c.pools.come
    && nat_le (length (pools_there m c)) (most_pools c.profile) && list_all (grows_from (pools_there m c)) c.pools.grow
    && leaves_few_groups m c

-- each group that is named is there then
unfoldable pub names_groups : ClusterMap → ChangeParts → Bool
names_groups m c = all_named_groups (has_group (pools_after m c)) c

-- each exception that comes says something, no more than the size of its pool, and that soundly
unfoldable pub excepts_soundly : ClusterMap → ChangeParts → Bool
excepts_soundly m c =
    list_all (is_sound is_set (pools_after m c)) c.explicit.come
    && list_all (is_sound are_pairs (pools_after m c)) c.items.come

-- the first refusal that applies, each over all parts
abbrev pub change_fault : ClusterMap → ChangeParts → Option Refusal
change_fault m c =
    if not (names_osds m c) then Some UnknownOsd
    else if not (weighs_rightly c) then Some BadWeight
    else if not (names_pools m c) then Some UnknownPool
    else if not (brings_new m c) then Some PoolExists
    else if not (brings_forest m c) then Some BadForest
    else if not (brings_rightly m c) then Some BadPool
    else if not (names_groups m c) then Some UnknownGroup
    else if not (excepts_soundly m c) then Some BadNewException
    else if not (names_once c) then Some DuplicatePart
    else None

-- ---- the map after a change

-- an OSD goes up or down
abbrev pub with_up : Bool → List Presence → ℕ → List Presence
with_up up presences osd =
    slice_set presences osd (record { exists = option_map_or (λ p. p.exists) (slice_get presences osd) false; up = up })

-- an OSD gets a reweight
abbrev pub with_weight : List ℕ → Reweight → List ℕ
with_weight weights w = slice_set weights w.osd w.weight

-- the parts in order: pools go, with their exceptions; the forest and the rules are replaced; pools come, and grow;
-- OSDs go down, come up, get their reweights; exceptions go, and come; and the new epoch
unfoldable pub apply : ClusterMap → Step → ClusterMap
apply m step = record m {
  epoch = step.epoch;
  buckets = buckets_after m step.change;
  rules = rules_after m step.change;
  pools = pools_after m step.change;
  presences = fold (with_up true) (fold (with_up false) m.presences step.change.osds.down) step.change.osds.up;
  weights = fold with_weight m.weights step.change.weights;
  explicit = exceptions_after step.change.pools.gone step.change.explicit.gone step.change.explicit.come m.explicit;
  items = exceptions_after step.change.pools.gone step.change.items.gone step.change.items.come m.items;
}

-- ---- journals

-- the first map with the changes of a journal applied in order
abbrev pub after : ClusterMap → List Step → ClusterMap
after first journal = fold apply first journal

-- each incremental has the epoch next after that of the map before it, which refuses nothing of its change
unfoldable pub IsLawful : ClusterMap → List Step → Type 0
IsLawful first [] = Unit {0}
IsLawful first (step ∷ steps) =
    (step.epoch ≡ first.epoch + 1) × (change_fault first step.change ≡ None) × IsLawful (apply first step) steps

-- the epoch that a journal reaches
abbrev pub epoch_after : ClusterMap → List Step → ℕ
epoch_after first journal = first.epoch + length journal
