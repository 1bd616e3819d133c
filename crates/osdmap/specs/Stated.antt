-- The map that parts state, or what is wrong with them.
use Rattle.std.specs.Prelude.{◌≡◌, ℕ, ◌<◌, ◌==◌, Bool, false, not, ◌&&◌, ◌||◌, int_le, nat_lt, nat_abs, List, map, Option, Some, None, if◌then◌else◌}
use Rattle.std.specs.List.{find, list_all, range_with_len, AllPairs}
use Rattle.std.specs.List.Sorted.{IsPermutation}
use Rattle.std.specs.Option.{option_map_or}
use Rattle.buckets.specs.declared.bucket.Bucket.{Bucket}
use Rattle.crush.specs.WellFormed.{forest_ok, IsDescending}
use Rattle.crush.specs.Grammar.{rule_ok}
use Rattle.maptypes.specs.declared.osd.Presence.{Presence}
use Rattle.mapparts.specs.declared.parts.MapParts.{MapParts}
use Rattle.mapparts.specs.declared.parts.PoolPart.{PoolPart}
use Rattle.mapparts.specs.declared.parts.OsdPart.{OsdPart}
use Rattle.maptypes.specs.declared.rules.NumberedRule.{NumberedRule}
use Rattle.refusal.specs.declared.refused.Refusal.{Refusal}
use Rattle.refusal.specs.declared.refused.Refusal.TheVariants.{BadLimit, BadForest, BadRule, BadPool, BadOsd, BadException}
use Rattle.mapparts.specs.Limits.{plain}
use Rattle.mapparts.specs.Parts.{parts_fit, parts_fit_in}
use Rattle.maptypes.specs.Values.{bucket_of, step_of, pool_of, exception_of, pair_of, rule_of}
use Rattle.maptypes.specs.declared.exception.Exception.{Exception}
use Rattle.maptypes.specs.declared.exception.Pair.{Pair}
use Rattle.maptypes.specs.Pools.{PoolFacts}
use Rattle.maptypes.specs.Exceptions.{key_of, is_exception, target, sides, is_set, are_pairs}
use Rattle.osdmap.specs.Maps.{ClusterMap, has_rule}
use Rattle.keylist.specs.Keys.{is_distinct}
use Rattle.keylist.specs.Order.{IsRising}

-- ---- what is wrong with parts within the limits

-- the buckets of the forest, in the order of the text
abbrev pub buckets_of : MapParts → List Bucket
buckets_of p = map bucket_of p.buckets

-- no id twice, and each rule is one of the grammar that takes buckets of the forest
unfoldable pub rules_ok : MapParts → Bool
rules_ok p =
    is_distinct (map (λ r. nat_abs r.id) p.rules)
    && list_all (λ r. rule_ok r.kind (map step_of r.steps) (buckets_of p)) p.rules

-- no more groups for placement than groups, and a rule of the pool's kind
unfoldable pub pool_ok : List NumberedRule → PoolPart → Bool
pool_ok rules q = int_le q.pgp_num q.pg_num && has_rule rules (pool_of q)

-- no id twice, and each pool by itself
unfoldable pub pools_ok : MapParts → Bool
pools_ok p = is_distinct (map (λ q. nat_abs q.id) p.pools) && list_all (pool_ok (map rule_of p.rules)) p.pools

-- an OSD below max_osd that is up only where it exists
unfoldable pub osd_ok : ℕ → OsdPart → Bool
osd_ok max_osd o = nat_lt (nat_abs o.id) max_osd && (not o.up || o.exists)

-- no id twice, and each OSD by itself
unfoldable pub osds_ok : MapParts → Bool
osds_ok p = is_distinct (map (λ o. nat_abs o.id) p.osds) && list_all (osd_ok (nat_abs p.max_osd)) p.osds

-- whether an OSD is listed as existing
abbrev pub is_listed : List OsdPart → ℕ → Bool
is_listed osds n = option_map_or (λ o. o.exists) (find (λ o. nat_abs o.id == n) osds) false

-- no group twice, and each exception by itself
abbrev pub exceptions_ok : {E : Type 0} → (E → List ℕ) → (List E → Bool) → List PoolFacts → (ℕ → Bool) →
    List (Exception E) → Bool
exceptions_ok names sound pools exists es =
    is_distinct (map key_of es) && list_all (is_exception names sound pools exists) es

-- the explicit sets and the pairs that parts state, in the order of the text
abbrev pub explicit_of : MapParts → List (Exception ℕ)
explicit_of p = map (exception_of nat_abs) p.pg_upmap

-- the pairs that parts state, in the order of the text
abbrev pub items_of : MapParts → List (Exception Pair)
items_of p = map (exception_of pair_of) p.pg_upmap_items

-- the explicit sets and the pairs are in order
unfoldable pub all_exceptions_ok : MapParts → Bool
all_exceptions_ok p =
    exceptions_ok target is_set (map pool_of p.pools) (is_listed p.osds) (explicit_of p)
    && exceptions_ok sides are_pairs (map pool_of p.pools) (is_listed p.osds) (items_of p)

-- the first thing that is wrong: a limit, the forest, a rule, a pool, an OSD, an exception, each over the whole map
unfoldable pub map_fault : MapParts → Option Refusal
map_fault p =
    if not (parts_fit p) then Some BadLimit
    else if not (forest_ok (buckets_of p) (nat_abs p.max_osd)) then Some BadForest
    else if not (rules_ok p) then Some BadRule
    else if not (pools_ok p) then Some BadPool
    else if not (osds_ok p) then Some BadOsd
    else if not (all_exceptions_ok p) then Some BadException
    else None

-- of a plain cluster's: a limit of those too, else the same
abbrev pub plain_map_fault : MapParts → Option Refusal
plain_map_fault p = if not (parts_fit_in plain p) then Some BadLimit else map_fault p

-- ---- the map that parts state

-- what is listed of an OSD
abbrev pub listed_osd : List OsdPart → ℕ → Option OsdPart
listed_osd osds n = find (λ o. nat_abs o.id == n) osds

-- an OSD that is not listed does not exist, is down and has reweight 0
abbrev pub presence_in : List OsdPart → ℕ → Presence
presence_in osds n = option_map_or (λ o. record { exists = o.exists; up = o.up }) (listed_osd osds n) (record {
  exists = false;
  up = false;
})

-- the reweight of an OSD by its row among those that are listed, 0 where there is none
abbrev pub weight_in : List OsdPart → ℕ → ℕ
weight_in osds n = option_map_or (λ o. nat_abs o.weight) (listed_osd osds n) 0

-- the map has what the parts state: the buckets by id downwards, rules and pools by id upwards, each OSD by number, and
-- the exceptions by group upwards
pub record IsStated (p : MapParts) (m : ClusterMap) : Type 0 where
  pub epoch : m.epoch ≡ nat_abs p.epoch
  pub buckets : IsPermutation (buckets_of p) m.buckets
  pub falling : IsDescending m.buckets
  pub rules : IsPermutation (map rule_of p.rules) m.rules
  pub rules_rise : AllPairs (λ a b. a.id < b.id) m.rules
  pub pools : IsPermutation (map pool_of p.pools) m.pools
  pub pools_rise : AllPairs (λ a b. a.id < b.id) m.pools
  pub presences : m.presences ≡ map (presence_in p.osds) (range_with_len 0 (nat_abs p.max_osd))
  pub weights : m.weights ≡ map (weight_in p.osds) (range_with_len 0 (nat_abs p.max_osd))
  pub explicit : IsPermutation (explicit_of p) m.explicit
  pub explicit_rise : IsRising key_of m.explicit
  pub items : IsPermutation (items_of p) m.items
  pub items_rise : IsRising key_of m.items
