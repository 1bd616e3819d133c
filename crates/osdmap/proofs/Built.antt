-- A map that was built has what its parts state, and holds together.
use Rattle.std.proofs.Common.{cond, ◌≡◌, ◌∙◌, ℕ, ◌≤◌, Bool, true, false, not, ◌==◌, nat_lt, List, [], ◌∷◌, map, length, Option, Some, None, pos, nat_abs, refl, sym, ap, arith}
use Rattle.std.specs.Prelude.{◌||◌, nat_le, int_le}
use Rattle.std.specs.List.{list_all, range_with_len, All}
use Rattle.std.specs.Option.{option_map, option_map_or}
use Rattle.std.proofs.lemmas.Bool.Decides.{nat_tests}
use Rattle.std.proofs.lemmas.List.{length-map}
use Rattle.std.proofs.lemmas.Int.{ints}
use Rattle.std.proofs.lemmas.List.Elements.{All-nil, All-cons}
use Rattle.std.proofs.lemmas.List.Sorted.{length_permutation, sum_by-IsPermutation, IsPermutation-refl, All-permutation}
use Rattle.std.proofs.lemmas.List.Folds.{list_all-map}
use Rattle.std.proofs.lemmas.List.FromFn.{length-range_with_len}
use Rattle.crush.specs.WellFormed.{forest_ok}
use Rattle.crush.proofs.Sorted.{forest_ok-moved}
use Rattle.mapparts.specs.declared.parts.MapParts.{MapParts}
use Rattle.mapparts.specs.declared.parts.PoolPart.{PoolPart}
use Rattle.mapparts.specs.declared.parts.OsdPart.{OsdPart}
use Rattle.maptypes.specs.declared.rules.NumberedRule.{NumberedRule}
use Rattle.refusal.specs.declared.refused.Refusal.{Refusal}
use Rattle.refusal.specs.declared.refused.Refusal.TheVariants.{BadLimit, BadForest, BadRule, BadPool, BadOsd, BadException}
use Rattle.osdmap.specs.Maps.{ClusterMap, has_rule, is_kind, is_presence, HoldsTogether}
use Rattle.mapparts.specs.Parts.{is_between, has_between, bucket_fits, rule_fits, has_few_groups, pool_fits, osd_fits, is_osd_id, pair_fits, exceptions_fit, parts_fit, head_fits_in, lists_fit_in, parts_fit_in}
use Rattle.maptypes.specs.Values.{pool_of, rule_of}
use Rattle.maptypes.specs.Pools.{PoolFacts, total_groups, IsWithinLimits}
use Rattle.keylist.specs.Keys.{is_distinct}
use Rattle.osdmap.specs.Stated.{buckets_of, rules_ok, pool_ok, pools_ok, osd_ok, osds_ok, explicit_of, items_of, all_exceptions_ok, map_fault, listed_osd, presence_in, weight_in, IsStated}
use Rattle.refusal.specs.Outcomes.{refused_unless}
use Rattle.keylist.specs.Order.{Rises}
use Rattle.maptypes.specs.CrushMaps.{rules_fit, crush_fault, IsCrushMap, IsCrushOf}
use Rattle.osdmap.specs.Built.{pools_fit, osds_fit, state_of, rows_of, row_presence, row_weight}
use Rattle.keylist.proofs.Tests.{and_first, and_second}
use Rattle.maptypes.proofs.Totals.{sum_by-map}
use Rattle.mapparts.proofs.Within.{natural_between, pool_fits_each}
use Rattle.maptypes.proofs.Whole.{pool_within}
use Rattle.maptypes.proofs.Narrowed.{osd_weight_fits}
use Rattle.osdmap.proofs.PlacementLemmas.{found_passes}
use Rattle.keylist.proofs.Distinct.{distinct-moved, rising_distinct, find-moved, list_all-moved}
use Rattle.maptypes.proofs.Judged.{passed, refused}
use Rattle.keylist.proofs.Each.{all_more, all_so, list_all-agree, map-agree, map_twice}

-- ---- parts within the limits

pub record PartsFit (p : MapParts) : Type 0 where
  pub epoch : is_between (pos 1) (pos 2147483648) p.epoch ≡ true
  pub max_osd : is_between (pos 1) (pos 4096) p.max_osd ≡ true
  pub count : has_between 1 4096 p.buckets ≡ true
  pub rule_count : has_between 1 256 p.rules ≡ true
  pub pool_count : has_between 0 256 p.pools ≡ true
  pub buckets : list_all bucket_fits p.buckets ≡ true
  pub rules : list_all rule_fits p.rules ≡ true
  pub pools : list_all pool_fits p.pools ≡ true
  pub groups : has_few_groups p.pools ≡ true
  pub osds : list_all osd_fits p.osds ≡ true
  pub explicit : exceptions_fit is_osd_id p.pg_upmap ≡ true
  pub items : exceptions_fit pair_fits p.pg_upmap_items ≡ true

-- each part of a map that fits is within its limits
pub parts_fit_each : (p : MapParts) → parts_fit p ≡ true → PartsFit p
unfolding parts_fit_in head_fits_in lists_fit_in
parts_fit_each p h = record {
  epoch = grind arith;
  max_osd = grind arith;
  count = grind arith;
  rule_count = grind arith;
  pool_count = grind arith;
  buckets = grind arith;
  rules = grind arith;
  pools = grind arith;
  groups = grind arith;
  osds = grind arith;
  explicit = grind arith;
  items = grind arith;
}

-- a map has an OSD
pub some_osds : (p : MapParts) → PartsFit p → 1 ≤ nat_abs p.max_osd
some_osds p fits = (natural_between 1 4096 p.max_osd fits.max_osd).least

-- and at most 4,096
pub few_osds : (p : MapParts) → PartsFit p → nat_abs p.max_osd ≤ 4096
few_osds p fits = (natural_between 1 4096 p.max_osd fits.max_osd).most

-- ---- the same tests of what is made

-- a pool is served alike by the rules in either order
has_same : (given sorted : List NumberedRule) → Rises (λ r. r.id) given sorted → (q : PoolFacts) → has_rule sorted q ≡ has_rule given q
has_same given sorted rises q =
    let own = sym (distinct-moved (λ (r : NumberedRule). r.id) given sorted rises.same) ∙ rising_distinct (λ (r : NumberedRule). r.id) sorted rises.rising in
    let found = find-moved (λ (r : NumberedRule). r.id) given sorted rises.same own q.rule in
    ap (λ r. option_map_or (λ k. is_kind k.kind q.kind) (option_map (λ (n : NumberedRule). n.rule) r) false) found

-- a pool's rule is found in the rules in order as in those given
pool_same : (given sorted : List NumberedRule) → Rises (λ r. r.id) given sorted → (q : PoolPart) → pool_ok sorted q ≡ pool_ok given q
unfolding pool_ok
pool_same given sorted rises q = rw (has_same given sorted rises (pool_of q)) refl

-- so it is for all pools
pub pools_same : (p : MapParts) (sorted : List NumberedRule) → Rises (λ r. r.id) (map rule_of p.rules) sorted → pools_fit sorted p.pools ≡ pools_ok p
unfolding pools_ok
pools_same p sorted rises = rw (list_all-agree (pool_ok sorted) (pool_ok (map rule_of p.rules)) (pool_same (map rule_of p.rules) sorted rises)) refl

-- the OSDs are tested by the number of a map's OSDs
pub osds_same : (p : MapParts) → osds_fit (nat_abs p.max_osd) p.osds ≡ osds_ok p
unfolding osds_ok
osds_same p = refl

-- ---- what the first refusal is

-- a limit
pub fault_limit : (p : MapParts) → parts_fit p ≡ false → map_fault p ≡ Some BadLimit
unfolding map_fault
fault_limit p limits = rw limits refl

-- two tests, and what comes where both pass
first_of : (f r : Bool) (rest : Option Refusal) (e : Refusal)
    → cond (not f) (Some BadForest) (cond (not r) (Some BadRule) None) ≡ Some e → cond (not f) (Some BadForest) (cond (not r) (Some BadRule) rest) ≡ Some e
first_of true true rest e h = absurd (cc)
first_of true false rest e h = h
first_of false r rest e h = h

-- where forest and rules are refused nothing, the tests behind them decide
rest_of : (f r : Bool) (rest : Option Refusal) → cond (not f) (Some BadForest) (cond (not r) (Some BadRule) None) ≡ None
    → cond (not f) (Some BadForest) (cond (not r) (Some BadRule) rest) ≡ rest
rest_of true true rest h = refl
rest_of true false rest h = absurd (cc)
rest_of false r rest h = absurd (cc)

-- and the forest is right
forest_fine : (f r : Bool) → cond (not f) (Some BadForest) (cond (not r) (Some BadRule) None) ≡ None → f ≡ true
forest_fine true r h = refl
forest_fine false r h = absurd (cc)

-- the forest or a rule
pub fault_crush : (p : MapParts) (e : Refusal) → parts_fit p ≡ true → crush_fault p.buckets p.rules (nat_abs p.max_osd) ≡ Some e → map_fault p ≡ Some e
unfolding map_fault rules_ok
fault_crush p e limits h = rw limits (first_of (forest_ok (buckets_of p) (nat_abs p.max_osd)) (rules_fit (buckets_of p) p.rules) _ e h)

-- what is left to look at where these are in order
pub past_crush : (p : MapParts) (rest : Option Refusal) → parts_fit p ≡ true → crush_fault p.buckets p.rules (nat_abs p.max_osd) ≡ None
    → cond (not (pools_ok p)) (Some BadPool) (cond (not (osds_ok p)) (Some BadOsd) (cond (not (all_exceptions_ok p)) (Some BadException) None)) ≡ rest → map_fault p ≡ rest
unfolding map_fault rules_ok
past_crush p rest limits fine is = rw limits (rest_of (forest_ok (buckets_of p) (nat_abs p.max_osd)) (rules_fit (buckets_of p) p.rules) _ fine ∙ is)

-- a pool
pub fault_pool : (p : MapParts) (rules : List NumberedRule) (e : Refusal) → parts_fit p ≡ true
    → crush_fault p.buckets p.rules (nat_abs p.max_osd) ≡ None → Rises (λ r. r.id) (map rule_of p.rules) rules
    → refused_unless (pools_fit rules p.pools) BadPool ≡ Some e → map_fault p ≡ Some e
fault_pool p rules e limits fine rises h =
    let fails = refused (pools_fit rules p.pools) BadPool e h in
    let wrong = sym (pools_same p rules rises) ∙ fails in
    past_crush p (Some e) limits fine (rw wrong (rw fails at h))

-- an OSD
pub fault_osd : (p : MapParts) (rules : List NumberedRule) (e : Refusal) → parts_fit p ≡ true
    → crush_fault p.buckets p.rules (nat_abs p.max_osd) ≡ None → Rises (λ r. r.id) (map rule_of p.rules) rules
    → refused_unless (pools_fit rules p.pools) BadPool ≡ None
    → refused_unless (osds_fit (nat_abs p.max_osd) p.osds) BadOsd ≡ Some e → map_fault p ≡ Some e
fault_osd p rules e limits fine rises pooled h =
    let served = sym (pools_same p rules rises) ∙ passed _ _ pooled in
    let fails = refused (osds_fit (nat_abs p.max_osd) p.osds) BadOsd e h in
    let wrong = sym (osds_same p) ∙ fails in
    past_crush p (Some e) limits fine (rw (served, wrong) (rw fails at h))

-- ---- the map

-- what was found on the way
pub record IsBuilt (p : MapParts) (m : ClusterMap) : Type 0 where
  pub limits : parts_fit p ≡ true
  pub epoch : m.epoch ≡ nat_abs p.epoch
  pub grown : crush_fault p.buckets p.rules (nat_abs p.max_osd) ≡ None
  pub crush : IsCrushMap (record { buckets = m.buckets; rules = m.rules })
  pub stated : IsCrushOf p.buckets p.rules (record { buckets = m.buckets; rules = m.rules })
  pub served : refused_unless (pools_fit m.rules p.pools) BadPool ≡ None
  pub pools : Rises (λ q. q.id) (map pool_of p.pools) m.pools
  pub entered : refused_unless (osds_fit (nat_abs p.max_osd) p.osds) BadOsd ≡ None
  pub presences : m.presences ≡ map row_presence (rows_of p.osds (nat_abs p.max_osd))
  pub weights : m.weights ≡ map row_weight (rows_of p.osds (nat_abs p.max_osd))
  pub explicit : m.explicit ≡ []
  pub items : m.items ≡ []

-- a map that is built, with right exceptions, has no fault
pub no_fault : (p : MapParts) (m : ClusterMap) → IsBuilt p m → all_exceptions_ok p ≡ true → map_fault p ≡ None
no_fault p m built excepted =
    let served = sym (pools_same p m.rules built.stated.rules) ∙ passed _ _ built.served in
    let entered = sym (osds_same p) ∙ passed _ _ built.entered in
    past_crush p None built.limits built.grown (rw (served, entered, excepted) refl)

-- a row tells the presence that the parts state
presence_same : (osds : List OsdPart) (n : ℕ) → row_presence (option_map state_of (listed_osd osds n)) ≡ presence_in osds n
presence_same osds n = by_listed (listed_osd osds n)
  where
    by_listed : (o : Option OsdPart) → row_presence (option_map state_of o) ≡ option_map_or (λ o. record { exists = o.exists; up = o.up }) o (record { exists = false; up = false })
    by_listed None = refl
    by_listed (Some o) = refl

-- and the reweight
weight_same : (osds : List OsdPart) (n : ℕ) → row_weight (option_map state_of (listed_osd osds n)) ≡ weight_in osds n
weight_same osds n = by_listed (listed_osd osds n)
  where
    by_listed : (o : Option OsdPart) → row_weight (option_map state_of o) ≡ option_map_or (λ o. nat_abs o.weight) o 0
    by_listed None = refl
    by_listed (Some o) = refl

-- the rows tell all presences that the parts state
pub presences_same : (osds : List OsdPart) (max_osd : ℕ) → map row_presence (rows_of osds max_osd) ≡ map (presence_in osds) (range_with_len 0 max_osd)
presences_same osds max_osd = map_twice row_presence _ (range_with_len 0 max_osd) ∙ map-agree _ _ (presence_same osds) (range_with_len 0 max_osd)

-- and all reweights
pub weights_same : (osds : List OsdPart) (max_osd : ℕ) → map row_weight (rows_of osds max_osd) ≡ map (weight_in osds) (range_with_len 0 max_osd)
weights_same osds max_osd = map_twice row_weight _ (range_with_len 0 max_osd) ∙ map-agree _ _ (weight_same osds) (range_with_len 0 max_osd)

-- a map that is built of parts without exceptions is the one that they state
pub is_stated : (p : MapParts) (m : ClusterMap) → IsBuilt p m → explicit_of p ≡ [] → items_of p ≡ [] → IsStated p m
is_stated p m built no_explicit no_items = record {
  epoch = built.epoch;
  buckets = built.stated.buckets.same;
  falling = built.stated.buckets.falling;
  rules = built.stated.rules.same;
  rules_rise = built.stated.rules.rising;
  pools = built.pools.same;
  pools_rise = built.pools.rising;
  presences = built.presences ∙ presences_same p.osds (nat_abs p.max_osd);
  weights = built.weights ∙ weights_same p.osds (nat_abs p.max_osd);
  explicit = rw (built.explicit, no_explicit) (IsPermutation-refl []);
  explicit_rise = rw built.explicit (λ i j d below inside. absurd (omega arith));
  items = rw (built.items, no_items) (IsPermutation-refl []);
  items_rise = rw built.items (λ i j d below inside. absurd (omega arith));
}

-- each pool of a map that is built has its rule
ruled : (p : MapParts) (m : ClusterMap) → IsBuilt p m → list_all (has_rule m.rules) m.pools ≡ true
unfolding pool_ok
ruled p m built =
    let all = and_second (is_distinct (map (λ (q : PoolPart). nat_abs q.id) p.pools)) (list_all (pool_ok m.rules) p.pools) (passed _ _ built.served) in
    let each = all_more (pool_ok m.rules) (λ q. has_rule m.rules (pool_of q)) p.pools (λ q h. and_second _ (has_rule m.rules (pool_of q)) h) all in
    list_all-moved (has_rule m.rules) (map pool_of p.pools) m.pools built.pools.same ∙ list_all-map (has_rule m.rules) pool_of p.pools ∙ each

-- a pool that fits and has its rule is within the limits
one_within : (rules : List NumberedRule) (q : PoolPart) → pool_fits q ≡ true → pool_ok rules q ≡ true → IsWithinLimits (pool_of q)
unfolding pool_ok
one_within rules q fits ok =
    let few : int_le q.pgp_num q.pg_num ≡ true = and_first (int_le q.pgp_num q.pg_num) (has_rule rules (pool_of q)) ok in
    pool_within q (pool_fits_each q fits) (grind (arith, ints, few))

-- so is each of a list
each_within : (rules : List NumberedRule) (qs : List PoolPart) → list_all pool_fits qs ≡ true → list_all (pool_ok rules) qs ≡ true → All IsWithinLimits (map pool_of qs)
each_within rules [] fit ok = All-nil IsWithinLimits
each_within rules (q ∷ qs) fit ok =
    All-cons IsWithinLimits (pool_of q) (map pool_of qs) (one_within rules q (and_first (pool_fits q) (list_all pool_fits qs) fit) (and_first (pool_ok rules q) (list_all (pool_ok rules) qs) ok))
    (each_within rules qs (and_second (pool_fits q) (list_all pool_fits qs) fit) (and_second (pool_ok rules q) (list_all (pool_ok rules) qs) ok))

-- and each of a map that is built
pools_within : (p : MapParts) (m : ClusterMap) → IsBuilt p m → list_all pool_fits p.pools ≡ true → All IsWithinLimits m.pools
pools_within p m built fit =
    let ok = and_second (is_distinct (map (λ (q : PoolPart). nat_abs q.id) p.pools)) (list_all (pool_ok m.rules) p.pools) (passed _ _ built.served) in
    All-permutation IsWithinLimits (map pool_of p.pools) m.pools built.pools.same (each_within m.rules p.pools fit ok)

-- ---- OSDs

-- an OSD that is up exists
up_fine : (max_osd : ℕ) (o : OsdPart) → osd_ok max_osd o ≡ true → (not o.up || o.exists) ≡ true
unfolding osd_ok
up_fine max_osd o h = and_second (nat_lt (nat_abs o.id) max_osd) (not o.up || o.exists) h

-- no row says up of an OSD that does not exist
row_present : (max_osd : ℕ) (osds : List OsdPart) → list_all (osd_ok max_osd) osds ≡ true → (n : ℕ) → is_presence (row_presence (option_map state_of (listed_osd osds n))) ≡ true
row_present max_osd osds fit n = by_listed (listed_osd osds n) refl
  where
    by_listed : (o : Option OsdPart) → listed_osd osds n ≡ o → is_presence (row_presence (option_map state_of o)) ≡ true
    by_listed None is = refl
    by_listed (Some o) is = up_fine max_osd o (found_passes (λ (p : OsdPart). nat_abs p.id == n) (osd_ok max_osd) osds o is fit)

-- no row has a reweight above 65,536
row_little : (osds : List OsdPart) → list_all osd_fits osds ≡ true → (n : ℕ) → nat_le (row_weight (option_map state_of (listed_osd osds n))) 65536 ≡ true
row_little osds fit n = by_listed (listed_osd osds n) refl
  where
    by_listed : (o : Option OsdPart) → listed_osd osds n ≡ o → nat_le (row_weight (option_map state_of o)) 65536 ≡ true
    by_listed None is = refl
    by_listed (Some o) is =
        let little = (natural_between 0 65536 o.weight (osd_weight_fits o (found_passes (λ (p : OsdPart). nat_abs p.id == n) osd_fits osds o is fit))).most in
        grind (arith, nat_tests, little)

-- in a map that is built no OSD is up that does not exist
present : (p : MapParts) (m : ClusterMap) → IsBuilt p m → list_all is_presence m.presences ≡ true
present p m built =
    let fit = and_second (is_distinct (map (λ (o : OsdPart). nat_abs o.id) p.osds)) (list_all (osd_ok (nat_abs p.max_osd)) p.osds) (passed _ _ built.entered) in
    let rows = rows_of p.osds (nat_abs p.max_osd) in
    ap (list_all is_presence) built.presences ∙ list_all-map is_presence row_presence rows
    ∙ list_all-map (λ r. is_presence (row_presence r)) (λ n. option_map state_of (listed_osd p.osds n)) (range_with_len 0 (nat_abs p.max_osd))
    ∙ all_so _ (row_present (nat_abs p.max_osd) p.osds fit) (range_with_len 0 (nat_abs p.max_osd))

-- and no reweight is above 65,536
weigh_little : (p : MapParts) (m : ClusterMap) → IsBuilt p m → list_all osd_fits p.osds ≡ true → list_all (λ w. nat_le w 65536) m.weights ≡ true
weigh_little p m built fit =
    let rows = rows_of p.osds (nat_abs p.max_osd) in
    ap (list_all (λ w. nat_le w 65536)) built.weights ∙ list_all-map (λ w. nat_le w 65536) row_weight rows
    ∙ list_all-map (λ r. nat_le (row_weight r) 65536) (λ n. option_map state_of (listed_osd p.osds n)) (range_with_len 0 (nat_abs p.max_osd))
    ∙ all_so _ (row_little p.osds fit) (range_with_len 0 (nat_abs p.max_osd))

-- ---- all of it

-- and there are at most 256 pools
few_pools : (p : MapParts) (m : ClusterMap) → IsBuilt p m → has_between 0 256 p.pools ≡ true → length m.pools ≤ 256
unfolding has_between
few_pools p m built few =
    let made = length_permutation _ _ built.pools.same ∙ length-map p.pools pool_of in
    grind (arith, nat_tests, made)

-- nor have they more groups together than a map may have
few_groups : (p : MapParts) (m : ClusterMap) → IsBuilt p m → has_few_groups p.pools ≡ true → total_groups m.pools ≤ 1048576
unfolding has_few_groups
few_groups p m built few =
    let made = sum_by-IsPermutation (λ (q : PoolFacts). q.pg_num) _ _ built.pools.same ∙ sum_by-map (λ (q : PoolFacts). q.pg_num) pool_of p.pools in
    grind (arith, nat_tests, made)

-- a map that is built holds together
pub holds : (p : MapParts) (m : ClusterMap) → IsBuilt p m → HoldsTogether m
holds p m built =
    let rows = rows_of p.osds (nat_abs p.max_osd) in
    let many : length m.presences ≡ nat_abs p.max_osd = ap length built.presences ∙ length-map rows row_presence ∙ length-map (range_with_len 0 (nat_abs p.max_osd)) _ ∙ length-range_with_len 0 (nat_abs p.max_osd) in
    let each = parts_fit_each p built.limits in
    record {
      osds = record {
        some = rw many (some_osds p each);
        few = rw many (few_osds p each);
        present = present p m built;
        weighed = ap length built.weights ∙ length-map rows row_weight ∙ sym (ap length built.presences ∙ length-map rows row_presence);
        weigh_little = weigh_little p m built each.osds;
      };
      crush = built.crush;
      over_osds = rw many (forest_ok-moved (buckets_of p) m.buckets built.stated.buckets.same (nat_abs p.max_osd) ∙ forest_fine _ (rules_fit (buckets_of p) p.rules) built.grown);
      pools = record {
        few = few_pools p m built each.pool_count;
        rise = built.pools.rising;
        within = pools_within p m built each.pools;
        few_groups = few_groups p m built each.groups;
      };
      ruled = ruled p m built;
      explicit = record { rise = rw built.explicit (λ i j d below inside. absurd (omega arith)); sound = rw built.explicit refl };
      items = record { rise = rw built.items (λ i j d below inside. absurd (omega arith)); sound = rw built.items refl };
    }
