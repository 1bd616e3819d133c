-- The parts of a map in which all holds state that map, and nothing is wrong with them.
use Rattle.std.proofs.Common.{◌≡◌, ◌∙◌, ℕ, suc, ◌≤◌, ◌==◌, pos, nat_abs, Bool, true, false, cond, ◌&&◌, nat_lt, List, [], ◌∷◌, map, length, Option, Some, None, refl, sym, ap, arith}
use mathlib.Core.Bool.{false≢true}
use Rattle.std.specs.Prelude.{nat_le, int_le}
use Rattle.std.specs.List.{list_all, list_any, All}
use Rattle.std.proofs.lemmas.Bool.Decides.{nat_tests}
use Rattle.std.proofs.lemmas.List.Folds.{list_all-map}
use Rattle.std.proofs.lemmas.List.Sorted.{IsPermutation-refl}
use Rattle.std.proofs.lemmas.List.Sums.{AllPass-from_list_all}
use Rattle.crush.specs.WellFormed.{forest_ok}
use Rattle.crush.specs.Grammar.{sets_tries, rule_ok}
use Rattle.keylist.proofs.Counts.{find-place}
use Rattle.maptypes.specs.declared.exception.Exception.{Exception}
use Rattle.maptypes.specs.declared.exception.Pair.{Pair}
use Rattle.mapparts.specs.declared.parts.PoolPart.{PoolPart}
use Rattle.mapparts.specs.declared.parts.RulePart.{RulePart}
use Rattle.maptypes.specs.declared.rules.NumberedRule.{NumberedRule}
use Rattle.maptypes.specs.Exceptions.{key_of, has_group, all_named, is_sound, is_exception, target, sides, is_set, are_pairs}
use Rattle.keylist.specs.Keys.{is_distinct, entry_at}
use Rattle.keylist.specs.Order.{IsRising}
use Rattle.maptypes.specs.CrushMaps.{is_rule_over}
use Rattle.osdmap.specs.Maps.{ClusterMap, osd_exists, has_rule, HoldsTogether}
use Rattle.mapparts.specs.Parts.{is_between, pg_fits, is_osd_id, pair_fits, exception_fits, exceptions_fit, parts_fit, entries_fit_in, exception_fits_in, head_fits_in, is_osd_id_in, lists_fit_in, pair_fits_in, parts_fit_in}
use Rattle.maptypes.specs.Values.{bucket_of, step_of, pool_of, pair_of, exception_of, rule_of}
use Rattle.osdmap.specs.PartsOf.{bucket_part, step_part, rule_part, pool_part, pair_part, exception_part, version_of, parts_of}
use Rattle.maptypes.specs.Incrementals.{Step}
use Rattle.osdmap.specs.Changes.{change_fault, apply}
use Rattle.map_laws.specs.Laws.{IsTextEpoch, StatesItself}
use Rattle.maptypes.specs.Pools.{PoolFacts, IsWithinLimits}
use Rattle.osdmap.specs.Stated.{buckets_of, rules_ok, pool_ok, pools_ok, osds_ok, is_listed, exceptions_ok, explicit_of, items_of, all_exceptions_ok, map_fault, IsStated}
use Rattle.keylist.proofs.Tests.{and_first, and_second}
use Rattle.osdmap.proofs.Named.{below_max}
use Rattle.keylist.proofs.Distinct.{rising_distinct}
use Rattle.osdmap.proofs.Excepted.{exists_same, exceptions_same}
use Rattle.maptypes.specs.Ordered.{IsChange}
use Rattle.osdmap.proofs.Kept.{HoldsTogether-after}
use Rattle.map_laws.proofs.FewExceptions.{few_exceptions}
use Rattle.mapjson.proofs.OwnValues.{natural_fits, map_own, bucket_own, step_own, rule_own, pool_own, number_own, pair_own, exception_own}
use Rattle.map_laws.proofs.OwnFits.{count_fits, buckets_fine, rules_fine, pools_fine, groups_fine}
use Rattle.mapjson.proofs.OwnOsds.{own_distinct, own_ok, own_fit, own_presences, own_weights}
use Rattle.keylist.proofs.Each.{all_more, map_twice}

-- ---- values that state themselves

-- the version of a map's own parts is one that a map may have
version_fine : (rules : List NumberedRule) → is_between (pos 1) (pos 2) (version_of rules) ≡ true
version_fine rules = by_tries (list_any (λ r. list_any sets_tries r.rule.steps) rules)
  where
    by_tries : (set : Bool) → is_between (pos 1) (pos 2) (cond set (pos 2) (pos 1)) ≡ true
    by_tries true = natural_fits 1 2 2 (omega arith) (omega arith)
    by_tries false = natural_fits 1 2 1 (omega arith) (omega arith)

module _ (m : ClusterMap) where
  -- the buckets of its own parts are those of the map
  buckets_own : buckets_of (parts_of m) ≡ m.buckets
  unfolding parts_of
  buckets_own = map_own bucket_of bucket_part bucket_own m.buckets

  -- the rules of its own parts are its rules
  rules_own : map rule_of (parts_of m).rules ≡ m.rules
  unfolding parts_of
  rules_own = map_own rule_of rule_part rule_own m.rules

  -- the pools of its own parts are its pools
  pools_own : map pool_of (parts_of m).pools ≡ m.pools
  unfolding parts_of
  pools_own = map_own pool_of pool_part pool_own m.pools

  -- the explicit sets of its own parts are its explicit sets
  explicit_own : explicit_of (parts_of m) ≡ m.explicit
  unfolding parts_of
  explicit_own = map_own (exception_of nat_abs) (exception_part pos) (exception_own nat_abs pos number_own) m.explicit

  -- the pairs of its own parts are its pairs
  items_own : items_of (parts_of m) ≡ m.items
  unfolding parts_of
  items_own = map_own (exception_of pair_of) (exception_part pair_part) (exception_own pair_of pair_part pair_own) m.items

-- ---- exceptions within their limits

module _ (m : ClusterMap) (holds : HoldsTogether m) where
  module _ {E P : Type 0} (names : E → List ℕ) (sound : List E → Bool) (entry_part : E → P) (fits : P → Bool) (each : (entry : E) → list_all (osd_exists m) (names entry) ≡ true → fits (entry_part entry) ≡ true) where
    -- of a pool that is there
    record IsOfPool (e : Exception E) : Type 0 where
      some : 1 ≤ e.pg.pool
      most : e.pg.pool ≤ 65535
      few : length e.entries ≤ 20

    -- an exception of the map is of a pool that is there
    of_pool : (e : Exception E) → is_exception names sound m.pools (osd_exists m) e ≡ true → IsOfPool e
    of_pool e h = by_pool (entry_at (λ (q : PoolFacts). q.id) m.pools e.pg.pool) refl (and_second (has_group m.pools e.pg && all_named names (osd_exists m) e) (is_sound sound m.pools e) h)
      where
        by_pool : (o : Option PoolFacts) → entry_at (λ (q : PoolFacts). q.id) m.pools e.pg.pool ≡ o → is_sound sound m.pools e ≡ true → IsOfPool e
        by_pool None is soundly = absurd (false≢true (rw is at soundly))
        by_pool (Some p) is soundly =
            let there = find-place (λ (q : PoolFacts). q.id == e.pg.pool) m.pools p is in
            let within : IsWithinLimits p = rw there.2 at (holds.pools.within there.0 p there.1) in
            let same : (p.id == e.pg.pool) ≡ true = there.3 in
            let says : (nat_lt 0 (length e.entries) && nat_le (length e.entries) p.size && sound e.entries) ≡ true = rw is at soundly in
            record {
              some = grind (arith, nat_tests, same, within.id_some);
              most = grind (arith, nat_tests, same, within.id_most);
              few = grind (arith, nat_tests, says, within.size_most);
            }

    -- its part is within the limits
    one_fits : (e : Exception E) → is_exception names sound m.pools (osd_exists m) e ≡ true → exception_fits fits (exception_part entry_part e) ≡ true
    unfolding exception_fits_in pg_fits
    one_fits e h =
        let pool = of_pool e h in
        let named = and_second (has_group m.pools e.pg) (all_named names (osd_exists m) e) (and_first (has_group m.pools e.pg && all_named names (osd_exists m) e) (is_sound sound m.pools e) h) in
        let count = count_fits entry_part 0 20 e.entries (omega arith) pool.few in
        let entries = list_all-map fits entry_part e.entries ∙ all_more (λ entry. list_all (osd_exists m) (names entry)) (λ entry. fits (entry_part entry)) e.entries each named in
        rw (count, entries) (grind (arith, nat_tests, pool.some, pool.most))

    -- so are the parts of exceptions whose groups rise, and these are not too many
    pub exceptions_fine : (es : List (Exception E)) → IsRising key_of es → list_all (is_exception names sound m.pools (osd_exists m)) es ≡ true → exceptions_fit fits (map (exception_part entry_part) es) ≡ true
    unfolding entries_fit_in
    exceptions_fine es rises all =
        let there = AllPass-from_list_all (λ e. has_group m.pools e.pg) es
        (all_more (is_exception names sound m.pools (osd_exists m)) (λ e. has_group m.pools e.pg) es
        (λ e h. and_first (has_group m.pools e.pg) (all_named names (osd_exists m) e) (and_first (has_group m.pools e.pg && all_named names (osd_exists m) e) (is_sound sound m.pools e) h)) all) in
        let few = few_exceptions m.pools es holds.pools.within rises there in
        let count = count_fits (exception_part entry_part) 0 1048576 es (omega arith) (omega (arith, few, holds.pools.few_groups)) in
        let entries = list_all-map (exception_fits fits) (exception_part entry_part) es ∙ all_more (is_exception names sound m.pools (osd_exists m)) (λ e. exception_fits fits (exception_part entry_part e)) es one_fits all in
        rw (count, entries) refl

  -- an OSD that exists has a number within the limits
  pub osd_fine : (osd : ℕ) → osd_exists m osd ≡ true → is_osd_id (pos osd) ≡ true
  unfolding is_osd_id_in
  osd_fine osd there =
      let below = below_max m osd (length m.presences) (omega arith) there in
      natural_fits 0 4095 osd (omega arith) (grind (arith, nat_tests, below, holds.osds.few))

  -- so has one that a set names, if it exists
  pub target_fine : (osd : ℕ) → list_all (osd_exists m) (target osd) ≡ true → is_osd_id (pos osd) ≡ true
  target_fine osd there = osd_fine osd (and_first (osd_exists m osd) true there)

  -- a pair of OSDs that exist is within the limits
  pub pair_fine : (p : Pair) → list_all (osd_exists m) (sides p) ≡ true → pair_fits (pair_part p) ≡ true
  unfolding pair_fits_in
  pair_fine p there =
      rw (
        osd_fine p.from (and_first (osd_exists m p.from) (osd_exists m p.to && true) there),
        osd_fine p.to (and_first (osd_exists m p.to) true (and_second (osd_exists m p.from) (osd_exists m p.to && true) there)),
      ) refl

  -- ---- each test

  -- the parts of a map whose epoch a text may have are within the limits
  own_limits : 1 ≤ m.epoch → m.epoch ≤ 2147483648 → parts_fit (parts_of m) ≡ true
  unfolding parts_fit_in head_fits_in lists_fit_in parts_of
  own_limits some most =
      rw (
        version_fine m.rules,
        natural_fits 1 2147483648 m.epoch some most,
        natural_fits 1 4096 (length m.presences) holds.osds.some holds.osds.few,
        count_fits bucket_part 1 4096 m.buckets (grind (arith, nat_tests, holds.crush.forest.limits)) (grind (arith, nat_tests, holds.crush.forest.limits)),
        count_fits rule_part 1 256 m.rules holds.crush.some_rules holds.crush.few_rules,
        count_fits pool_part 0 256 m.pools (omega arith) holds.pools.few,
        buckets_fine m.buckets (grind (arith, holds.crush.forest.limits)) (grind (arith, holds.over_osds)),
        rules_fine m.buckets m.rules holds.crush.rules_over,
        pools_fine m.pools holds.pools.within,
        groups_fine m.pools holds.pools.few_groups,
        own_fit m holds,
        exceptions_fine target is_set pos is_osd_id target_fine m.explicit holds.explicit.rise holds.explicit.sound,
        exceptions_fine sides are_pairs pair_part pair_fits pair_fine m.items holds.items.rise holds.items.sound,
      ) refl

  -- their buckets pass as a forest
  own_forest : forest_ok (buckets_of (parts_of m)) (nat_abs (parts_of m).max_osd) ≡ true
  unfolding parts_of
  own_forest = rw (buckets_own m) holds.over_osds

  -- a rule that is lawful over the buckets of the map is so over those of its parts
  one_rule : (r : NumberedRule) → is_rule_over m.buckets r ≡ true → rule_ok r.rule.kind (map step_of (map step_part r.rule.steps)) (buckets_of (parts_of m)) ≡ true
  unfolding is_rule_over
  one_rule r h = rw (map_own step_of step_part step_own r.rule.steps, buckets_own m) (grind (arith, h))

  -- their rules pass
  own_rules : rules_ok (parts_of m) ≡ true
  unfolding rules_ok parts_of
  own_rules =
      let distinct = ap is_distinct (map_twice (λ (r : RulePart). nat_abs r.id) rule_part m.rules) ∙ rising_distinct (λ (r : NumberedRule). r.id) m.rules holds.crush.rules_rise in
      let lawful = list_all-map (λ (r : RulePart). rule_ok r.kind (map step_of r.steps) (buckets_of (parts_of m))) rule_part m.rules ∙ all_more (is_rule_over m.buckets) _ m.rules one_rule holds.crush.rules_over in
      rw (distinct, lawful) refl

  -- pools within their limits, each with its rule, pass as parts
  each_pool : (pools : List PoolFacts) → All IsWithinLimits pools → list_all (has_rule m.rules) pools ≡ true → list_all (pool_ok (map rule_of (parts_of m).rules)) (map pool_part pools) ≡ true
  unfolding pool_ok
  each_pool [] within ruled = refl
  each_pool (p ∷ ps) within ruled =
      let here : IsWithinLimits p = within 0 p (omega arith) in
      let rest = each_pool ps (λ k d inside. within (suc k) d (omega arith)) (and_second (has_rule m.rules p) (list_all (has_rule m.rules) ps) ruled) in
      let few : int_le (pos p.pgp_num) (pos p.pg_num) ≡ true = grind (arith, nat_tests, here.groups_few) in
      let served : has_rule (map rule_of (parts_of m).rules) p ≡ true = rw (rules_own m) (and_first (has_rule m.rules p) (list_all (has_rule m.rules) ps) ruled) in
      rw (few, served, rest) refl

  -- their pools pass
  own_pools : pools_ok (parts_of m) ≡ true
  unfolding pools_ok parts_of
  own_pools =
      let distinct = ap is_distinct (map_twice (λ (q : PoolPart). nat_abs q.id) pool_part m.pools) ∙ rising_distinct (λ (p : PoolFacts). p.id) m.pools holds.pools.rise in
      rw (distinct, each_pool m.pools holds.pools.within holds.ruled) refl

  -- their OSDs pass
  own_osds : osds_ok (parts_of m) ≡ true
  unfolding osds_ok parts_of
  own_osds = rw (own_distinct m, own_ok m holds) refl

  -- they list just the OSDs that exist
  listed_same : (n : ℕ) → is_listed (parts_of m).osds n ≡ osd_exists m n
  unfolding parts_of
  listed_same n = sym (exists_same (parts_of m).osds (length m.presences) m (own_presences m holds) (own_ok m holds) n)

  -- exceptions that are right in the map pass as parts
  each_exception : {E : Type 0} (names : E → List ℕ) (sound : List E → Bool) (es : List (Exception E)) → IsRising key_of es → list_all (is_exception names sound m.pools (osd_exists m)) es ≡ true
      → exceptions_ok names sound m.pools (is_listed (parts_of m).osds) es ≡ true
  each_exception names sound es rises all =
      exceptions_same names sound m.pools m.pools (is_listed (parts_of m).osds) (osd_exists m) (λ k. refl) listed_same es
      ∙ rw (rising_distinct key_of es rises, all) refl

  -- their explicit sets and pairs pass
  own_exceptions : all_exceptions_ok (parts_of m) ≡ true
  unfolding all_exceptions_ok
  own_exceptions =
      rw (
        pools_own m,
        explicit_own m,
        items_own m,
        each_exception target is_set m.explicit holds.explicit.rise holds.explicit.sound,
        each_exception sides are_pairs m.items holds.items.rise holds.items.sound,
      ) refl

  -- ---- all of it

  -- nothing is wrong with the parts of a map whose epoch a text may have
  own_faultless : 1 ≤ m.epoch → m.epoch ≤ 2147483648 → map_fault (parts_of m) ≡ None
  unfolding map_fault
  own_faultless some most = rw (own_limits some most, own_forest, own_rules, own_pools, own_osds, own_exceptions) refl

  -- they state the map
  own_stated : IsStated (parts_of m) m
  unfolding parts_of
  own_stated = record {
    epoch = refl;
    buckets = rw (buckets_own m) (IsPermutation-refl m.buckets);
    falling = holds.crush.forest.descending;
    rules = rw (rules_own m) (IsPermutation-refl m.rules);
    rules_rise = holds.crush.rules_rise;
    pools = rw (pools_own m) (IsPermutation-refl m.pools);
    pools_rise = holds.pools.rise;
    presences = own_presences m holds;
    weights = own_weights m holds;
    explicit = rw (explicit_own m) (IsPermutation-refl m.explicit);
    explicit_rise = holds.explicit.rise;
    items = rw (items_own m) (IsPermutation-refl m.items);
    items_rise = holds.items.rise;
  }

  -- so a map whose epoch a text may have states itself
  pub states_itself : IsTextEpoch m.epoch → StatesItself m
  states_itself within = record { faultless = own_faultless within.0 within.1; stated = own_stated }

-- the map after a change that is not refused is the one that its own parts state
pub states_itself_after : (m : ClusterMap) (step : Step) → HoldsTogether m → IsChange step.change → change_fault m step.change ≡ None → IsTextEpoch step.epoch → StatesItself (apply m step)
unfolding apply
states_itself_after m step holds is lawful epoch = states_itself (apply m step) (HoldsTogether-after m step lawful is holds) (epoch_is epoch)
  where
    epoch_is : IsTextEpoch step.epoch → IsTextEpoch (apply m step).epoch
    epoch_is e = e
