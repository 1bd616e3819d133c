-- The parts of a change state that change, and nothing is wrong with them where they are within the limits.
use Rattle.std.proofs.Common.{◌≡◌, ◌∙◌, ℕ, ◌^◌, ◌<◌, pos, nat_abs, true, List, map, Option, Some, None, refl, ap, arith}
use Rattle.std.specs.Prelude.{IfSome, option_map}
use Rattle.std.proofs.lemmas.Bool.Decides.{nat_tests}
use Rattle.std.proofs.lemmas.List.Elements.{All-weaker}
use Rattle.std.proofs.lemmas.List.Folds.{list_all-map}
use Rattle.std.proofs.lemmas.List.Sorted.{IsPermutation-refl}
use Rattle.std.proofs.lemmas.List.Sums.{list_all-from_AllPass}
use Rattle.crush.specs.WellFormed.{forest_ok}
use Rattle.keylist.specs.Keys.{is_distinct}
use Rattle.keylist.proofs.Each.{all_more, map_twice}
use Rattle.keylist.proofs.Distinct.{rising_distinct}
use Rattle.mapparts.specs.declared.parts.RulePart.{RulePart}
use Rattle.mapparts.specs.Parts.{has_enough_groups, grows_evenly}
use Rattle.mapparts.specs.declared.limits.Limits.{Limits}
use Rattle.mapparts.specs.Profiles.{limits_of}
use Rattle.maptypes.specs.declared.change.ChangeParts.{ChangeParts}
use Rattle.maptypes.specs.declared.rules.NumberedRule.{NumberedRule}
use Rattle.maptypes.specs.CrushMaps.{CrushFacts, is_rule_over, is_lawful, IsCrushMap, IsCrushOf}
use Rattle.maptypes.specs.Exceptions.{pg_key, key_of}
use Rattle.maptypes.specs.Growth.{Growth, IsGrowth}
use Rattle.maptypes.specs.Ordered.{IsInOrder, IsChange, IsOrdered}
use Rattle.maptypes.specs.Pools.{PoolFacts, IsWithinLimits}
use Rattle.maptypes.specs.Values.{bucket_of, step_of, rule_of, pool_of, growth_of, pg_of, pair_of, exception_of}
use Rattle.osdmap.specs.PartsOf.{bucket_part, step_part, rule_part, pool_part, pg_part, pair_part, exception_part}
use Rattle.mapparts.specs.Changes.{change_fits_in, are_even}
use Rattle.mapjson.specs.ChangeTexts.{reweight_within, parts_within, new_crush_fault, IsCrushStated, change_fault_in, IsChangeStated}
use Rattle.mapjson.specs.PartsOfChange.{growth_part, reweight_part, crush_parts, change_parts}
use Rattle.mapjson.proofs.OwnValues.{natural_fits, map_own, bucket_own, step_own, rule_own, pool_own, number_own, pair_own, exception_own}
use Rattle.map_laws.proofs.OneMap.{one_rising, one_falling}
use Rattle.map_laws.proofs.OneSort.{sorts_itself, sorts_alone}

-- ---- the CRUSH map

module _ (k : CrushFacts) where
  -- the buckets of a CRUSH map's own parts are its buckets
  buckets_own : map bucket_of (crush_parts k).buckets ≡ k.buckets
  buckets_own = map_own bucket_of bucket_part bucket_own k.buckets

  -- their rules are its rules
  rules_own : map rule_of (crush_parts k).rules ≡ k.rules
  rules_own = map_own rule_of rule_part rule_own k.rules

  -- it is the one that its parts state
  crush_own : IsCrushMap k → IsCrushOf (crush_parts k).buckets (crush_parts k).rules k
  crush_own is = record {
    buckets = rw buckets_own (record { same = IsPermutation-refl k.buckets; falling = is.forest.descending; found = λ id. refl });
    rules = rw rules_own (record { same = IsPermutation-refl k.rules; rising = is.rules_rise });
  }

  -- and no other is
  crush_alone : (j : CrushFacts) → IsCrushMap k → IsCrushOf (crush_parts k).buckets (crush_parts k).rules j → j ≡ k
  crush_alone j is of =
      let buckets = one_falling k.buckets j.buckets k.buckets (rw buckets_own at of.buckets.same) (IsPermutation-refl k.buckets) of.buckets.falling is.forest.descending in
      let rules = one_rising (λ r. r.id) k.rules j.rules k.rules (rw rules_own at of.rules.same) (IsPermutation-refl k.rules) of.rules.rising is.rules_rise in
      λ i. record { buckets = buckets i; rules = rules i }

  -- a rule that is lawful over its buckets is so over those of its parts
  one_rule : (r : NumberedRule) → is_rule_over k.buckets r ≡ true → is_lawful (map bucket_of (crush_parts k).buckets) (rule_part r) ≡ true
  unfolding is_rule_over
  one_rule r h = rw (map_own step_of step_part step_own r.rule.steps, buckets_own) (grind (arith, h))

  -- nothing is wrong with its parts
  crush_faultless : IsCrushMap k → new_crush_fault (Some (crush_parts k)) ≡ None
  crush_faultless is =
      let forest : forest_ok (map bucket_of (crush_parts k).buckets) 4096 ≡ true = rw buckets_own (grind (arith, is.forest.lawful)) in
      let distinct = ap is_distinct (map_twice (λ (r : RulePart). nat_abs r.id) rule_part k.rules) ∙ rising_distinct (λ (r : NumberedRule). r.id) k.rules is.rules_rise in
      let lawful = list_all-map (is_lawful (map bucket_of (crush_parts k).buckets)) rule_part k.rules ∙ all_more (is_rule_over k.buckets) _ k.rules one_rule is.rules_over in
      rw (forest, distinct, lawful) refl

-- where there is one
crush_is_stated : (k : Option CrushFacts) → IfSome k IsCrushMap → IsCrushStated (option_map crush_parts k) k
crush_is_stated None is = refl
crush_is_stated (Some k) is = crush_own k is

-- its parts state no other CRUSH map, and where there are none they state none
one_crush : (k j : Option CrushFacts) → IfSome k IsCrushMap → IsCrushStated (option_map crush_parts k) j → j ≡ k
one_crush None j is of = of
one_crush (Some k) None is of = absurd of
one_crush (Some k) (Some j) is of = ap (λ c. Some c) (crush_alone k j is of)

-- nothing is wrong with the parts of a CRUSH map, or with none
crush_is_faultless : (k : Option CrushFacts) → IfSome k IsCrushMap → new_crush_fault (option_map crush_parts k) ≡ None
crush_is_faultless None is = refl
crush_is_faultless (Some k) is = crush_faultless k is

-- ---- pools and growths

-- a pool within its limits has no more groups for placement than groups
pool_enough : (p : PoolFacts) → IsWithinLimits p → has_enough_groups (pool_part p) ≡ true
unfolding has_enough_groups
pool_enough p within = grind (arith, nat_tests, within.groups_few)

-- nor has a growth within its limits
growth_even : (g : Growth) → IsGrowth g → grows_evenly (growth_part g) ≡ true
unfolding grows_evenly
growth_even g within = grind (arith, nat_tests, within.groups_few)

-- so no pool that comes or grows by a change has more groups for placement than groups
own_even : (base : ℕ) (c : ChangeParts) → IsChange c → are_even (change_parts base c).pools ≡ true
own_even base c is =
    let pools = list_all-map has_enough_groups pool_part c.pools.come
    ∙ list_all-from_AllPass (λ p. has_enough_groups (pool_part p)) c.pools.come (All-weaker IsWithinLimits (λ p. has_enough_groups (pool_part p) ≡ true) pool_enough c.pools.come is.pools_within) in
    let growths = list_all-map grows_evenly growth_part c.pools.grow
    ∙ list_all-from_AllPass (λ g. grows_evenly (growth_part g)) c.pools.grow (All-weaker IsGrowth (λ g. grows_evenly (growth_part g) ≡ true) growth_even c.pools.grow is.growths_within) in
    rw (pools, growths) refl

-- ---- what is stated

module _ (base : ℕ) (c : ChangeParts) where
  -- natural numbers written as integers are read as the same numbers
  numbers_own : (ns : List ℕ) → map nat_abs (map pos ns) ≡ ns
  numbers_own ns = map_own nat_abs pos number_own ns

  -- the parts state the change, beside its CRUSH map
  parts_own : (k : Option CrushFacts) → parts_within c.profile (change_parts base c) k ≡ record c { crush = k }
  parts_own k = rw (
    numbers_own c.pools.gone,
    map_own pool_of pool_part pool_own c.pools.come,
    map_own growth_of growth_part (λ g. refl) c.pools.grow,
    numbers_own c.osds.down,
    numbers_own c.osds.up,
    map_own reweight_within reweight_part (λ w. refl) c.weights,
    map_own pg_of pg_part (λ g. refl) c.explicit.gone,
    map_own pg_of pg_part (λ g. refl) c.items.gone,
    map_own (exception_of nat_abs) (exception_part pos) (exception_own nat_abs pos number_own) c.explicit.come,
    map_own (exception_of pair_of) (exception_part pair_part) (exception_own pair_of pair_part pair_own) c.items.come,
  ) refl

  -- a change in order is put in order as it is
  ordered_itself : IsInOrder c → IsOrdered c c
  ordered_itself up = record {
    profile = refl;
    pools = record {
      gone = sorts_itself (λ id. id) c.pools.gone up.pools.gone;
      come = sorts_itself (λ p. p.id) c.pools.come up.pools.come;
      grow = sorts_itself (λ g. g.pool) c.pools.grow up.pools.grow;
    };
    crush = refl;
    osds = record { down = sorts_itself (λ osd. osd) c.osds.down up.osds.down; up = sorts_itself (λ osd. osd) c.osds.up up.osds.up };
    weights = sorts_itself (λ w. w.osd) c.weights up.weights;
    explicit = record { gone = sorts_itself pg_key c.explicit.gone up.explicit.gone; come = sorts_itself key_of c.explicit.come up.explicit.come };
    items = record { gone = sorts_itself pg_key c.items.gone up.items.gone; come = sorts_itself key_of c.items.come up.items.come };
  }

  -- the parts state it
  pub own_change_stated : IsChange c → IsChangeStated c.profile (change_parts base c) base c
  own_change_stated is = record {
    base_is = refl;
    crush = crush_is_stated c.crush is.crush_map;
    ordered = rw (parts_own c.crush) (ordered_itself is.in_order);
  }

  -- what is put in order of a change in order, beside its CRUSH map, is that change
  one_ordered : (d : ChangeParts) → IsInOrder c → d.crush ≡ c.crush → IsOrdered (record c { crush = d.crush }) d → d ≡ c
  one_ordered d up crush sorts =
      let profile = sorts.profile in
      let gone_pools = sorts_alone (λ id. id) c.pools.gone d.pools.gone up.pools.gone sorts.pools.gone in
      let new_pools = sorts_alone (λ p. p.id) c.pools.come d.pools.come up.pools.come sorts.pools.come in
      let growths = sorts_alone (λ g. g.pool) c.pools.grow d.pools.grow up.pools.grow sorts.pools.grow in
      let down = sorts_alone (λ osd. osd) c.osds.down d.osds.down up.osds.down sorts.osds.down in
      let ups = sorts_alone (λ osd. osd) c.osds.up d.osds.up up.osds.up sorts.osds.up in
      let weights = sorts_alone (λ w. w.osd) c.weights d.weights up.weights sorts.weights in
      let gone_sets = sorts_alone pg_key c.explicit.gone d.explicit.gone up.explicit.gone sorts.explicit.gone in
      let gone_pairs = sorts_alone pg_key c.items.gone d.items.gone up.items.gone sorts.items.gone in
      let new_sets = sorts_alone key_of c.explicit.come d.explicit.come up.explicit.come sorts.explicit.come in
      let new_pairs = sorts_alone key_of c.items.come d.items.come up.items.come sorts.items.come in
      λ i. record {
        profile = profile i;
        pools = record { gone = gone_pools i; come = new_pools i; grow = growths i };
        crush = crush i;
        osds = record { down = down i; up = ups i };
        weights = weights i;
        explicit = record { gone = gone_sets i; come = new_sets i };
        items = record { gone = gone_pairs i; come = new_pairs i };
      }

  -- and nothing else
  pub own_change_alone : IsChange c → (other : ℕ × ChangeParts) → IsChangeStated c.profile (change_parts base c) other.0 other.1 → other ≡ (base, c)
  own_change_alone is other stated =
      let crush = one_crush c.crush other.1.crush is.crush_map stated.crush in
      let change = one_ordered other.1 is.in_order crush (rw (parts_own other.1.crush) at stated.ordered) in
      let number = stated.base_is in
      λ i. (number i, change i)

  -- ---- faults

  -- the limits do not hang on the base
  pub fits_with_base : (l : Limits) → base < 2 ^ 64 → change_fits_in l (change_parts 0 c) ≡ true → change_fits_in l (change_parts base c) ≡ true
  unfolding change_fits_in
  fits_with_base l wide fits = grind (arith, fits, natural_fits 0 18446744073709551615 base (omega arith) (omega arith))

  -- a change that a text may state has no fault
  pub own_change_faultless : base < 2 ^ 64 → IsChange c → change_fits_in (limits_of c.profile) (change_parts 0 c) ≡ true
      → change_fault_in c.profile (change_parts base c) ≡ None
  own_change_faultless wide is fits =
      rw (fits_with_base (limits_of c.profile) wide fits, crush_is_faultless c.crush is.crush_map, own_even base c is) refl
