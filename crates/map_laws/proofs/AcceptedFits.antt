-- A change that a map does not refuse is within the limits of all changes, so that a text may state it.
use Rattle.std.proofs.Common.{◌≡◌, ◌∙◌, ℕ, ◌+◌, ◌<◌, ◌≤◌, pos, Bool, true, false, eqb, List, [], ◌∷◌, ◌++◌, map, length, Option, Some, None, refl, arith}
use mathlib.Core.Bool.{false≢true}
use Rattle.std.specs.Prelude.{IfSome, nat_le, option_map}
use Rattle.std.specs.List.{list_all, All}
use Rattle.std.specs.Option.{option_map_or}
use Rattle.std.proofs.lemmas.Bool.{eqb-true, and_parts}
use Rattle.std.proofs.lemmas.Bool.Decides.{nat_tests}
use Rattle.std.proofs.lemmas.List.Elements.{All-head, All-tail, All-weaker}
use Rattle.std.proofs.lemmas.List.Folds.{list_all-map}
use Rattle.std.proofs.lemmas.List.Sums.{AllPass-from_list_all, list_all-from_AllPass}
use Rattle.keylist.specs.Keys.{is_distinct}
use Rattle.keylist.specs.Order.{IsRising}
use Rattle.keylist.proofs.Each.{all_more, all_both, list_all-agree}
use Rattle.keylist.proofs.KeyedDistinct.{distinct-append}
use Rattle.keylist.proofs.KeyedOrder.{distinct_rises}
use Rattle.mapparts.specs.declared.profile.Profile.TheVariants.{Stock}
use Rattle.mapparts.specs.Limits.{stock}
use Rattle.mapparts.specs.Parts.{is_between, is_osd_id, crush_fits, pool_fits, growth_fits, pg_fits, pair_fits, exceptions_fit, crush_fits_in, entries_fit_in, growth_fits_in}
use Rattle.maptypes.specs.declared.change.ChangeParts.{ChangeParts}
use Rattle.maptypes.specs.declared.change.Reweight.{Reweight}
use Rattle.maptypes.specs.declared.exception.Exception.{Exception}
use Rattle.maptypes.specs.declared.pg.Pg.{Pg}
use Rattle.maptypes.specs.CrushMaps.{CrushFacts, IsCrushMap}
use Rattle.maptypes.specs.Exceptions.{pg_key, key_of, has_pool, has_group, all_named, is_sound, is_exception, target, sides, is_set, are_pairs}
use Rattle.maptypes.specs.Growth.{Growth, IsGrowth}
use Rattle.maptypes.specs.Incrementals.{Step}
use Rattle.maptypes.specs.Ordered.{IsChange}
use Rattle.maptypes.specs.Pools.{PoolFacts, total_groups, IsWithinLimits}
use Rattle.osdmap.specs.Maps.{ClusterMap, osd_exists, HoldsTogether}
use Rattle.osdmap.specs.Changes.{names_osds, weighs_rightly, pools_after, names_pools, names_groups, excepts_soundly, change_fault, apply}
use Rattle.maptypes.specs.Named.{all_named_groups, names_once}
use Rattle.osdmap.specs.PartsOf.{bucket_part, rule_part, pool_part, pg_part, pair_part, exception_part}
use Rattle.osdmap.proofs.Accepted.{Accepted, accepted}
use Rattle.maptypes.proofs.NamedParts.{comes}
use Rattle.osdmap.proofs.Kept.{HoldsTogether-after, exists-after}
use Rattle.osdmap.proofs.Named.{below_max}
use Rattle.partjson.specs.Profiles.{brings_kinds}
use Rattle.mapparts.specs.Changes.{is_pool_id, pool_ids_fit_in, reweight_fits, entries_fit, change_fits, change_fits_in, reweight_fits_in}
use Rattle.mapjson.specs.PartsOfChange.{growth_part, reweight_part, crush_parts, change_parts}
use Rattle.mapjson.specs.WrittenChanges.{fits_text}
use Rattle.map_laws.specs.ChangeLaws.{AcceptedFits}
use Rattle.map_laws.proofs.FewExceptions.{rising_room, group_there, few_groups}
use Rattle.mapjson.proofs.OwnValues.{natural_fits}
use Rattle.map_laws.proofs.OwnFits.{count_fits, buckets_fine, rules_fine, pools_fine}
use Rattle.map_laws.proofs.OwnParts.{exceptions_fine, osd_fine, target_fine, pair_fine}

-- ---- keys

-- of distinct keys in two lists those of the first are
first_distinct : (ks js : List ℕ) → is_distinct (ks ++ js) ≡ true → is_distinct ks ≡ true
first_distinct ks js h = let parts = distinct-append ks js in grind (arith, parts, h)

-- and those of the second
second_distinct : (ks js : List ℕ) → is_distinct (ks ++ js) ≡ true → is_distinct js ≡ true
second_distinct ks js h = let parts = distinct-append ks js in grind (arith, parts, h)

-- rising keys below a number are no more than it
few_below : {X : Type 0} (key : X → ℕ) (high : ℕ) (xs : List X) → IsRising key xs → All (λ x. key x < high) xs → length xs ≤ high
few_below key high xs rises below =
    let room = rising_room key 0 high xs rises (λ k d inside. omega arith) below (omega arith) in
    omega (arith, room)

-- a list that is short enough, and whose entries fit when each is made into a part
list_fits : {X P : Type 0} (part : X → P) (fits : P → Bool) (xs : List X) → length xs ≤ 1048576 → list_all (λ x. fits (part x)) xs ≡ true → entries_fit fits (map part xs) ≡ true
unfolding entries_fit_in
list_fits part fits xs few all = let count = count_fits part 0 1048576 xs (omega arith) few in rw (count, list_all-map fits part xs ∙ all) refl

-- ---- pools and groups

-- the id of a pool that is there is within the limits
id_within : (pools : List PoolFacts) (id : ℕ) → All IsWithinLimits pools → has_pool pools id ≡ true → (1 ≤ id) × (id ≤ 65535)
id_within [] id within there = absurd (false≢true there)
id_within (p ∷ ps) id within there = by_id (eqb p.id id) refl (λ e. id_within ps id (All-tail IsWithinLimits p ps within) (rw e at there))
  where
    by_id : (b : Bool) → eqb p.id id ≡ b → (eqb p.id id ≡ false → (1 ≤ id) × (id ≤ 65535)) → (1 ≤ id) × (id ≤ 65535)
    by_id true e others =
        let same = eqb-true p.id id e in
        let here = All-head IsWithinLimits p ps within in
        (omega (arith, same, here.id_some), omega (arith, same, here.id_most))
    by_id false e others = others e

-- so is that of the pool of a group that is there
pub pool_within : (pools : List PoolFacts) (g : Pg) → All IsWithinLimits pools → has_group pools g ≡ true → (1 ≤ g.pool) × (g.pool ≤ 65535)
pool_within [] g within there = absurd (false≢true there)
pool_within (p ∷ ps) g within there = by_id (eqb p.id g.pool) refl (λ e. pool_within ps g (All-tail IsWithinLimits p ps within) (group_there p ps g e there))
  where
    by_id : (b : Bool) → eqb p.id g.pool ≡ b → (eqb p.id g.pool ≡ false → (1 ≤ g.pool) × (g.pool ≤ 65535)) → (1 ≤ g.pool) × (g.pool ≤ 65535)
    by_id true e others =
        let same = eqb-true p.id g.pool e in
        let here = All-head IsWithinLimits p ps within in
        (omega (arith, same, here.id_some), omega (arith, same, here.id_most))
    by_id false e others = others e

-- a group that is there fits
group_fits : (pools : List PoolFacts) → All IsWithinLimits pools → (g : Pg) → has_group pools g ≡ true → pg_fits (pg_part g) ≡ true
unfolding pg_fits
group_fits pools within g there = let ids = pool_within pools g within there in grind (arith, nat_tests, ids.0, ids.1)

-- groups that are there, by place upwards, fit
groups_fit : (pools : List PoolFacts) (gs : List Pg) → All IsWithinLimits pools → total_groups pools ≤ 1048576 → IsRising pg_key gs → list_all (has_group pools) gs ≡ true → entries_fit pg_fits (map pg_part gs) ≡ true
groups_fit pools gs within few rises there =
    let count = few_groups (λ g. g) pools gs within rises (AllPass-from_list_all (has_group pools) gs there) in
    list_fits pg_part pg_fits gs (omega (arith, count, few)) (all_more (has_group pools) (λ g. pg_fits (pg_part g)) gs (group_fits pools within) there)

-- ids of pools that are there, upwards, fit
ids_fit : (pools : List PoolFacts) (ids : List ℕ) → All IsWithinLimits pools → IsRising (λ id. id) ids → list_all (has_pool pools) ids ≡ true → pool_ids_fit_in stock (map pos ids) ≡ true
unfolding is_pool_id entries_fit_in
ids_fit pools ids within rises there =
    let each : All (λ id. id < 65536) ids = All-weaker (λ id. has_pool pools id ≡ true) (λ id. id < 65536) (λ id here. let most = (id_within pools id within here).1 in omega (arith, most)) ids (AllPass-from_list_all (has_pool pools) ids there) in
    let count = few_below (λ id. id) 65536 ids rises each in
    list_fits pos (λ z. is_between (pos 1) (pos 65535) z) ids (omega (arith, count))
    (all_more (has_pool pools) (λ id. is_between (pos 1) (pos 65535) (pos id)) ids (λ id here. let ids' = id_within pools id within here in natural_fits 1 65535 id ids'.0 ids'.1) there)

-- pools that come, by id upwards, fit
new_pools_fit : (pools : List PoolFacts) → All IsWithinLimits pools → IsRising (λ p. p.id) pools → entries_fit pool_fits (map pool_part pools) ≡ true
unfolding entries_fit_in
new_pools_fit pools within rises =
    let count = few_below (λ (p : PoolFacts). p.id) 65536 pools rises (All-weaker IsWithinLimits (λ p. p.id < 65536) (λ p here. omega (arith, here.id_most)) pools within) in
    rw (count_fits pool_part 0 1048576 pools (omega arith) (omega (arith, count)), pools_fine pools within) refl

-- a growth fits
growth_fine : (g : Growth) → IsGrowth g → growth_fits (growth_part g) ≡ true
unfolding growth_fits_in
growth_fine g within =
    let pool = natural_fits 1 65535 g.pool (omega (arith, within.pool_some)) within.pool_most in
    let pg_num = natural_fits 1 65536 g.pg_num (omega (arith, within.groups_some, within.groups_few)) within.groups_most in
    let pgp_num = natural_fits 1 65536 g.pgp_num (omega (arith, within.groups_some)) (omega (arith, within.groups_few, within.groups_most)) in
    rw (pool, pg_num, pgp_num) refl

-- growths, by pool upwards, fit
growths_fit : (gs : List Growth) → All IsGrowth gs → IsRising (λ g. g.pool) gs → entries_fit growth_fits (map growth_part gs) ≡ true
growths_fit gs within rises =
    let count = few_below (λ (g : Growth). g.pool) 65536 gs rises (All-weaker IsGrowth (λ g. g.pool < 65536) (λ g here. omega (arith, here.pool_most)) gs within) in
    list_fits growth_part growth_fits gs (omega (arith, count))
    (list_all-from_AllPass (λ g. growth_fits (growth_part g)) gs (All-weaker IsGrowth (λ g. growth_fits (growth_part g) ≡ true) growth_fine gs within))

-- a CRUSH map fits, where there is one
crush_fine : (k : Option CrushFacts) → IfSome k IsCrushMap → option_map_or crush_fits (option_map crush_parts k) true ≡ true
unfolding crush_fits_in
crush_fine None is = refl
crush_fine (Some k) is =
    rw (
      count_fits bucket_part 1 4096 k.buckets (grind (arith, nat_tests, is.forest.limits)) (grind (arith, nat_tests, is.forest.limits)),
      count_fits rule_part 1 256 k.rules is.some_rules is.few_rules,
      buckets_fine k.buckets (grind (arith, is.forest.limits)) (grind (arith, is.forest.lawful)),
      rules_fine k.buckets k.rules is.rules_over,
    ) refl

-- ---- the change

module _ (m : ClusterMap) (c : ChangeParts) (holds : HoldsTogether m) (is : IsChange c) (lawful : change_fault m c ≡ None) where
  -- the change passes each test by itself
  ok : Accepted m c
  ok = accepted m c lawful

  abbrev step : Step
  step = record { epoch = m.epoch + 1; change = c }

  -- the map after it
  abbrev next : ClusterMap
  next = apply m step

  -- the map after it holds together too
  next_holds : HoldsTogether next
  next_holds = HoldsTogether-after m step lawful is holds

  -- OSDs that exist fit, by number upwards
  osds_fit : (osds : List ℕ) → IsRising (λ osd. osd) osds → list_all (osd_exists m) osds ≡ true → entries_fit is_osd_id (map pos osds) ≡ true
  osds_fit osds rises there =
      let below : All (λ osd. osd < 4096) osds = All-weaker (λ osd. osd_exists m osd ≡ true) (λ osd. osd < 4096) osd_below osds (AllPass-from_list_all (osd_exists m) osds there) in
      let count = few_below (λ osd. osd) 4096 osds rises below in
      list_fits pos is_osd_id osds (omega (arith, count)) (all_more (osd_exists m) (λ osd. is_osd_id (pos osd)) osds (osd_fine m holds) there)
    where
      osd_below : (osd : ℕ) → osd_exists m osd ≡ true → osd < 4096
      osd_below osd there' = let below' = below_max m osd 4096 holds.osds.few there' in grind (arith, nat_tests, below')

  -- so do their new reweights
  weights_fit : list_all (λ w. osd_exists m w.osd) c.weights ≡ true → list_all (λ w. nat_le w.weight 65536) c.weights ≡ true → IsRising (λ w. w.osd) c.weights → entries_fit reweight_fits (map reweight_part c.weights) ≡ true
  unfolding reweight_fits_in
  weights_fit there light rises =
      let below : All (λ (w : Reweight). w.osd < 4096) c.weights = All-weaker (λ w. osd_exists m w.osd ≡ true) (λ w. w.osd < 4096) osd_below c.weights (AllPass-from_list_all (λ w. osd_exists m w.osd) c.weights there) in
      let count = few_below (λ (w : Reweight). w.osd) 4096 c.weights rises below in
      list_fits reweight_part reweight_fits c.weights (omega (arith, count))
      (all_both (λ w. osd_exists m w.osd) (λ w. nat_le w.weight 65536) (λ w. reweight_fits (reweight_part w)) one_fits c.weights there light)
    where
      osd_below : (w : Reweight) → osd_exists m w.osd ≡ true → w.osd < 4096
      osd_below w there' = let below' = below_max m w.osd 4096 holds.osds.few there' in grind (arith, nat_tests, below')

      one_fits : (w : Reweight) → osd_exists m w.osd ≡ true → nat_le w.weight 65536 ≡ true → reweight_fits (reweight_part w) ≡ true
      one_fits w there' light' = rw (osd_fine m holds w.osd there', natural_fits 0 4294967295 w.weight (omega arith) (grind (arith, nat_tests, light'))) refl

  -- exceptions that come are right ones in the map after it
  module _ {E : Type 0} (names : E → List ℕ) (sound : List E → Bool) where
    -- the OSDs that an exception names exist in it as they did before
    named_next : (e : Exception E) → all_named names (osd_exists next) e ≡ all_named names (osd_exists m) e
    named_next e = list_all-agree _ _ (λ entry. list_all-agree _ _ (exists-after m step) (names entry)) e.entries

    -- exceptions whose groups and OSDs are there, and which are sound, are right ones in it
    come : (es : List (Exception E)) → list_all (λ e. has_group (pools_after m c) e.pg) es ≡ true → list_all (all_named names (osd_exists m)) es ≡ true
        → list_all (is_sound sound (pools_after m c)) es ≡ true → list_all (is_exception names sound (pools_after m c) (osd_exists next)) es ≡ true
    come [] there named soundly = refl
    come (e ∷ es) there named soundly =
        let one = and_parts (has_group (pools_after m c) e.pg) _ there in
        let two = and_parts (all_named names (osd_exists m) e) _ named in
        let three = and_parts (is_sound sound (pools_after m c) e) _ soundly in
        rw (named_next e, one.0, two.0, three.0, come es one.1 two.1 three.1) refl

  -- its pools are those that the change leaves and brings
  pools_next : next.pools ≡ pools_after m c
  unfolding apply
  pools_next = refl

  -- so the explicit sets that come are within the limits
  explicit_fit : exceptions_fit is_osd_id (map (exception_part pos) c.explicit.come) ≡ true
  unfolding names_osds names_groups all_named_groups excepts_soundly
  explicit_fit =
      let right = come target is_set c.explicit.come (grind (arith, ok.groups)) (grind (arith, ok.osds)) (grind (arith, ok.sound)) in
      exceptions_fine next next_holds target is_set pos is_osd_id (target_fine next next_holds) c.explicit.come (comes c ok.once is.in_order).upmap (rw pools_next right)

  -- and so are the pairs that come
  items_fit : exceptions_fit pair_fits (map (exception_part pair_part) c.items.come) ≡ true
  unfolding names_osds names_groups all_named_groups excepts_soundly
  items_fit =
      let right = come sides are_pairs c.items.come (grind (arith, ok.groups)) (grind (arith, ok.osds)) (grind (arith, ok.sound)) in
      exceptions_fine next next_holds sides are_pairs pair_part pair_fits (pair_fine next next_holds) c.items.come (comes c ok.once is.in_order).items (rw pools_next right)

  -- the lists of a change rise, as no key stands twice
  record Rise : Type 0 where
    gone_pools : IsRising (λ id. id) c.pools.gone
    growths : IsRising (λ g. g.pool) c.pools.grow
    down : IsRising (λ osd. osd) c.osds.down
    up : IsRising (λ osd. osd) c.osds.up
    weights : IsRising (λ w. w.osd) c.weights
    gone_sets : IsRising pg_key c.explicit.gone
    gone_pairs : IsRising pg_key c.items.gone

  -- so they do, as the change is not refused
  rises : Rise
  unfolding names_once
  rises = record {
    gone_pools = distinct_rises (λ (id : ℕ). id) c.pools.gone is.in_order.pools.gone (first_distinct _ (map (λ (p : PoolFacts). p.id) c.pools.come) (grind (arith, ok.once)));
    growths = distinct_rises (λ (g : Growth). g.pool) c.pools.grow is.in_order.pools.grow (second_distinct (map (λ (p : PoolFacts). p.id) c.pools.come) _ (grind (arith, ok.once)));
    down = distinct_rises (λ (osd : ℕ). osd) c.osds.down is.in_order.osds.down (first_distinct _ (map (λ (osd : ℕ). osd) c.osds.up) (grind (arith, ok.once)));
    up = distinct_rises (λ (osd : ℕ). osd) c.osds.up is.in_order.osds.up (second_distinct (map (λ (osd : ℕ). osd) c.osds.down) _ (grind (arith, ok.once)));
    weights = distinct_rises (λ (w : Reweight). w.osd) c.weights is.in_order.weights (grind (arith, ok.once));
    gone_sets = distinct_rises pg_key c.explicit.gone is.in_order.explicit.gone (first_distinct _ (map key_of c.explicit.come) (grind (arith, ok.once)));
    gone_pairs = distinct_rises pg_key c.items.gone is.in_order.items.gone (first_distinct _ (map key_of c.items.come) (grind (arith, ok.once)));
  }

  -- each limit
  limits : change_fits (change_parts 0 c) ≡ true
  unfolding change_fits_in names_osds weighs_rightly names_pools names_groups all_named_groups
  limits =
      rw (
        natural_fits 0 18446744073709551615 0 (omega arith) (omega arith),
        ids_fit m.pools c.pools.gone holds.pools.within rises.gone_pools (grind (arith, ok.pools)),
        crush_fine c.crush is.crush_map,
        new_pools_fit c.pools.come is.pools_within (comes c ok.once is.in_order).pools,
        growths_fit c.pools.grow is.growths_within rises.growths,
        osds_fit c.osds.down rises.down (grind (arith, ok.osds)),
        osds_fit c.osds.up rises.up (grind (arith, ok.osds)),
        weights_fit (grind (arith, ok.osds)) (grind (arith, ok.weights)) rises.weights,
        groups_fit next.pools c.explicit.gone next_holds.pools.within next_holds.pools.few_groups rises.gone_sets (rw pools_next (grind (arith, ok.groups))),
        groups_fit next.pools c.items.gone next_holds.pools.within next_holds.pools.few_groups rises.gone_pairs (rw pools_next (grind (arith, ok.groups))),
        explicit_fit,
        items_fit,
      ) refl

  -- so a text may state it by the stock profile
  stock_fits : fits_text Stock c ≡ true
  unfolding fits_text
  stock_fits = rw (kinds c.crush, limits) refl
    where
      kinds : (k : Option CrushFacts) → brings_kinds Stock (option_map crush_parts k) ≡ true
      kinds None = refl
      kinds (Some k) = refl

-- a text may state by the stock profile each change that a map which holds together does not refuse
pub accepted_fits : (m : ClusterMap) (c : ChangeParts) → HoldsTogether m → IsChange c → AcceptedFits m c
accepted_fits m c holds is lawful = stock_fits m c holds is lawful
