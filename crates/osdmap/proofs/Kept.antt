-- What holds in a map holds after a change that nothing refuses.
use Rattle.std.proofs.Common.{◌≡◌, ◌∙◌, sym, subst, refl, arith, ℕ, zero, suc, ◌≤◌, Bool, true, false, not, ◌&&◌, ◌==◌, eqb, List, [], ◌∷◌, ◌++◌, map, length, set, Option, Some, None, IfSome, unwrap_or}
use mathlib.Core.Bool.{false≢true}
use Rattle.std.specs.Prelude.{nat_lt, nat_le, slice_get}
use Rattle.std.specs.List.{list_all, list_any, filter, fold, All}
use Rattle.std.specs.Option.{option_map_or}
use Rattle.std.proofs.lemmas.Bool.{false_from_ne_true, eqb-true}
use Rattle.std.proofs.lemmas.Bool.Decides.{nat_tests}
use Rattle.std.proofs.lemmas.List.{length-map}
use Rattle.std.proofs.lemmas.List.Elements.{All-set, All-filter}
use Rattle.std.proofs.lemmas.List.Sums.{AllPass-from_list_all, list_all-from_AllPass}
use Rattle.crush.specs.WellFormed.{forest_ok}
use Rattle.maptypes.specs.declared.osd.Presence.{Presence}
use Rattle.maptypes.specs.declared.pg.Pg.{Pg}
use Rattle.maptypes.specs.declared.exception.Exception.{Exception}
use Rattle.maptypes.specs.declared.change.ChangeParts.{ChangeParts}
use Rattle.maptypes.specs.declared.change.Reweight.{Reweight}
use Rattle.maptypes.specs.CrushMaps.{CrushFacts, IsCrushMap}
use Rattle.maptypes.specs.Growth.{IsGrowth, with_growths}
use Rattle.maptypes.specs.Pools.{PoolFacts, total_groups, IsWithinLimits}
use Rattle.mapparts.specs.Profiles.{most_pools}
use Rattle.mapparts.specs.declared.profile.Profile.{Profile}
use Rattle.mapparts.specs.declared.profile.Profile.TheVariants.{Plain, Stock}
use Rattle.keylist.specs.Keys.{is_distinct, has_key, entry_at}
use Rattle.keylist.specs.Order.{IsRising}
use Rattle.keylist.specs.Puts.{put}
use Rattle.maptypes.specs.Exceptions.{key_of, has_group, target, sides, all_named, is_set, are_pairs, is_sound, is_exception, stays, is_among, exceptions_after}
use Rattle.osdmap.specs.Maps.{ClusterMap, osd_exists, has_rule, is_presence, HoldsTogether}
use Rattle.maptypes.specs.Incrementals.{Step}
use Rattle.maptypes.specs.Ordered.{IsChange}
use Rattle.osdmap.specs.Changes.{names_osds, weighs_rightly, pools_kept, pools_there, pools_after, buckets_after, rules_after, names_groups, brings_new, has_devices_below, brings_forest, grows_from, leaves_few_groups, brings_rightly, excepts_soundly, change_fault, apply, with_up, with_weight}
use Rattle.maptypes.specs.Named.{all_named_groups, names_once}
use Rattle.keylist.proofs.Tests.{and_first, and_second, not_true}
use Rattle.keylist.proofs.KeyedOrder.{rising-filter}
use Rattle.keylist.proofs.KeyedMaps.{has-entry, entry-put, entry-without, list_all-puts, list_all-filter, rising-puts}
use Rattle.keylist.proofs.KeyedPuts.{All-puts}
use Rattle.keylist.proofs.KeyedDistinct.{distinct-append}
use Rattle.osdmap.proofs.GroupTotals.{few-groups-after}
use Rattle.osdmap.proofs.Grown.{list_all-with_growths, rising-with_growths, within-with_growths, exception_grows}
use Rattle.osdmap.proofs.Devices.{over_devices}
use Rattle.osdmap.proofs.Accepted.{Accepted, accepted}
use Rattle.osdmap.proofs.AfterLemmas.{length-apply, length-with_weight}
use Rattle.keylist.proofs.Each.{list_all-agree}

-- ---- OSDs

-- who is up or down exists as before
pub exists-up : (up : Bool) (ps : List Presence) (osd n : ℕ) → option_map_or (λ p. p.exists) (slice_get (with_up up ps osd) n) false ≡ option_map_or (λ p. p.exists) (slice_get ps n) false
exists-up up [] osd n = refl
exists-up up (p ∷ ps) zero zero = refl
exists-up up (p ∷ ps) zero (suc n) = refl
exists-up up (p ∷ ps) (suc osd) zero = refl
exists-up up (p ∷ ps) (suc osd) (suc n) = exists-up up ps osd n

-- so it is after a list of them
pub exists-ups : (up : Bool) (ps : List Presence) (osds : List ℕ) (n : ℕ) → option_map_or (λ p. p.exists) (slice_get (fold (with_up up) ps osds) n) false ≡ option_map_or (λ p. p.exists) (slice_get ps n) false
exists-ups up ps [] n = refl
exists-ups up ps (osd ∷ osds) n = exists-ups up (with_up up ps osd) osds n ∙ exists-up up ps osd n

-- no OSD begins or ends with a change
pub exists-after : (m : ClusterMap) (step : Step) (n : ℕ) → osd_exists (apply m step) n ≡ osd_exists m n
unfolding apply
exists-after m step n = exists-ups true (fold (with_up false) m.presences step.change.osds.down) step.change.osds.up n ∙ exists-ups false m.presences step.change.osds.down n

-- a list whose entries all pass does so with another that passes
list_all-set : {X : Type 0} (p : X → Bool) (xs : List X) (i : ℕ) (x : X) → p x ≡ true → list_all p xs ≡ true → list_all p (set xs i x) ≡ true
list_all-set p xs i x here all = list_all-from_AllPass p (set xs i x) (All-set (λ y. p y ≡ true) xs i x here (AllPass-from_list_all p xs all))

-- an OSD that goes down, and one that exists and comes up
present-downs : (ps : List Presence) (osds : List ℕ) → list_all is_presence ps ≡ true → list_all is_presence (fold (with_up false) ps osds) ≡ true
present-downs ps [] all = all
present-downs ps (osd ∷ osds) all = present-downs (with_up false ps osd) osds (list_all-set is_presence ps osd _ refl all)

abbrev is_there : List Presence → ℕ → Bool
is_there ps n = option_map_or (λ p. p.exists) (slice_get ps n) false

-- bringing up OSDs that exist leaves only such up
present-ups : (ps : List Presence) (osds : List ℕ) → list_all (is_there ps) osds ≡ true → list_all is_presence ps ≡ true
    → list_all is_presence (fold (with_up true) ps osds) ≡ true
present-ups ps [] there all = all
present-ups ps (osd ∷ osds) there all =
    let rest = list_all-agree (is_there (with_up true ps osd)) (is_there ps) (exists-up true ps osd) osds ∙ and_second (is_there ps osd) (list_all (is_there ps) osds) there in
    present-ups (with_up true ps osd) osds rest (list_all-set is_presence ps osd _ (rw (and_first (is_there ps osd) (list_all (is_there ps) osds) there) refl) all)

-- so it is after a change's down and up
present-after : (m : ClusterMap) (step : Step) → names_osds m step.change ≡ true → list_all is_presence m.presences ≡ true
    → list_all is_presence (fold (with_up true) (fold (with_up false) m.presences step.change.osds.down) step.change.osds.up) ≡ true
unfolding names_osds
present-after m step names all =
    let down = fold (with_up false) m.presences step.change.osds.down in
    let there : list_all (osd_exists m) step.change.osds.up ≡ true = grind (arith, names) in
    present-ups down step.change.osds.up
    (list_all-agree (is_there down) (osd_exists m) (exists-ups false m.presences step.change.osds.down) step.change.osds.up ∙ there)
    (present-downs m.presences step.change.osds.down all)

-- reweights of at most 65,536 put in leave all so
little-weights : (weights : List ℕ) (ws : List Reweight) → list_all (λ w. nat_le w.weight 65536) ws ≡ true → list_all (λ w. nat_le w 65536) weights ≡ true
    → list_all (λ w. nat_le w 65536) (fold with_weight weights ws) ≡ true
little-weights weights [] little all = all
little-weights weights (w ∷ ws) little all =
    little-weights (with_weight weights w) ws (and_second (nat_le w.weight 65536) (list_all (λ v. nat_le v.weight 65536) ws) little)
    (list_all-set (λ n. nat_le n 65536) weights w.osd w.weight (and_first (nat_le w.weight 65536) (list_all (λ v. nat_le v.weight 65536) ws) little) all)

-- so does a change that is accepted
little-after : (m : ClusterMap) (c : ChangeParts) → weighs_rightly c ≡ true → list_all (λ w. nat_le w 65536) m.weights ≡ true → list_all (λ w. nat_le w 65536) (fold with_weight m.weights c.weights) ≡ true
unfolding weighs_rightly
little-after m c rightly all = little-weights m.weights c.weights rightly all

-- ---- pools

module _ {X : Type 0} (key : X → ℕ) where
  -- where only entries are put in whose keys some list lacks, what has a key of that list stays
  pub entry-apart : (xs ys new : List X) (k : ℕ) → list_all (λ e. not (has_key key ys (key e))) new ≡ true → has_key key ys k ≡ true
      → entry_at key (fold (put key) xs new) k ≡ entry_at key xs k
  entry-apart xs ys [] k apart has = refl
  entry-apart xs ys (e ∷ es) k apart has =
      let here = not_true _ (and_first (not (has_key key ys (key e))) (list_all (λ e'. not (has_key key ys (key e'))) es) apart) in
      let rest = and_second (not (has_key key ys (key e))) (list_all (λ e'. not (has_key key ys (key e'))) es) apart in
      let differs : eqb (key e) k ≡ false = false_from_ne_true _ (λ same. absurd (false≢true (sym here ∙ rw (eqb-true (key e) k same) has))) in
      entry-apart (put key xs e) ys es k rest has ∙ entry-put key xs e k ∙ rw differs refl

-- a pool that stays is there as before, where no pool comes whose id stays
pub pool-stays : (m : ClusterMap) (c : ChangeParts) (id : ℕ) (p : PoolFacts) → brings_new m c ≡ true → entry_at (λ q. q.id) m.pools id ≡ Some p
    → has_key (λ k. k) c.pools.gone id ≡ false → entry_at (λ q. q.id) (pools_there m c) id ≡ Some p
unfolding pools_there pools_kept brings_new
pool-stays m c id p new there stays =
    let kept : entry_at (λ q. q.id) (filter (λ q. not (has_key (λ k. k) c.pools.gone q.id)) m.pools) id ≡ Some p =
    entry-without (λ (q : PoolFacts). q.id) (λ (k : ℕ). k) c.pools.gone m.pools id ∙ rw (stays, there) refl in
    let has : has_key (λ q. q.id) (filter (λ q. not (has_key (λ k. k) c.pools.gone q.id)) m.pools) id ≡ true = has-entry (λ (q : PoolFacts). q.id) _ id ∙ rw kept refl in
    entry-apart (λ (q : PoolFacts). q.id) _ _ c.pools.come id new has ∙ kept

-- ---- exceptions

-- an exception's names pass two tests alike that agree
all_named-agree : {E : Type 0} (names : E → List ℕ) (p q : ℕ → Bool) → ((n : ℕ) → q n ≡ p n) → (e : Exception E) → all_named names q e ≡ all_named names p e
all_named-agree names p q same e = list_all-agree _ _ (λ entry. list_all-agree _ _ same (names entry)) e.entries

module _ {E : Type 0} (names : E → List ℕ) (sound : List E → Bool) (m : ClusterMap) (step : Step) (new : brings_new m step.change ≡ true)
    (grow : list_all (grows_from (pools_there m step.change)) step.change.pools.grow ≡ true) where
  -- an exception that stays is sound as before
  exception-stays : (gone : List Pg) (e : Exception E) → is_exception names sound m.pools (osd_exists m) e ≡ true → stays step.change.pools.gone gone e ≡ true
      → is_exception names sound (pools_there m step.change) (osd_exists (apply m step)) e ≡ true
  exception-stays gone e holds stay =
      let open_pool = not_true _ (and_first (not (has_key (λ id. id) step.change.pools.gone e.pg.pool)) (not (is_among gone e.pg)) stay) in
      let there = and_first (has_group m.pools e.pg) (all_named names (osd_exists m) e) (and_first (has_group m.pools e.pg && all_named names (osd_exists m) e) (is_sound sound m.pools e) holds) in
      let same : entry_at (λ q. q.id) (pools_there m step.change) e.pg.pool ≡ entry_at (λ q. q.id) m.pools e.pg.pool = by_pool (entry_at (λ q. q.id) m.pools e.pg.pool) refl there open_pool in
      rw (same, all_named-agree names (osd_exists m) (osd_exists (apply m step)) (exists-after m step) e) holds
    where
      by_pool : (o : Option PoolFacts) → entry_at (λ q. q.id) m.pools e.pg.pool ≡ o → option_map_or (λ p. nat_lt e.pg.number p.pg_num) (entry_at (λ q. q.id) m.pools e.pg.pool) false ≡ true
          → has_key (λ id. id) step.change.pools.gone e.pg.pool ≡ false → entry_at (λ q. q.id) (pools_there m step.change) e.pg.pool ≡ entry_at (λ q. q.id) m.pools e.pg.pool
      by_pool None is there open_pool = absurd (false≢true (rw is at there))
      by_pool (Some p) is there open_pool = pool-stays m step.change e.pg.pool p new is open_pool ∙ sym is

  -- those that come are sound
  exceptions-come : (es : List (Exception E)) → list_all (all_named names (osd_exists m)) es ≡ true → list_all (λ e. has_group (pools_after m step.change) e.pg) es ≡ true
      → list_all (is_sound sound (pools_after m step.change)) es ≡ true → list_all (is_exception names sound (pools_after m step.change) (osd_exists (apply m step))) es ≡ true
  exceptions-come [] named there soundly = refl
  exceptions-come (e ∷ es) named there soundly =
      rw (
        all_named-agree names (osd_exists m) (osd_exists (apply m step)) (exists-after m step) e,
        and_first (all_named names (osd_exists m) e) (list_all (all_named names (osd_exists m)) es) named,
        and_first (has_group (pools_after m step.change) e.pg) (list_all (λ e'. has_group (pools_after m step.change) e'.pg) es) there,
        and_first (is_sound sound (pools_after m step.change) e) (list_all (is_sound sound (pools_after m step.change)) es) soundly,
        exceptions-come es
            (and_second (all_named names (osd_exists m) e) (list_all (all_named names (osd_exists m)) es) named)
            (and_second (has_group (pools_after m step.change) e.pg) (list_all (λ e'. has_group (pools_after m step.change) e'.pg) es) there)
            (and_second (is_sound sound (pools_after m step.change) e) (list_all (is_sound sound (pools_after m step.change)) es) soundly),
      ) refl

  pub exceptions-sound : (gone : List Pg) (coming es : List (Exception E)) → list_all (is_exception names sound m.pools (osd_exists m)) es ≡ true
      → list_all (all_named names (osd_exists m)) coming ≡ true → list_all (λ e. has_group (pools_after m step.change) e.pg) coming ≡ true
      → list_all (is_sound sound (pools_after m step.change)) coming ≡ true
      → list_all (is_exception names sound (pools_after m step.change) (osd_exists (apply m step))) (exceptions_after step.change.pools.gone gone coming es) ≡ true
  unfolding exceptions_after pools_after
  exceptions-sound gone coming es all named there soundly =
      list_all-puts key_of _ _ coming (list_all-filter _ _ _ (λ e holds stay. in_grown e (exception-stays gone e holds stay)) es all) (exceptions-come coming named there soundly)
    where
      in_grown : (e : Exception E) → is_exception names sound (pools_there m step.change) (osd_exists (apply m step)) e ≡ true → is_exception names sound (pools_after m step.change) (osd_exists (apply m step)) e ≡ true
      in_grown e h = exception_grows step.change.pools.grow (pools_there m step.change) grow names sound (osd_exists (apply m step)) e h

-- ---- all of it

-- what the tests of the pools found
record Rightly (m : ClusterMap) (c : ChangeParts) : Type 0 where
  pub kept : list_all (has_rule (rules_after m c)) (pools_kept m c) ≡ true
  pub new : list_all (has_rule (rules_after m c)) c.pools.come ≡ true
  pub few : nat_le (length (pools_there m c)) (most_pools c.profile) ≡ true
  pub grow : list_all (grows_from (pools_there m c)) c.pools.grow ≡ true
  pub groups : leaves_few_groups m c ≡ true

-- pools that come rightly pass each test of it
rightly-each : (m : ClusterMap) (c : ChangeParts) → brings_rightly m c ≡ true → Rightly m c
unfolding brings_rightly
rightly-each m c h = record { kept = grind (arith, h); new = grind (arith, h); few = grind (arith, h); grow = grind (arith, h); groups = grind (arith, h) }

-- no profile allows more than 256 pools
most_few : (profile : Profile) (n : ℕ) → nat_le n (most_pools profile) ≡ true → n ≤ 256
most_few Plain n few = grind (arith, nat_tests)
most_few Stock n few = grind (arith, nat_tests)

-- then at most 256 are there
few-after : (m : ClusterMap) (c : ChangeParts) → Rightly m c → length (pools_after m c) ≤ 256
unfolding pools_after
few-after m c rightly = rw length-map (most_few c.profile (length (pools_there m c)) rightly.few)

-- and they have at most 1,048,576 groups together
groups-after : (m : ClusterMap) (c : ChangeParts) → Rightly m c → names_once c ≡ true → total_groups (pools_after m c) ≤ 1048576
unfolding names_once
groups-after m c rightly once =
    let ids = map (λ (p : PoolFacts). p.id) c.pools.come in
    let both : is_distinct (map (λ (id : ℕ). id) c.pools.gone ++ ids) ≡ true = grind (arith, once) in
    let parts : ((is_distinct (map (λ (id : ℕ). id) c.pools.gone) && is_distinct ids) && not (list_any (λ k. list_any (λ j. j == k) ids) (map (λ (id : ℕ). id) c.pools.gone))) ≡ true =
    sym (distinct-append (map (λ (id : ℕ). id) c.pools.gone) ids) ∙ both in
    few-groups-after m c rightly.groups (grind (arith, parts))

-- each has its rule
ruled-after : (m : ClusterMap) (c : ChangeParts) → Rightly m c → list_all (has_rule (rules_after m c)) (pools_after m c) ≡ true
unfolding pools_after pools_there
ruled-after m c rightly =
    list_all-with_growths c.pools.grow (rules_after m c) (pools_there m c) ∙ list_all-puts (λ (q : PoolFacts). q.id) (has_rule (rules_after m c)) _ c.pools.come rightly.kept rightly.new

-- each is within its limits
within-after : (m : ClusterMap) (c : ChangeParts) → All IsWithinLimits c.pools.come → All IsGrowth c.pools.grow → All IsWithinLimits m.pools → All IsWithinLimits (pools_after m c)
unfolding pools_after pools_there pools_kept
within-after m c new growths within =
    within-with_growths c.pools.grow _ growths (All-puts (λ (q : PoolFacts). q.id) IsWithinLimits _ c.pools.come (All-filter _ IsWithinLimits m.pools within) new)

-- and they rise by id
pools-rise : (m : ClusterMap) (c : ChangeParts) → IsRising (λ p. p.id) m.pools → IsRising (λ p. p.id) (pools_after m c)
unfolding pools_after pools_there pools_kept
pools-rise m c rises = rising-with_growths c.pools.grow _ (rising-puts (λ (q : PoolFacts). q.id) _ c.pools.come (rising-filter (λ (q : PoolFacts). q.id) _ m.pools rises))

-- what holds of the forest and the rules after a change
record CrushKept (m : ClusterMap) (c : ChangeParts) : Type 0 where
  pub crush : IsCrushMap (record { buckets = buckets_after m c; rules = rules_after m c })
  pub over_osds : forest_ok (buckets_after m c) (length m.presences) ≡ true

-- the forest and the rules after a change are right ones
crush-after : (m : ClusterMap) (c : ChangeParts) → IfSome c.crush IsCrushMap → brings_forest m c ≡ true → HoldsTogether m → CrushKept m c
unfolding brings_forest
crush-after m c lawful below holds = by_crush c.crush lawful below
  where
    by_crush : (o : Option CrushFacts) → IfSome o IsCrushMap → option_map_or (λ k. has_devices_below (length m.presences) k.buckets) o true ≡ true
        → CrushKept m (record c { crush = o })
    by_crush None lawful' below' = record { crush = holds.crush; over_osds = holds.over_osds }
    by_crush (Some k) lawful' below' = record { crush = lawful'; over_osds = over_devices k.buckets (length m.presences) lawful'.forest below' }

-- exceptions that stay and come rise by group
exceptions-rise : {E : Type 0} (old_pools : List ℕ) (gone : List Pg) (coming es : List (Exception E)) → IsRising key_of es → IsRising key_of (exceptions_after old_pools gone coming es)
unfolding exceptions_after
exceptions-rise old_pools gone coming es rises = rising-puts key_of _ coming (rising-filter key_of _ es rises)

-- the explicit sets after an accepted change are right ones
explicit-after : (m : ClusterMap) (step : Step) → Accepted m step.change → HoldsTogether m
    → list_all (is_exception target is_set (pools_after m step.change) (osd_exists (apply m step))) (exceptions_after step.change.pools.gone step.change.explicit.gone step.change.explicit.come m.explicit) ≡ true
unfolding names_osds names_groups all_named_groups excepts_soundly
explicit-after m step ok holds =
    exceptions-sound target is_set m step ok.new (rightly-each m step.change ok.rightly).grow step.change.explicit.gone step.change.explicit.come m.explicit holds.explicit.sound (grind (arith, ok.osds)) (grind (arith, ok.groups)) (grind (arith, ok.sound))

-- so are the pairs
items-after : (m : ClusterMap) (step : Step) → Accepted m step.change → HoldsTogether m
    → list_all (is_exception sides are_pairs (pools_after m step.change) (osd_exists (apply m step))) (exceptions_after step.change.pools.gone step.change.items.gone step.change.items.come m.items) ≡ true
unfolding names_osds names_groups all_named_groups excepts_soundly
items-after m step ok holds =
    exceptions-sound sides are_pairs m step ok.new (rightly-each m step.change ok.rightly).grow step.change.items.gone step.change.items.come m.items holds.items.sound (grind (arith, ok.osds)) (grind (arith, ok.groups)) (grind (arith, ok.sound))

-- there is a reweight for each OSD as before
weights-after : (m : ClusterMap) (step : Step) → length (apply m step).weights ≡ length m.weights
unfolding apply
weights-after m step = length-with_weight m.weights step.change.weights

-- the map after a change that is not refused holds together
pub HoldsTogether-after : (m : ClusterMap) (step : Step) → change_fault m step.change ≡ None → IsChange step.change → HoldsTogether m → HoldsTogether (apply m step)
unfolding apply
HoldsTogether-after m step lawful is holds =
    let ok = accepted m step.change lawful in
    let rightly = rightly-each m step.change ok.rightly in
    let kept = crush-after m step.change is.crush_map ok.forest holds in
    record {
      osds = record {
        some = subst (λ n. 1 ≤ n) (sym (length-apply m step)) holds.osds.some;
        few = subst (λ n. n ≤ 4096) (sym (length-apply m step)) holds.osds.few;
        present = present-after m step ok.osds holds.osds.present;
        weighed = weights-after m step ∙ holds.osds.weighed ∙ sym (length-apply m step);
        weigh_little = little-after m step.change ok.weights holds.osds.weigh_little;
      };
      crush = kept.crush;
      over_osds = subst (λ n. forest_ok (buckets_after m step.change) n ≡ true) (sym (length-apply m step)) kept.over_osds;
      pools = record {
        few = few-after m step.change rightly;
        rise = pools-rise m step.change holds.pools.rise;
        within = within-after m step.change is.pools_within is.growths_within holds.pools.within;
        few_groups = groups-after m step.change rightly ok.once;
      };
      ruled = ruled-after m step.change rightly;
      explicit = record {
        rise = exceptions-rise step.change.pools.gone step.change.explicit.gone step.change.explicit.come m.explicit holds.explicit.rise;
        sound = explicit-after m step ok holds;
      };
      items = record {
        rise = exceptions-rise step.change.pools.gone step.change.items.gone step.change.items.come m.items holds.items.rise;
        sound = items-after m step ok holds;
      };
    }

-- ---- the map after a change, put together

-- the forest and the rules where some lie ready
pub buckets-ready : (ready : Option CrushFacts) (k : CrushFacts) → (unwrap_or ready k).buckets ≡ option_map_or (λ j. j.buckets) ready k.buckets
buckets-ready None k = refl
buckets-ready (Some j) k = refl

-- the rules that are ready are the new ones, or those there
pub rules-ready : (ready : Option CrushFacts) (k : CrushFacts) → (unwrap_or ready k).rules ≡ option_map_or (λ j. j.rules) ready k.rules
rules-ready None k = refl
rules-ready (Some j) k = refl

-- each part of a map is that after a change
pub record Changed (m : ClusterMap) (step : Step) (made : ClusterMap) : Type 0 where
  pub epoch : made.epoch ≡ step.epoch
  pub buckets : made.buckets ≡ buckets_after m step.change
  pub rules : made.rules ≡ rules_after m step.change
  pub pools : made.pools ≡ map (with_growths step.change.pools.grow) (fold (put (λ p. p.id)) (filter (λ p. not (has_key (λ id. id) step.change.pools.gone p.id)) m.pools) step.change.pools.come)
  pub presences : made.presences ≡ fold (with_up true) (fold (with_up false) m.presences step.change.osds.down) step.change.osds.up
  pub weights : made.weights ≡ fold with_weight m.weights step.change.weights
  pub explicit : made.explicit ≡ exceptions_after step.change.pools.gone step.change.explicit.gone step.change.explicit.come m.explicit
  pub items : made.items ≡ exceptions_after step.change.pools.gone step.change.items.gone step.change.items.come m.items

-- a map changed part by part is the one after the change
pub assembled : (m : ClusterMap) (step : Step) (made : ClusterMap) → Changed m step made → made ≡ apply m step
unfolding apply pools_after pools_there pools_kept
assembled m step made is = rw (is.epoch, is.buckets, is.rules, is.pools, is.presences, is.weights, is.explicit, is.items) refl
