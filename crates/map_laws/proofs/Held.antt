-- What holds in every map holds in one that accepted parts state, and in those to which lawful journals of it lead.
use Rattle.std.proofs.Common.{◌≡◌, ◌∙◌, refl, sym, ap, ℕ, true, ◌&&◌, List, [], ◌∷◌, map, None, nat_abs, arith, IsPermutation}
use Rattle.std.proofs.lemmas.List.Elements.{All-head, All-tail}
use Rattle.std.proofs.lemmas.List.Sorted.{length_permutation}
use Rattle.std.proofs.lemmas.Int.{ints}
use Rattle.buckets.specs.declared.bucket.Bucket.{Bucket}
use Rattle.crush.specs.WellFormed.{forest_ok, forest_limits_ok, IsForest, IsDescending, IsNotAscending}
use Rattle.buckets.specs.Buckets.{bucket_limits_ok}
use Rattle.crush.proofs.Made.{forest-passed, own-ok}
use Rattle.crush.proofs.Sorted.{bucket_at-moved, forest_ok-moved}
use Rattle.mapparts.specs.declared.parts.MapParts.{MapParts}
use Rattle.refusal.specs.declared.refused.Refusal.TheVariants.{BadPool, BadOsd, BadException}
use Rattle.mapparts.specs.Parts.{parts_fit}
use Rattle.maptypes.specs.Exceptions.{target, sides, is_set, are_pairs}
use Rattle.osdmap.specs.Maps.{ClusterMap, osd_exists, HoldsTogether}
use Rattle.maptypes.specs.Values.{rule_of}
use Rattle.osdmap.specs.Stated.{buckets_of, rules_ok, pools_ok, osds_ok, exceptions_ok, explicit_of, items_of, all_exceptions_ok, map_fault, IsStated}
use Rattle.refusal.specs.Outcomes.{refused_unless}
use Rattle.keylist.specs.Order.{Rises}
use Rattle.maptypes.specs.CrushMaps.{IsForestOf, rules_fit, crush_fault}
use Rattle.maptypes.proofs.CrushFits.{rules_same, is_crush_map}
use Rattle.osdmap.specs.Built.{without_exceptions}
use Rattle.maptypes.specs.Incrementals.{Step}
use Rattle.osdmap.specs.Changes.{apply, after, IsLawful}
use Rattle.maptypes.specs.Ordered.{IsChange}
use Rattle.map_laws.specs.Laws.{AreChanges, JournalsKeepMaps, at_epoch}
use Rattle.keylist.proofs.Tests.{and_first, and_second}
use Rattle.osdmap.proofs.Accepted.{passes}
use Rattle.osdmap.proofs.Built.{IsBuilt, parts_fit_each, some_osds, few_osds, pools_same, osds_same, presences_same, weights_same, no_fault, is_stated, holds}
use Rattle.maptypes.proofs.Narrowed.{forest_limits}
use Rattle.keylist.proofs.Distinct.{list_all-moved}
use Rattle.osdmap.proofs.Excepted.{bare_fits, bare_exceptions, all_same, holds_with}
use Rattle.osdmap.proofs.Kept.{HoldsTogether-after}
use Rattle.map_laws.proofs.OwnParts.{states_itself}

-- ---- what faultless parts pass

record IsFaultless (p : MapParts) : Type 0 where
  limits : parts_fit p ≡ true
  forest : forest_ok (buckets_of p) (nat_abs p.max_osd) ≡ true
  rules : rules_ok p ≡ true
  pools : pools_ok p ≡ true
  osds : osds_ok p ≡ true
  exceptions : all_exceptions_ok p ≡ true

-- parts without a fault pass each test
faultless_each : (p : MapParts) → map_fault p ≡ None → IsFaultless p
unfolding map_fault
faultless_each p h =
    let limits = passes (parts_fit p) _ _ h in
    let forest = passes (forest_ok (buckets_of p) (nat_abs p.max_osd)) _ _ limits.1 in
    let rules = passes (rules_ok p) _ _ forest.1 in
    let pools = passes (pools_ok p) _ _ rules.1 in
    let osds = passes (osds_ok p) _ _ pools.1 in
    let exceptions = passes (all_exceptions_ok p) _ _ osds.1 in
    record {
      limits = limits.0;
      forest = forest.0;
      rules = rules.0;
      pools = pools.0;
      osds = osds.0;
      exceptions = exceptions.0;
    }

-- the rules, and with the forest the CRUSH map
rules_fine : (p : MapParts) → rules_ok p ≡ true → rules_fit (buckets_of p) p.rules ≡ true
unfolding rules_ok
rules_fine p h = h

-- a right forest with right rules is no fault of a CRUSH map
crush_fine : (p : MapParts) → forest_ok (buckets_of p) (nat_abs p.max_osd) ≡ true → rules_ok p ≡ true → crush_fault p.buckets p.rules (nat_abs p.max_osd) ≡ None
unfolding rules_ok
crush_fine p forest rules = rw (forest, rules) refl

-- the same without exceptions
bare_pools : (p : MapParts) → pools_ok p ≡ true → pools_ok (without_exceptions p) ≡ true
unfolding pools_ok
bare_pools p h = h

-- parts without their exceptions have the same OSDs
bare_osds : (p : MapParts) → osds_ok p ≡ true → osds_ok (without_exceptions p) ≡ true
unfolding osds_ok
bare_osds p h = h

-- ---- the map that they state

-- the limits of a forest do not go by the order of its buckets
limits-moved : (xs ys : List Bucket) → IsPermutation xs ys → (n : ℕ) → forest_limits_ok xs n ≡ true → forest_limits_ok ys n ≡ true
limits-moved xs ys moved n h = rw (length_permutation xs ys moved, list_all-moved bucket_limits_ok xs ys moved) h

-- buckets by id downwards do not ascend
not_ascending : (buckets : List Bucket) → IsDescending buckets → IsNotAscending buckets
not_ascending buckets falls i j d below inside = let less = falls i j d below inside in omega (arith, ints, less)

module _ (p : MapParts) (m : ClusterMap) (faultless : map_fault p ≡ None) (stated : IsStated p m) where
  abbrev bare : ClusterMap
  bare = record m { explicit = []; items = [] }

  abbrev max_osd : ℕ
  max_osd = nat_abs p.max_osd

  -- the buckets of a map that parts state without a fault are a forest
  is_forest : IsForest m.buckets
  is_forest =
      let fine = faultless_each p faultless in
      let each = parts_fit_each p fine.limits in
      let limits = limits-moved (buckets_of p) m.buckets stated.buckets max_osd (forest_limits p.buckets max_osd each.buckets each.count (some_osds p each) (few_osds p each)) in
      forest-passed m.buckets max_osd (not_ascending m.buckets stated.falling) limits (forest_ok-moved (buckets_of p) m.buckets stated.buckets max_osd ∙ fine.forest)

  -- the map without its exceptions is what the parts without theirs build
  is_built : IsBuilt (without_exceptions p) bare
  is_built =
      let fine = faultless_each p faultless in
      let each = parts_fit_each p fine.limits in
      let forest : IsForestOf (buckets_of p) m.buckets = record {
        same = stated.buckets;
        falling = stated.falling;
        found = bucket_at-moved (buckets_of p) m.buckets stated.buckets (own-ok (buckets_of p) max_osd fine.forest);
      } in
      let rules : Rises (λ r. r.id) (map rule_of p.rules) m.rules = record { same = stated.rules; rising = stated.rules_rise } in
      let good = rules_same (buckets_of p) m.buckets p.rules forest ∙ rules_fine p fine.rules in
      record {
        limits = bare_fits p fine.limits;
        epoch = stated.epoch;
        grown = crush_fine p fine.forest fine.rules;
        crush = is_crush_map m.buckets p.rules m.rules is_forest each.rules each.rule_count good rules;
        stated = record { buckets = forest; rules = rules };
        served = ap (λ ok. refused_unless ok BadPool) (pools_same (without_exceptions p) m.rules rules ∙ bare_pools p fine.pools);
        pools = record { same = stated.pools; rising = stated.pools_rise };
        entered = ap (λ ok. refused_unless ok BadOsd) (osds_same (without_exceptions p) ∙ bare_osds p fine.osds);
        presences = stated.presences ∙ sym (presences_same p.osds max_osd);
        weights = stated.weights ∙ sym (weights_same p.osds max_osd);
        explicit = refl;
        items = refl;
      }

  -- so a map that parts state without a fault holds together
  pub accepted_holds : HoldsTogether m
  accepted_holds =
      let fine = faultless_each p faultless in
      let no_wrong = no_fault (without_exceptions p) bare is_built (bare_exceptions p) in
      let states = is_stated (without_exceptions p) bare is_built refl refl in
      let explicit_ok = exceptions_ok target is_set m.pools (osd_exists m) (explicit_of p) in
      let items_ok = exceptions_ok sides are_pairs m.pools (osd_exists m) (items_of p) in
      let both : (explicit_ok && items_ok) ≡ true = sym (all_same p fine.limits bare no_wrong states) ∙ fine.exceptions in
      holds_with p fine.limits bare no_wrong states m.explicit m.items
      (ap (λ ok. refused_unless ok BadException) (and_first explicit_ok items_ok both)) (ap (λ ok. refused_unless ok BadException) (and_second explicit_ok items_ok both))
      (record { same = stated.explicit; rising = stated.explicit_rise }) (record { same = stated.items; rising = stated.items_rise })
      (holds (without_exceptions p) bare is_built)

-- ---- journals

-- a lawful journal leads to a map that holds together
holds_after : (m : ClusterMap) (journal : List Step) → HoldsTogether m → AreChanges journal → IsLawful m journal → HoldsTogether (after m journal)
unfolding IsLawful
holds_after m [] holds brings lawful = holds
holds_after m (step ∷ steps) holds brings lawful =
    let here = All-head (λ (s : Step). IsChange s.change) step steps brings in
    let rest = All-tail (λ (s : Step). IsChange s.change) step steps brings in
    holds_after (apply m step) steps (HoldsTogether-after m step lawful.1 here holds) rest lawful.2

-- what holds in a map does not go by its epoch
holds_at : (m : ClusterMap) (epoch : ℕ) → HoldsTogether m → HoldsTogether (at_epoch m epoch)
holds_at m epoch holds = record {
  osds = holds.osds;
  crush = holds.crush;
  over_osds = holds.over_osds;
  pools = holds.pools;
  ruled = holds.ruled;
  explicit = holds.explicit;
  items = holds.items;
}

-- the law: a lawful journal of a map that was accepted leads to one that would be, at each epoch of a text
pub journals_keep_maps : JournalsKeepMaps
journals_keep_maps p m journal accepted brings lawful epoch within =
    let holds = holds_after m journal (accepted_holds p m accepted.faultless accepted.stated) brings lawful in
    states_itself (at_epoch (after m journal) epoch) (holds_at (after m journal) epoch holds) within
