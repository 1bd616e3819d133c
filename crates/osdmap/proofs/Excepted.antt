-- The exceptions that parts state, in the map that the parts state beside them.
use Rattle.std.proofs.Common.{◌≡◌, ◌∙◌, ℕ, zero, suc, ◌≤◌, Bool, true, false, not, ◌&&◌, cond, eqb, List, [], ◌∷◌, map, length, get_or, Option, Some, None, nat_abs, nat_lt, refl, sym, ap, inl, inr, arith, slice_get, IsPermutation}
use Rattle.std.specs.List.{list_all, range_with_len}
use Rattle.std.specs.Option.{option_map_or, option_or}
use Rattle.std.proofs.lemmas.Bool.{cases_lt}
use Rattle.std.proofs.lemmas.Bool.Decides.{nat_tests}
use Rattle.std.proofs.lemmas.List.FromFn.{length-map-range_with_len, get_or-map-range_with_len}
use Rattle.std.proofs.lemmas.Option.{slice_get-get_or}
use Rattle.crush.specs.WellFormed.{forest_ok}
use Rattle.keylist.proofs.Counts.{find-place}
use Rattle.keylist.proofs.Each.{list_all-at}
use Rattle.maptypes.specs.declared.exception.Exception.{Exception}
use Rattle.maptypes.specs.declared.exception.Pair.{Pair}
use Rattle.maptypes.specs.declared.osd.Presence.{Presence}
use Rattle.mapparts.specs.declared.parts.MapParts.{MapParts}
use Rattle.mapparts.specs.declared.parts.OsdPart.{OsdPart}
use Rattle.refusal.specs.declared.refused.Refusal.{Refusal}
use Rattle.refusal.specs.declared.refused.Refusal.TheVariants.{BadLimit, BadForest, BadRule, BadPool, BadOsd, BadException}
use Rattle.maptypes.specs.Exceptions.{key_of, all_named, is_exception, target, sides, is_set, are_pairs}
use Rattle.keylist.specs.Keys.{is_distinct, entry_at}
use Rattle.keylist.specs.Order.{IsRising}
use Rattle.osdmap.specs.Maps.{ClusterMap, osd_exists, HoldsTogether}
use Rattle.mapparts.specs.Parts.{has_between, parts_fit, entries_fit_in, head_fits_in, lists_fit_in, parts_fit_in}
use Rattle.maptypes.specs.Values.{pool_of}
use Rattle.maptypes.specs.Pools.{PoolFacts}
use Rattle.osdmap.specs.Stated.{buckets_of, osd_ok, rules_ok, pools_ok, osds_ok, is_listed, exceptions_ok, explicit_of, items_of, all_exceptions_ok, map_fault, listed_osd, presence_in, IsStated}
use Rattle.refusal.specs.Outcomes.{refused_unless}
use Rattle.keylist.specs.Order.{Rises}
use Rattle.osdmap.specs.Built.{without_exceptions}
use Rattle.keylist.proofs.Tests.{and_second}
use Rattle.keylist.proofs.Distinct.{distinct-moved, rising_distinct, find-moved, list_all-moved}
use Rattle.maptypes.proofs.Judged.{passed}
use Rattle.osdmap.proofs.BuildLemmas.{osds_below}
use Rattle.keylist.proofs.Each.{list_all-agree}

-- ---- OSDs that exist

-- behind the end of a list is nothing
none_past : {X : Type 0} (xs : List X) (n : ℕ) → length xs ≤ n → slice_get xs n ≡ None
none_past [] n past = refl
none_past (x ∷ xs) zero past = absurd (omega arith)
none_past (x ∷ xs) (suc n) past = none_past xs n (omega arith)

-- no OSD is listed at or past the number of OSDs
unlisted : (max_osd : ℕ) (osds : List OsdPart) → list_all (osd_ok max_osd) osds ≡ true → (n : ℕ) → max_osd ≤ n → is_listed osds n ≡ false
unlisted max_osd osds fit n far = by_listed (listed_osd osds n) refl
  where
    by_listed : (o : Option OsdPart) → listed_osd osds n ≡ o → option_map_or (λ (p : OsdPart). p.exists) o false ≡ false
    by_listed None is = refl
    by_listed (Some o) is =
        let at = find-place (λ (p : OsdPart). eqb (nat_abs p.id) n) osds o is in
        let test = rw at.2 at (list_all-at (λ (p : OsdPart). nat_lt (nat_abs p.id) max_osd) osds at.0 o at.1 (osds_below max_osd osds fit)) in
        absurd (grind (arith, nat_tests, test, at.3))

-- an OSD exists where it is listed
exists_in : (osds : List OsdPart) (n : ℕ) → (presence_in osds n).exists ≡ is_listed osds n
exists_in osds n = by_listed (listed_osd osds n)
  where
    by_listed : (o : Option OsdPart) → (option_map_or {U = Presence} (λ p. record { exists = p.exists; up = p.up }) o (record { exists = false; up = false })).exists ≡ option_map_or (λ (p : OsdPart). p.exists) o false
    by_listed None = refl
    by_listed (Some o) = refl

-- in a map of these presences too
pub exists_same : (osds : List OsdPart) (max_osd : ℕ) (m : ClusterMap) → m.presences ≡ map (presence_in osds) (range_with_len 0 max_osd)
    → list_all (osd_ok max_osd) osds ≡ true → (n : ℕ) → osd_exists m n ≡ is_listed osds n
exists_same osds max_osd m presences fit n =
    let many : length m.presences ≡ max_osd = ap length presences ∙ length-map-range_with_len (presence_in osds) 0 max_osd in
    elim (cases_lt n max_osd) [
      | inl near ↦
          let none : Presence = record { exists = false; up = false } in
          let here = slice_get-get_or m.presences n none (omega (arith, many, near)) in
          let value = ap (λ ps. get_or ps n none) presences ∙ get_or-map-range_with_len (presence_in osds) 0 max_osd n n none near (omega arith) in
          rw (here, value) (exists_in osds n)
      | inr far ↦ rw (none_past m.presences n (omega (arith, many, far))) (sym (unlisted max_osd osds fit n far))
    ]

-- ---- the same tests in the map as in its parts

-- a pool is found among the pools in order as among those given
entry_same : (given sorted : List PoolFacts) → IsPermutation given sorted → IsRising (λ (p : PoolFacts). p.id) sorted → (k : ℕ)
    → entry_at (λ (p : PoolFacts). p.id) sorted k ≡ entry_at (λ (p : PoolFacts). p.id) given k
entry_same given sorted moved rises k =
    let own = sym (distinct-moved (λ (p : PoolFacts). p.id) given sorted moved) ∙ rising_distinct (λ (p : PoolFacts). p.id) sorted rises in
    find-moved (λ (p : PoolFacts). p.id) given sorted moved own k

module _ {E : Type 0} (names : E → List ℕ) (sound : List E → Bool) (pools others : List PoolFacts) (exists shown : ℕ → Bool)
    (same_pool : (k : ℕ) → entry_at (λ (p : PoolFacts). p.id) pools k ≡ entry_at (λ (p : PoolFacts). p.id) others k) (same_osd : (n : ℕ) → exists n ≡ shown n) where
  named_same : (e : Exception E) → all_named names exists e ≡ all_named names shown e
  named_same e = list_all-agree (λ entry. list_all exists (names entry)) (λ entry. list_all shown (names entry)) (λ entry. list_all-agree exists shown same_osd (names entry)) e.entries

  exception_same : (e : Exception E) → is_exception names sound pools exists e ≡ is_exception names sound others shown e
  exception_same e = rw (same_pool e.pg.pool, named_same e) refl

  pub exceptions_same : (es : List (Exception E)) → exceptions_ok names sound pools exists es ≡ exceptions_ok names sound others shown es
  exceptions_same es = ap (λ b. is_distinct (map key_of es) && b) (list_all-agree (is_exception names sound pools exists) (is_exception names sound others shown) exception_same es)

-- ---- parts without their exceptions

-- parts without their exceptions are within the limits where the parts are
pub bare_fits : (p : MapParts) → parts_fit p ≡ true → parts_fit (without_exceptions p) ≡ true
unfolding parts_fit_in head_fits_in lists_fit_in entries_fit_in has_between
bare_fits p h = grind arith

-- and have no wrong exception
pub bare_exceptions : (p : MapParts) → all_exceptions_ok (without_exceptions p) ≡ true
unfolding all_exceptions_ok is_distinct
bare_exceptions p = refl

-- the last test stands behind the others
by_tests : (f r q o x : Bool) → cond (not f) (Some BadForest) (cond (not r) (Some BadRule) (cond (not q) (Some BadPool) (cond (not o) (Some BadOsd) (cond (not x) (Some BadException) None))))
    ≡ option_or (cond (not f) (Some BadForest) (cond (not r) (Some BadRule) (cond (not q) (Some BadPool) (cond (not o) (Some BadOsd) None)))) (refused_unless x BadException)
by_tests false r q o x = refl
by_tests true false q o x = refl
by_tests true true false o x = refl
by_tests true true true false x = refl
by_tests true true true true x = refl

-- what is wrong with parts is what is wrong with them beside their exceptions, else an exception
fault_after : (p : MapParts) → parts_fit p ≡ true → map_fault p ≡ option_or (map_fault (without_exceptions p)) (refused_unless (all_exceptions_ok p) BadException)
unfolding map_fault rules_ok pools_ok osds_ok
fault_after p limits = rw (limits, bare_fits p limits, bare_exceptions p) (by_tests _ _ _ _ _)

-- where nothing is refused, the OSDs are right
fits_at_last : (l f r q o x : Bool) → cond (not l) (Some BadLimit) (cond (not f) (Some BadForest) (cond (not r) (Some BadRule) (cond (not q) (Some BadPool) (cond (not o) (Some BadOsd) (cond (not x) (Some BadException) None))))) ≡ None → o ≡ true
fits_at_last false f r q o x h = cc
fits_at_last true false r q o x h = cc
fits_at_last true true false q o x h = cc
fits_at_last true true true false o x h = cc
fits_at_last true true true true false x h = cc
fits_at_last true true true true true x h = refl

-- parts without a fault have right OSDs
osds_fine : (p : MapParts) → map_fault p ≡ None → osds_ok p ≡ true
unfolding map_fault
osds_fine p h = fits_at_last (parts_fit p) (forest_ok (buckets_of p) (nat_abs p.max_osd)) (rules_ok p) (pools_ok p) (osds_ok p) (all_exceptions_ok p) h

-- right OSDs are right one by one
each_osd : (p : MapParts) → osds_ok p ≡ true → list_all (osd_ok (nat_abs p.max_osd)) p.osds ≡ true
unfolding osds_ok
each_osd p h = and_second (is_distinct (map (λ (o : OsdPart). nat_abs o.id) p.osds)) (list_all (osd_ok (nat_abs p.max_osd)) p.osds) h

-- ---- two tests of which each refuses by itself

-- what refuses alone refuses before another test
first_refuses : (a b : Bool) (refusal e : Refusal) → refused_unless a refusal ≡ Some e → refused_unless (a && b) refusal ≡ Some e
first_refuses true b refusal e h = cc
first_refuses false b refusal e h = h

-- and behind one that passes
second_refuses : (a b : Bool) (refusal e : Refusal) → refused_unless b refusal ≡ Some e → refused_unless (a && b) refusal ≡ Some e
second_refuses true b refusal e h = h
second_refuses false true refusal e h = cc
second_refuses false false refusal e h = h

-- where neither refuses, both together do not
neither_refuses : (a b : Bool) (refusal : Refusal) → refused_unless a refusal ≡ None → refused_unless b refusal ≡ None → refused_unless (a && b) refusal ≡ None
neither_refuses true b refusal h k = k
neither_refuses false b refusal h k = cc

-- ---- the exceptions

module _ (p : MapParts) (limits : parts_fit p ≡ true) where
  pub fault_bare : (e : Refusal) → map_fault (without_exceptions p) ≡ Some e → map_fault p ≡ Some e
  fault_bare e h = fault_after p limits ∙ ap (λ o. option_or o (refused_unless (all_exceptions_ok p) BadException)) h

  -- in the map that the parts state beside them
  module _ (m : ClusterMap) (fine : map_fault (without_exceptions p) ≡ None) (stated : IsStated (without_exceptions p) m) where
    abbrev explicit_ok : Bool
    explicit_ok = exceptions_ok target is_set m.pools (osd_exists m) (explicit_of p)

    abbrev items_ok : Bool
    items_ok = exceptions_ok sides are_pairs m.pools (osd_exists m) (items_of p)

    tests_same : {E : Type 0} (names : E → List ℕ) (sound : List E → Bool) (es : List (Exception E))
        → exceptions_ok names sound m.pools (osd_exists m) es ≡ exceptions_ok names sound (map pool_of p.pools) (is_listed p.osds) es
    tests_same names sound es =
        exceptions_same names sound m.pools (map pool_of p.pools) (osd_exists m) (is_listed p.osds)
        (entry_same (map pool_of p.pools) m.pools stated.pools stated.pools_rise)
        (exists_same p.osds (nat_abs p.max_osd) m stated.presences (each_osd (without_exceptions p) (osds_fine (without_exceptions p) fine))) es

    pub all_same : all_exceptions_ok p ≡ (explicit_ok && items_ok)
    unfolding all_exceptions_ok
    all_same = rw (tests_same target is_set (explicit_of p), tests_same sides are_pairs (items_of p)) refl

    fault_last : map_fault p ≡ refused_unless (explicit_ok && items_ok) BadException
    fault_last = fault_after p limits ∙ ap (λ o. option_or o (refused_unless (all_exceptions_ok p) BadException)) fine ∙ ap (λ ok. refused_unless ok BadException) all_same

    pub fault_explicit : (e : Refusal) → refused_unless explicit_ok BadException ≡ Some e → map_fault p ≡ Some e
    fault_explicit e h = fault_last ∙ first_refuses explicit_ok items_ok BadException e h

    pub fault_items : (e : Refusal) → refused_unless items_ok BadException ≡ Some e → map_fault p ≡ Some e
    fault_items e h = fault_last ∙ second_refuses explicit_ok items_ok BadException e h

    -- a map with both
    module _ (explicit : List (Exception ℕ)) (items : List (Exception Pair)) (explicit_fine : refused_unless explicit_ok BadException ≡ None) (items_fine : refused_unless items_ok BadException ≡ None)
        (explicit_rises : Rises key_of (explicit_of p) explicit) (items_rise : Rises key_of (items_of p) items) where
      pub no_fault_with : map_fault p ≡ None
      no_fault_with = fault_last ∙ neither_refuses explicit_ok items_ok BadException explicit_fine items_fine

      pub is_stated_with : IsStated p (record m { explicit = explicit; items = items })
      is_stated_with = record {
        epoch = stated.epoch;
        buckets = stated.buckets;
        falling = stated.falling;
        rules = stated.rules;
        rules_rise = stated.rules_rise;
        pools = stated.pools;
        pools_rise = stated.pools_rise;
        presences = stated.presences;
        weights = stated.weights;
        explicit = explicit_rises.same;
        explicit_rise = explicit_rises.rising;
        items = items_rise.same;
        items_rise = items_rise.rising;
      }

      pub holds_with : HoldsTogether m → HoldsTogether (record m { explicit = explicit; items = items })
      holds_with holds = record {
        osds = holds.osds;
        crush = holds.crush;
        over_osds = holds.over_osds;
        pools = holds.pools;
        ruled = holds.ruled;
        explicit = record { rise = explicit_rises.rising; sound = still_sound target is_set (explicit_of p) explicit explicit_fine explicit_rises.same };
        items = record { rise = items_rise.rising; sound = still_sound sides are_pairs (items_of p) items items_fine items_rise.same };
      }
        where
          still_sound : {E : Type 0} (names : E → List ℕ) (sound : List E → Bool) (given sorted : List (Exception E))
              → refused_unless (exceptions_ok names sound m.pools (osd_exists m) given) BadException ≡ None → IsPermutation given sorted
              → list_all (is_exception names sound m.pools (osd_exists m)) sorted ≡ true
          still_sound names sound given sorted fine moved =
              list_all-moved (is_exception names sound m.pools (osd_exists m)) given sorted moved
              ∙ and_second (is_distinct (map key_of given)) (list_all (is_exception names sound m.pools (osd_exists m)) given) (passed _ _ fine)
