-- What a change leaves as it was of the pools, of the exceptions and of the reweights.
use Rattle.std.proofs.Common.{◌≡◌, ◌≢◌, ◌∙◌, refl, sym, ap, subst, ℕ, ◌^◌, ◌<◌, Bool, true, false, not, ◌&&◌, ◌||◌, cond, eqb, List, [], ◌∷◌, map, Option, Some, None, unwrap_or, inl, inr, arith}
use Rattle.std.specs.Prelude.{slice_index}
use Rattle.std.specs.List.{All, list_any, list_all, find, filter, fold, flat_map}
use Rattle.std.specs.Option.{option_map}
use Rattle.std.proofs.lemmas.Bool.{cases_Bool, eqb-true, false_from_ne_true}
use Rattle.std.proofs.lemmas.Bool.Decides.{nat_tests}
use Rattle.std.proofs.lemmas.List.{get_or-set_other}
use Rattle.std.proofs.lemmas.List.Elements.{All-nil, All-cons}
use Rattle.std.proofs.lemmas.List.Concat.{flat_map-cons}
use Rattle.keylist.specs.Keys.{has_key, entry_at}
use Rattle.keylist.specs.Puts.{put}
use Rattle.keylist.proofs.Tests.{and_first, and_second}
use Rattle.keylist.proofs.Counts.{find-place}
use Rattle.keylist.proofs.KeyedFinds.{find-none_reverse}
use Rattle.keylist.proofs.KeyedMaps.{entry-put, entry-filter}
use Rattle.maptypes.specs.declared.change.ChangeParts.{ChangeParts}
use Rattle.maptypes.specs.declared.change.Reweight.{Reweight}
use Rattle.maptypes.specs.declared.exception.Exception.{Exception}
use Rattle.maptypes.specs.declared.exception.Pair.{Pair}
use Rattle.maptypes.specs.declared.pg.Pg.{Pg}
use Rattle.maptypes.specs.Growth.{Growth, with_growths}
use Rattle.maptypes.specs.Pools.{PoolFacts, IsWithinLimits}
use Rattle.maptypes.specs.Exceptions.{pg_key, key_of, said_of, is_among, has_group, all_named, is_exception, is_sound, target, sides, stays, exceptions_after}
use Rattle.maptypes.specs.Incrementals.{Step}
use Rattle.maptypes.specs.Named.{loses, NamedRise, explicit_after, items_after}
use Rattle.maptypes.proofs.NamedParts.{or_first, or_second, IsUnnamed, LeavesRawSets, said_then}
use Rattle.osdmap.specs.Maps.{ClusterMap, pool_at, osd_exists, HoldsTogether}
use Rattle.osdmap.specs.Changes.{pools_kept, pools_after, with_weight, pools_there, apply}
use Rattle.osdmap.specs.Evals.{names_reweighted}
use Rattle.osdmap.proofs.Fitting.{not_both, same_pool, few_numbers}
use Rattle.osdmap.proofs.Grown.{entry-with_growths}

-- ---- tests

-- what is neither is not the one and not the other
neither : (a b : Bool) → a ≡ false → b ≡ false → (not a && not b) ≡ true
neither a b h k = rw (h, k) refl

-- where all that is sought stays, it is found as before
pub find_kept : {X : Type 0} (p q good : X → Bool) (xs : List X) → ((x : X) → good x ≡ true → p x ≡ true → q x ≡ true) → list_all good xs ≡ true → find p (filter q xs) ≡ find p xs
find_kept p q good [] stay all = refl
find_kept p q good (x ∷ xs) stay all =
    let rest = find_kept p q good xs stay (and_second (good x) (list_all good xs) all) in
    elim (cases_Bool (q x)) [
      | inl stays ↦ rw (stays, rest) refl
      | inr goes ↦
          let other : p x ≡ false = false_from_ne_true (p x) (λ sought. not_both (q x) (stay x (and_first (good x) (list_all good xs) all) sought) goes) in
          rw (goes, other, rest) refl
    ]

-- ---- lists with keys

module _ {X : Type 0} (key : X → ℕ) where
  -- what no entry that is put in has the key of stays
  pub entry_untouched : (xs new : List X) (k : ℕ) → has_key key new k ≡ false → entry_at key (fold (put key) xs new) k ≡ entry_at key xs k
  entry_untouched xs [] k none = refl
  entry_untouched xs (e ∷ es) k none =
      let here = or_first (eqb (key e) k) (has_key key es k) none in
      entry_untouched (put key xs e) es k (or_second (eqb (key e) k) (has_key key es k) none) ∙ entry-put key xs e k ∙ rw here refl

-- ---- pools

-- a pool among those kept was there, and is not among the old ones
pool_kept : (m : ClusterMap) (c : ChangeParts) (id : ℕ) (p : PoolFacts) → entry_at (λ q. q.id) (pools_kept m c) id ≡ Some p → (loses c id ≡ false) × (pool_at m.pools id ≡ Some p)
unfolding pools_kept
pool_kept m c id p found = by_test (loses c id) refl (sym (entry-filter (λ (q : PoolFacts). q.id) (λ k. not (has_key (λ j. j) c.pools.gone k)) m.pools id) ∙ found)
  where
    by_test : (b : Bool) → loses c id ≡ b → cond (not (loses c id)) (pool_at m.pools id) None ≡ Some p → (loses c id ≡ false) × (pool_at m.pools id ≡ Some p)
    by_test true is h = let wrong : None ≡ Some p = rw is at h in absurd (cc)
    by_test false is h = (is, rw is at h)

-- a pool that is there and no new one was kept
pool_put : (m : ClusterMap) (c : ChangeParts) (id : ℕ) (p : PoolFacts) → has_key (λ q. q.id) c.pools.come id ≡ false → entry_at (λ q. q.id) (pools_there m c) id ≡ Some p → (loses c id ≡ false) × (pool_at m.pools id ≡ Some p)
unfolding pools_there
pool_put m c id p none found = pool_kept m c id p (sym (entry_untouched (λ (q : PoolFacts). q.id) (pools_kept m c) c.pools.come id none) ∙ found)

-- where none of a list passes a test, each fails it
all_fail : {X : Type 0} (p : X → Bool) (xs : List X) → list_any p xs ≡ false → All (λ x. p x ≡ false) xs
all_fail p [] none = All-nil (λ x. p x ≡ false)
all_fail p (x ∷ xs) none = All-cons (λ y. p y ≡ false) x xs (or_first (p x) (list_any p xs) none) (all_fail p xs (or_second (p x) (list_any p xs) none))

-- a pool of which no growth comes stays as it is
not_grown : (gs : List Growth) (p : PoolFacts) → has_key (λ g. g.pool) gs p.id ≡ false → with_growths gs p ≡ p
unfolding with_growths
not_grown gs p none = rw (find-none_reverse (λ (g : Growth). eqb g.pool p.id) gs (all_fail (λ g. eqb g.pool p.id) gs none)) refl

-- a pool after a change that is neither new nor grown was there before, and is not among the old ones
pub pool_stays : (m : ClusterMap) (c : ChangeParts) (id : ℕ) (p : PoolFacts) → has_key (λ q. q.id) c.pools.come id ≡ false → has_key (λ g. g.pool) c.pools.grow id ≡ false → pool_at (pools_after m c) id ≡ Some p → (loses c id ≡ false) × (pool_at m.pools id ≡ Some p)
unfolding pools_after
pool_stays m c id p none stays found = by_pool (entry_at (λ q. q.id) (pools_there m c) id) refl (sym (entry-with_growths c.pools.grow (pools_there m c) id) ∙ found)
  where
    by_pool : (o : Option PoolFacts) → entry_at (λ q. q.id) (pools_there m c) id ≡ o → option_map (with_growths c.pools.grow) (entry_at (λ q. q.id) (pools_there m c) id) ≡ Some p → (loses c id ≡ false) × (pool_at m.pools id ≡ Some p)
    by_pool None is h = let wrong : None ≡ Some p = rw is at h in absurd (cc)
    by_pool (Some q) is h =
        let at = find-place (λ (r : PoolFacts). eqb r.id id) (pools_there m c) q is in
        let same_id : q.id ≡ id = eqb-true q.id id at.3 in
        let same : Some (with_growths c.pools.grow q) ≡ Some p = rw is at h in
        let ends : with_growths c.pools.grow q ≡ p = cc in
        let as_is : with_growths c.pools.grow q ≡ q = not_grown c.pools.grow q (rw same_id stays) in
        let one : q ≡ p = sym as_is ∙ ends in
        pool_put m c id p none (is ∙ ap (λ x. Some x) one)

-- ---- exceptions

module _ {E : Type 0} (names : E → List ℕ) (sound : List E → Bool) (m : ClusterMap) (within : All IsWithinLimits m.pools) where
  abbrev pub is_good : Exception E → Bool
  is_good = is_exception names sound m.pools (osd_exists m)

  -- an exception of a group stays, where its pool does and it is not taken away
  exception_stays : (old : List ℕ) (gone : List Pg) (g : Pg) → g.number < 2 ^ 32 → has_key (λ k. k) old g.pool ≡ false → is_among gone g ≡ false
      → (e : Exception E) → is_good e ≡ true → eqb (key_of e) (pg_key g) ≡ true → stays old gone e ≡ true
  exception_stays old gone g few pool here e good same =
      let at : pg_key e.pg ≡ pg_key g = eqb-true (key_of e) (pg_key g) same in
      let has = and_first (has_group m.pools e.pg) (all_named names (osd_exists m) e) (and_first (has_group m.pools e.pg && all_named names (osd_exists m) e) (is_sound sound m.pools e) good) in
      let number = few_numbers m.pools e.pg within has in
      let id : e.pg.pool ≡ g.pool = same_pool e.pg.pool g.pool e.pg.number g.number at number few in
      let one : has_key (λ k. k) old e.pg.pool ≡ false = subst (λ (x : ℕ). has_key (λ k. k) old x ≡ false) (sym id) pool in
      let other : is_among gone e.pg ≡ false = subst (λ (x : ℕ). has_key pg_key gone x ≡ false) (sym at) here in
      neither _ _ one other

  said_stays : (old : List ℕ) (gone : List Pg) (new es : List (Exception E)) (g : Pg) → g.number < 2 ^ 32 → has_key (λ k. k) old g.pool ≡ false → is_among gone g ≡ false
      → has_key key_of new (pg_key g) ≡ false → list_all is_good es ≡ true → said_of (exceptions_after old gone new es) g ≡ said_of es g
  unfolding exceptions_after
  said_stays old gone new es g few pool here none all =
      ap (option_map (λ e. e.entries)) (entry_untouched key_of (filter (stays old gone) es) new (pg_key g) none ∙ find_kept (λ e. eqb (key_of e) (pg_key g)) (stays old gone) is_good es (exception_stays old gone g few pool here) all)

-- the explicit set of a group that a change does not name stays, where its pool does
pub explicit_stays : (m : ClusterMap) (step : Step) (g : Pg) → HoldsTogether m → g.number < 2 ^ 32 → loses step.change g.pool ≡ false → IsUnnamed step.change g → said_of (apply m step).explicit g ≡ said_of m.explicit g
unfolding apply
explicit_stays m step g holds few pool none = said_stays target _ m holds.pools.within step.change.pools.gone step.change.explicit.gone step.change.explicit.come m.explicit g few pool none.explicit.gone none.explicit.come holds.explicit.sound

-- so do its pairs
pub items_stay : (m : ClusterMap) (step : Step) (g : Pg) → HoldsTogether m → g.number < 2 ^ 32 → loses step.change g.pool ≡ false → IsUnnamed step.change g → said_of (apply m step).items g ≡ said_of m.items g
unfolding apply
items_stay m step g holds few pool none = said_stays sides _ m holds.pools.within step.change.pools.gone step.change.items.gone step.change.items.come m.items g few pool none.items.gone none.items.come holds.items.sound

-- ---- reweights

-- a reweight that no entry names stays
pub weight_stays : (weights : List ℕ) (ws : List Reweight) (osd : ℕ) → has_key (λ w. w.osd) ws osd ≡ false → slice_index (fold with_weight weights ws) osd ≡ slice_index weights osd
weight_stays weights [] osd none = refl
weight_stays weights (w ∷ ws) osd none =
    let here = or_first (eqb w.osd osd) (has_key (λ v. v.osd) ws osd) none in
    let other : osd ≢ w.osd = λ e. grind (arith, nat_tests) in
    weight_stays (with_weight weights w) ws osd (or_second (eqb w.osd osd) (has_key (λ v. v.osd) ws osd) none) ∙ get_or-set_other weights w.osd osd w.weight 0 other

module _ (weights : List ℕ) (ws : List Reweight) where
  abbrev pub IsSame : ℕ → Type 0
  IsSame osd = slice_index weights osd ≡ slice_index (fold with_weight weights ws) osd

  abbrev pub gets : ℕ → Bool
  gets osd = has_key (λ w. w.osd) ws osd

  targets_agree : (osds : List ℕ) → list_any (λ osd. list_any gets (target osd)) osds ≡ false → All IsSame osds
  targets_agree [] none = All-nil IsSame
  targets_agree (osd ∷ osds) none =
      let here = or_first (gets osd || false) (list_any (λ o. list_any gets (target o)) osds) none in
      All-cons IsSame osd osds (sym (weight_stays weights ws osd (or_first (gets osd) false here))) (targets_agree osds (or_second (gets osd || false) (list_any (λ o. list_any gets (target o)) osds) none))

  sides_agree : (pairs : List Pair) → list_any (λ pair. list_any gets (sides pair)) pairs ≡ false → All IsSame (flat_map sides pairs)
  sides_agree [] none = All-nil IsSame
  sides_agree (pair ∷ pairs) none =
      let here = or_first (list_any gets (sides pair)) (list_any (λ q. list_any gets (sides q)) pairs) none in
      let later = or_second (gets pair.from) (gets pair.to || false) here in
      let rest = sides_agree pairs (or_second (list_any gets (sides pair)) (list_any (λ q. list_any gets (sides q)) pairs) none) in
      let from = sym (weight_stays weights ws pair.from (or_first (gets pair.from) (gets pair.to || false) here)) in
      let to = sym (weight_stays weights ws pair.to (or_first (gets pair.to) false later)) in
      subst (All IsSame) (sym (flat_map-cons sides pair pairs)) (All-cons IsSame pair.from (pair.to ∷ flat_map sides pairs) from (All-cons IsSame pair.to (flat_map sides pairs) to rest))

  pub explicit_agree : (c : ChangeParts) (said : Option (List ℕ)) → c.weights ≡ ws → names_reweighted target c said ≡ false → All IsSame (unwrap_or said [])
  explicit_agree c None is none = All-nil IsSame
  explicit_agree c (Some osds) is none = targets_agree osds (rw is at none)

  pub items_agree : (c : ChangeParts) (said : Option (List Pair)) → c.weights ≡ ws → names_reweighted sides c said ≡ false → All IsSame (flat_map sides (unwrap_or said []))
  items_agree c None is none = All-nil IsSame
  items_agree c (Some pairs) is none = sides_agree pairs (rw is at none)

-- ---- changes that leave all raw sets

-- all stay where none goes
all_stay : {X : Type 0} (xs : List X) → filter (λ x. true) xs ≡ xs
all_stay [] = refl
all_stay (x ∷ xs) = ap (λ ys. x ∷ ys) (all_stay xs)

-- none grows
none_grown : (ps : List PoolFacts) → map (with_growths []) ps ≡ ps
unfolding with_growths
none_grown [] = refl
none_grown (p ∷ ps) = ap (λ qs. p ∷ qs) (none_grown ps)

-- so the pools stay
pub pools_left : (m : ClusterMap) (step : Step) → LeavesRawSets step.change → (apply m step).pools ≡ m.pools
unfolding apply pools_after pools_there pools_kept
pools_left m step s = rw (s.pools.grow, s.pools.come, s.pools.gone) (none_grown _ ∙ all_stay m.pools)

-- and the reweights
pub weights_left : (m : ClusterMap) (step : Step) → LeavesRawSets step.change → (apply m step).weights ≡ m.weights
unfolding apply
weights_left m step s = rw s.weights refl

-- the explicit set of a group is what such a change makes of it
pub explicit_then : (m : ClusterMap) (step : Step) (g : Pg) → LeavesRawSets step.change → NamedRise step.change → said_of (apply m step).explicit g ≡ explicit_after step.change (said_of m.explicit g) g
unfolding apply
explicit_then m step g s rise = rw s.pools.gone (said_then step.change.explicit.gone step.change.explicit.come m.explicit g rise.explicit.come)

-- so are its pairs
pub items_then : (m : ClusterMap) (step : Step) (g : Pg) → LeavesRawSets step.change → NamedRise step.change → said_of (apply m step).items g ≡ items_after step.change (said_of m.items g) g
unfolding apply
items_then m step g s rise = rw s.pools.gone (said_then step.change.items.gone step.change.items.come m.items g rise.items.come)
