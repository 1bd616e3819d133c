-- The OSDs of mapped sets exist.
use Rattle.std.proofs.Common.{◌≡◌, refl, sym, subst, ℕ, ℤ, pos, negsuc, Bool, true, false, ◌&&◌, List, [], ◌∷◌, map, Option, Some, None}
use Rattle.std.specs.Prelude.{option_and_then, if◌then◌else◌, IfSome}
use Rattle.std.specs.List.{All, list_any, list_all, fold}
use Rattle.std.proofs.lemmas.List.Elements.{All-nil, All-cons, All-head, All-tail, All-append}
use Rattle.std.proofs.lemmas.List.Concat.{flat_map-cons}
use Rattle.keylist.specs.Keys.{entry_at}
use Rattle.keylist.proofs.Tests.{and_first, and_second}
use Rattle.crush.specs.declared.step.RuleKind.{RuleKind}
use Rattle.crush.specs.declared.step.RuleKind.TheVariants.{Replicated, Erasure}
use Rattle.maptypes.specs.declared.exception.Exception.{Exception}
use Rattle.maptypes.specs.declared.exception.Pair.{Pair}
use Rattle.maptypes.specs.declared.pg.Pg.{Pg}
use Rattle.maptypes.specs.Pools.{PoolFacts}
use Rattle.maptypes.specs.Exceptions.{pg_key, key_of, said_of, is_exception, all_named, has_group, is_sound, target, sides, is_set, are_pairs}
use Rattle.osdmap.specs.Maps.{ClusterMap, osd_exists, HoldsTogether}
use Rattle.osdmap.specs.Mapped.{is_weightless, with_pair, with_items, with_exceptions}
use Rattle.maptypes.specs.Sets.{replace, is_of, kept_places, kept_in}
use Rattle.osdmap.specs.Placement.{group_of, existing_osd, placed_devices, raw_set, mapped_set}
use Rattle.osdmap.proofs.PlacementLemmas.{found_passes}

-- ---- raw sets

module _ (m : ClusterMap) where
  abbrev IsThere : Option ℕ → Type 0
  IsThere place = IfSome place (λ osd. osd_exists m osd ≡ true)

  there_if : (o : ℕ) (b : Bool) → osd_exists m o ≡ b → IsThere (if b then Some o else None)
  there_if o true is = is
  there_if o false is = tt

  existing_there : (x : Option ℤ) → IsThere (option_and_then (existing_osd m) x)
  existing_there None = tt
  existing_there (Some (pos o)) = there_if o (osd_exists m o) refl
  existing_there (Some (negsuc n)) = tt

  kept_there : (kind : RuleKind) (place : Option ℕ) → IsThere place → All IsThere (kept_in kind place)
  kept_there Replicated None is = All-nil IsThere
  kept_there Replicated (Some o) is = All-cons IsThere (Some o) [] is (All-nil IsThere)
  kept_there Erasure place is = All-cons IsThere place [] is (All-nil IsThere)

  all_kept : (kind : RuleKind) (xs : List (Option ℤ)) → All IsThere (kept_places kind (map (option_and_then (existing_osd m)) xs))
  all_kept kind [] = All-nil IsThere
  all_kept kind (x ∷ xs) =
      let first = option_and_then (existing_osd m) x in
      let rest = map (option_and_then (existing_osd m)) xs in
      subst (All IsThere) (sym (flat_map-cons (kept_in kind) first rest)) (All-append IsThere (kept_in kind first) (kept_places kind rest) (kept_there kind first (existing_there x)) (all_kept kind xs))

  raw_there : (p : PoolFacts) (n : ℕ) → All IsThere (raw_set m p n)
  unfolding raw_set
  raw_there p n = all_kept p.kind (placed_devices m p n)

  -- ---- exceptions

  replaced_there : (pair : Pair) (places : List (Option ℕ)) → osd_exists m pair.to ≡ true → All IsThere places → All IsThere (replace pair places)
  unfolding replace
  replaced_there pair [] is all = all
  replaced_there pair (place ∷ places) is all =
      let here = All-head IsThere place places all in
      let rest = All-tail IsThere place places all in
      by_test (is_of pair.from place) here rest (replaced_there pair places is rest)
    where
      by_test : (b : Bool) → IsThere place → All IsThere places → All IsThere (replace pair places) → All IsThere (if b then Some pair.to ∷ places else place ∷ replace pair places)
      by_test true here rest later = All-cons IsThere (Some pair.to) places is rest
      by_test false here rest later = All-cons IsThere place (replace pair places) here later

  pair_there : (weights : List ℕ) (places : List (Option ℕ)) (pair : Pair) → osd_exists m pair.to ≡ true → All IsThere places → All IsThere (with_pair weights places pair)
  unfolding with_pair
  pair_there weights places pair is all = by_test _
    where
      by_test : (b : Bool) → All IsThere (if b then places else replace pair places)
      by_test true = all
      by_test false = replaced_there pair places is all

  pairs_there : (weights : List ℕ) (pairs : List Pair) (places : List (Option ℕ)) → list_all (λ pair. list_all (osd_exists m) (sides pair)) pairs ≡ true → All IsThere places → All IsThere (fold (with_pair weights) places pairs)
  pairs_there weights [] places named all = all
  pairs_there weights (pair ∷ pairs) places named all =
      let both = and_first (list_all (osd_exists m) (sides pair)) (list_all (λ q. list_all (osd_exists m) (sides q)) pairs) named in
      let to = and_first (osd_exists m pair.to) true (and_second (osd_exists m pair.from) (osd_exists m pair.to && true) both) in
      pairs_there weights pairs (with_pair weights places pair) (and_second (list_all (osd_exists m) (sides pair)) (list_all (λ q. list_all (osd_exists m) (sides q)) pairs) named) (pair_there weights places pair to all)

  -- what is said of a group names OSDs that exist
  said_there : {E : Type 0} (names : E → List ℕ) (sound : List E → Bool) (es : List (Exception E)) (g : Pg) (entries : List E)
      → list_all (is_exception names sound m.pools (osd_exists m)) es ≡ true → said_of es g ≡ Some entries
      → list_all (λ entry. list_all (osd_exists m) (names entry)) entries ≡ true
  said_there {E} names sound es g entries all said = by_entry (entry_at key_of es (pg_key g)) refl
    where
      by_entry : (e : Option (Exception E)) → entry_at key_of es (pg_key g) ≡ e → list_all (λ entry. list_all (osd_exists m) (names entry)) entries ≡ true
      by_entry None found = let wrong : None ≡ Some entries = rw found at said in absurd (cc)
      by_entry (Some e) found =
          let same : Some e.entries ≡ Some entries = rw found at said in
          let is : e.entries ≡ entries = cc in
          let passes = found_passes _ (is_exception names sound m.pools (osd_exists m)) es e found all in
          let named = and_second (has_group m.pools e.pg) (all_named names (osd_exists m) e) (and_first (has_group m.pools e.pg && all_named names (osd_exists m) e) (is_sound sound m.pools e) passes) in
          rw is at named

  targets_there : (osds : List ℕ) → list_all (λ osd. list_all (osd_exists m) (target osd)) osds ≡ true → All IsThere (map (λ osd. Some osd) osds)
  targets_there [] named = All-nil IsThere
  targets_there (osd ∷ osds) named =
      let here = and_first (osd_exists m osd && true) (list_all (λ o. list_all (osd_exists m) (target o)) osds) named in
      All-cons IsThere (Some osd) (map (λ o. Some o) osds) (and_first (osd_exists m osd) true here)
      (targets_there osds (and_second (osd_exists m osd && true) (list_all (λ o. list_all (osd_exists m) (target o)) osds) named))

  items_there : (g : Pg) (items : Option (List Pair)) (places : List (Option ℕ)) → HoldsTogether m → said_of m.items g ≡ items → All IsThere places → All IsThere (with_items m.weights places items)
  items_there g None places holds said all = all
  items_there g (Some pairs) places holds said all = pairs_there m.weights pairs places (said_there sides are_pairs m.items g pairs holds.items.sound said) all

  mapped_there : (g : Pg) (explicit : Option (List ℕ)) (raw : List (Option ℕ)) → HoldsTogether m → said_of m.explicit g ≡ explicit → All IsThere raw → All IsThere (with_exceptions m.weights explicit (said_of m.items g) raw)
  unfolding with_exceptions
  mapped_there g None raw holds said all = items_there g (said_of m.items g) raw holds refl all
  mapped_there g (Some osds) raw holds said all = by_test (list_any (is_weightless m.weights) osds)
    where
      by_test : (b : Bool) → All IsThere (if b then raw else with_items m.weights (map (λ osd. Some osd) osds) (said_of m.items g))
      by_test true = all
      by_test false = items_there g (said_of m.items g) (map (λ osd. Some osd) osds) holds refl (targets_there osds (said_there target is_set m.explicit g osds holds.explicit.sound said))

-- each OSD of a mapped set exists
pub mapped_exist : (m : ClusterMap) (p : PoolFacts) (n : ℕ) → HoldsTogether m → All (λ place. IfSome place (λ osd. osd_exists m osd ≡ true)) (mapped_set m p n)
unfolding mapped_set
mapped_exist m p n holds = mapped_there m (group_of p n) (said_of m.explicit (group_of p n)) (raw_set m p n) holds refl (raw_there m p n)
