-- A mapped set goes by the raw set, the exceptions, and the reweights of the OSDs that these name.
use Rattle.std.proofs.Common.{◌≡◌, ℕ, List, [], ◌∷◌, ◌++◌, Option, Some, None, unwrap_or, subst, refl}
use Rattle.std.specs.Prelude.{map, slice_index}
use Rattle.std.specs.List.{All, list_any, fold, flat_map}
use Rattle.std.proofs.lemmas.List.Elements.{All-nil, All-cons, All-head, All-tail}
use Rattle.std.proofs.lemmas.List.Concat.{flat_map-cons}
use Rattle.maptypes.specs.declared.exception.Pair.{Pair}
use Rattle.maptypes.specs.Exceptions.{said_of, sides}
use Rattle.osdmap.specs.Mapped.{is_weightless, with_pair, with_items, with_exceptions}
use Rattle.osdmap.specs.Placement.{group_of, raw_set, mapped_set}
use Rattle.maptypes.specs.Pools.{PoolFacts}
use Rattle.osdmap.specs.Maps.{ClusterMap}

-- two lists of reweights agree on some OSDs
abbrev pub Agree : List ℕ → List ℕ → List ℕ → Type 0
Agree weights others osds = All (λ osd. slice_index weights osd ≡ slice_index others osd) osds

-- what holds of all of two lists holds of all of the first
all_before : {X : Type 0} (P : X → Type 0) (xs ys : List X) → All P (xs ++ ys) → All P xs
all_before P [] ys all = All-nil P
all_before P (x ∷ xs) ys all = All-cons P x xs (All-head P x (xs ++ ys) all) (all_before P xs ys (All-tail P x (xs ++ ys) all))

-- what holds of all of two lists holds of all of the second
all_behind : {X : Type 0} (P : X → Type 0) (xs ys : List X) → All P (xs ++ ys) → All P ys
all_behind P [] ys all = all
all_behind P (x ∷ xs) ys all = all_behind P xs ys (All-tail P x (xs ++ ys) all)

module _ (weights others : List ℕ) where
  -- an OSD on which they agree is out under both or none
  weightless_alike : (osd : ℕ) → slice_index weights osd ≡ slice_index others osd → is_weightless weights osd ≡ is_weightless others osd
  weightless_alike osd same = rw same

  any_weightless_alike : (osds : List ℕ) → Agree weights others osds → list_any (is_weightless weights) osds ≡ list_any (is_weightless others) osds
  any_weightless_alike [] agree = refl
  any_weightless_alike (osd ∷ osds) agree =
      let here = weightless_alike osd (All-head (λ o. slice_index weights o ≡ slice_index others o) osd osds agree) in
      let rest = any_weightless_alike osds (All-tail (λ o. slice_index weights o ≡ slice_index others o) osd osds agree) in
      rw (here, rest)

  -- so a pair acts alike, and so do pairs in order
  pair_alike : (places : List (Option ℕ)) (pair : Pair) → slice_index weights pair.to ≡ slice_index others pair.to → with_pair weights places pair ≡ with_pair others places pair
  unfolding with_pair
  pair_alike places pair same = rw same

  pairs_alike : (pairs : List Pair) (places : List (Option ℕ)) → Agree weights others (flat_map sides pairs) → fold (with_pair weights) places pairs ≡ fold (with_pair others) places pairs
  pairs_alike [] places agree = refl
  pairs_alike (pair ∷ pairs) places agree =
      let all : Agree weights others (pair.from ∷ pair.to ∷ flat_map sides pairs) = subst (Agree weights others) (flat_map-cons sides pair pairs) agree in
      let tail = All-tail (λ o. slice_index weights o ≡ slice_index others o) pair.from (pair.to ∷ flat_map sides pairs) all in
      let here = pair_alike places pair (All-head (λ o. slice_index weights o ≡ slice_index others o) pair.to (flat_map sides pairs) tail) in
      let rest = pairs_alike pairs (with_pair others places pair) (All-tail (λ o. slice_index weights o ≡ slice_index others o) pair.to (flat_map sides pairs) tail) in
      rw here rest

  items_alike : (items : Option (List Pair)) (places : List (Option ℕ)) → Agree weights others (flat_map sides (unwrap_or items [])) → with_items weights places items ≡ with_items others places items
  items_alike None places agree = refl
  items_alike (Some pairs) places agree = pairs_alike pairs places agree

-- a mapped set reads the reweights of the OSDs that the exceptions name, and no others
pub mapped_reads_named : (weights others : List ℕ) (explicit : Option (List ℕ)) (items : Option (List Pair)) (raw : List (Option ℕ)) → Agree weights others (unwrap_or explicit [] ++ flat_map sides (unwrap_or items []))
    → with_exceptions weights explicit items raw ≡ with_exceptions others explicit items raw
unfolding with_exceptions
mapped_reads_named weights others None items raw agree = items_alike weights others items raw agree
mapped_reads_named weights others (Some osds) items raw agree =
    let of_targets = all_before (λ o. slice_index weights o ≡ slice_index others o) osds (flat_map sides (unwrap_or items [])) agree in
    let of_sides = all_behind (λ o. slice_index weights o ≡ slice_index others o) osds (flat_map sides (unwrap_or items [])) agree in
    rw (any_weightless_alike weights others osds of_targets, items_alike weights others items (map (λ osd. Some osd) osds) of_sides)

-- so group i of a pool of one map and of a pool of another have the same mapped set, where they have the same raw set, the
-- same exceptions, and the same reweights of the OSDs that these name
pub alike_map_alike : (m n : ClusterMap) (p q : PoolFacts) (i : ℕ) → raw_set m p i ≡ raw_set n q i → said_of m.explicit (group_of p i) ≡ said_of n.explicit (group_of q i)
    → said_of m.items (group_of p i) ≡ said_of n.items (group_of q i) → Agree m.weights n.weights (unwrap_or (said_of m.explicit (group_of p i)) [] ++ flat_map sides (unwrap_or (said_of m.items (group_of p i)) []))
    → mapped_set m p i ≡ mapped_set n q i
unfolding mapped_set
alike_map_alike m n p q i raw explicit items weights =
    let by_weights = mapped_reads_named m.weights n.weights (said_of m.explicit (group_of p i)) (said_of m.items (group_of p i)) (raw_set m p i) weights in
    rw (← raw, ← explicit, ← items) by_weights
