-- Parts state one map: two lists of the same entries in the same order are equal.
use Rattle.std.proofs.Common.{◌≡◌, ◌⊎◌, ◌∙◌, ℕ, zero, suc, ◌<◌, List, [], ◌∷◌, length, get_or, IsPermutation, refl, sym, subst, inl, inr, arith}
use Rattle.std.specs.Prelude.{◌<ℤ◌}
use Rattle.std.specs.List.{AllPairs, Contains}
use Rattle.std.proofs.lemmas.Int.{ints}
use Rattle.std.proofs.lemmas.List.Sorted.{IsPermutation-sym, Contains-permutation}
use Rattle.buckets.specs.declared.bucket.Bucket.{Bucket}
use Rattle.keylist.specs.Order.{IsRising}
use Rattle.maptypes.specs.Exceptions.{key_of}
use Rattle.map_laws.specs.Laws.{StatesOneMap}

-- ---- by an order that holds one way alone

module _ {X : Type 0} (R : X → X → Type 0) (one_way : (a b : X) → R a b → R b a → ⊥) where
  -- what is in a list stands first, or is in the rest
  by_place : (y x : X) (ys : List X) (i : ℕ) → i < length (y ∷ ys) → get_or (y ∷ ys) i x ≡ x → (y ≡ x) ⊎ Contains ys x
  by_place y x ys zero inside is = inl is
  by_place y x ys (suc i) inside is = inr (i, omega arith, is)

  -- so what a list contains is its first element, or is in the rest
  first_or_rest : (y x : X) (ys : List X) → Contains (y ∷ ys) x → (y ≡ x) ⊎ Contains ys x
  first_or_rest y x ys there = by_place y x ys there.0 there.1 there.2

  -- what is in the rest is in the list
  in_list : (y x : X) (ys : List X) → Contains ys x → Contains (y ∷ ys) x
  in_list y x ys there = (suc there.0, omega (arith, there.1), there.2)

  -- so is what stands first
  first_in : (y : X) (ys : List X) → Contains (y ∷ ys) y
  first_in y ys = (0, omega arith, refl)

  -- nothing is in a list without entries
  none_in : (x : X) → Contains [] x → ⊥
  none_in x there = omega (arith, there.1)

  -- what stands first is before all of the rest
  first_before : (y x : X) (ys : List X) → AllPairs R (y ∷ ys) → Contains ys x → R y x
  first_before y x ys ordered there = subst (λ z. R y z) there.2 (ordered 0 (suc there.0) x (omega arith) (omega (arith, there.1)))

  -- the rest is in order
  rest_ordered : (y : X) (ys : List X) → AllPairs R (y ∷ ys) → AllPairs R ys
  rest_ordered y ys ordered i j d less inside = ordered (suc i) (suc j) d (omega arith) (omega arith)

  -- lists in order with the same entries begin alike
  begin_alike : (y z : X) (ys zs : List X) → AllPairs R (y ∷ ys) → AllPairs R (z ∷ zs) → Contains (z ∷ zs) y → Contains (y ∷ ys) z → y ≡ z
  begin_alike y z ys zs first second there back = elim (first_or_rest z y zs there) [
    | inl is ↦ sym is
    | inr later ↦ elim (first_or_rest y z ys back) [
      | inl is ↦ is
      | inr other ↦ absurd (one_way y z (first_before y z ys first other) (first_before z y zs second later))
    ]
  ]

  -- what is in the rest of one is in the rest of the other
  in_rest : (y z x : X) (ys zs : List X) → AllPairs R (y ∷ ys) → y ≡ z → Contains (z ∷ zs) x → Contains ys x → Contains zs x
  in_rest y z x ys zs ordered alike there later = elim (first_or_rest z x zs there) [
    | inl is ↦
        let same : y ≡ x = alike ∙ is in
        let before : R y x = first_before y x ys ordered later in
        absurd (one_way y x before (subst (λ w. R w y) same (subst (λ w. R y w) (sym same) before)))
    | inr rest ↦ rest
  ]

  -- so they are equal
  same_entries : (ys zs : List X) → AllPairs R ys → AllPairs R zs → ((x : X) → Contains ys x → Contains zs x) → ((x : X) → Contains zs x → Contains ys x) → ys ≡ zs
  same_entries [] [] first second to back = refl
  same_entries [] (z ∷ zs) first second to back = absurd (none_in z (back z (first_in z zs)))
  same_entries (y ∷ ys) [] first second to back = absurd (none_in y (to y (first_in y ys)))
  same_entries (y ∷ ys) (z ∷ zs) first second to back =
      let alike = begin_alike y z ys zs first second (to y (first_in y ys)) (back z (first_in z zs)) in
      let rest = same_entries ys zs (rest_ordered y ys first) (rest_ordered z zs second)
      (λ x there. in_rest y z x ys zs first alike (to x (in_list y x ys there)) there)
      (λ x there. in_rest z y x zs ys second (sym alike) (back x (in_list z x zs there)) there) in
      λ i. alike i ∷ rest i

  -- two orders of the same entries are one
  one_order : (given ys zs : List X) → IsPermutation given ys → IsPermutation given zs → AllPairs R ys → AllPairs R zs → ys ≡ zs
  one_order given ys zs first second ordered rising =
      same_entries ys zs ordered rising
      (λ x there. Contains-permutation given zs x second (Contains-permutation ys given x (IsPermutation-sym given ys first) there))
      (λ x there. Contains-permutation given ys x first (Contains-permutation zs given x (IsPermutation-sym given zs second) there))

-- by keys upwards
pub one_rising : {X : Type 0} (key : X → ℕ) (given ys zs : List X) → IsPermutation given ys → IsPermutation given zs → IsRising key ys → IsRising key zs → ys ≡ zs
one_rising key given ys zs = one_order (λ a b. key a < key b) (λ a b less more. omega (arith, less, more)) given ys zs

-- by ids downwards
pub one_falling : (given ys zs : List Bucket) → IsPermutation given ys → IsPermutation given zs → AllPairs (λ a b. b.id <ℤ a.id) ys → AllPairs (λ a b. b.id <ℤ a.id) zs → ys ≡ zs
one_falling given ys zs = one_order (λ a b. b.id <ℤ a.id) (λ a b less more. omega (arith, ints, less, more)) given ys zs

-- ---- the law

-- two maps that the same parts state are equal
pub states_one_map : StatesOneMap
states_one_map p m n one other =
    let epoch = one.epoch ∙ sym other.epoch in
    let buckets = one_falling _ m.buckets n.buckets one.buckets other.buckets one.falling other.falling in
    let rules = one_rising (λ r. r.id) _ m.rules n.rules one.rules other.rules one.rules_rise other.rules_rise in
    let pools = one_rising (λ q. q.id) _ m.pools n.pools one.pools other.pools one.pools_rise other.pools_rise in
    let presences = one.presences ∙ sym other.presences in
    let weights = one.weights ∙ sym other.weights in
    let explicit = one_rising key_of _ m.explicit n.explicit one.explicit other.explicit one.explicit_rise other.explicit_rise in
    let items = one_rising key_of _ m.items n.items one.items other.items one.items_rise other.items_rise in
    λ i. record {
      epoch = epoch i;
      buckets = buckets i;
      rules = rules i;
      pools = pools i;
      presences = presences i;
      weights = weights i;
      explicit = explicit i;
      items = items i;
    }
