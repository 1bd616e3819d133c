-- The groups that a change concerns are among the candidates, and are found among these in their order.
use Rattle.std.proofs.Common.{◌≡◌, ◌∙◌, refl, sym, ap, subst, ℕ, zero, suc, ◌+◌, ◌-◌, ◌*◌, ◌^◌, ◌<◌, ◌≤◌, Bool, true, false, ◌&&◌, ◌||◌, eqb, List, [], ◌∷◌, length, map, Option, Some, None, inl, inr, arith}
use mathlib.Core.Bool.{false≢true}
use Rattle.std.specs.Prelude.{nat_lt, nat_le, filter_map, is_some}
use Rattle.std.specs.List.{All, list_any, filter, range_with_len}
use Rattle.std.proofs.lemmas.Bool.{cases_Bool, cases_order, eqb-true}
use Rattle.std.proofs.lemmas.Bool.Decides.{nat_tests}
use Rattle.std.proofs.lemmas.List.Elements.{All-nil, All-cons, All-head, All-tail, filter_agree}
use Rattle.std.proofs.lemmas.List.{get_or-map, length-map}
use Rattle.std.proofs.lemmas.List.FromFn.{length-range_with_len, get_or-range_with_len}
use Rattle.keylist.specs.Keys.{has_key, entry_at}
use Rattle.keylist.specs.Order.{IsRising}
use Rattle.keylist.proofs.KeyedDistinct.{key_among}
use Rattle.keylist.proofs.KeyedMaps.{has-entry}
use Rattle.maptypes.specs.declared.pg.Pg.{Pg}
use Rattle.maptypes.specs.declared.exception.Exception.{Exception}
use Rattle.maptypes.specs.declared.change.ChangeParts.{ChangeParts}
use Rattle.maptypes.specs.declared.change.Reweight.{Reweight}
use Rattle.maptypes.specs.Exceptions.{pg_key, key_of, said_of, target, sides}
use Rattle.maptypes.specs.Pools.{PoolFacts}
use Rattle.osdmap.specs.Maps.{ClusterMap}
use Rattle.osdmap.specs.Evals.{names_reweighted, concerns}
use Rattle.maptypes.specs.Named.{is_named, excepted_groups, union_of, named_groups}
use Rattle.maptypes.proofs.NamedParts.{or_cases, some_or, other_or, groups_have, has_joined, named_has}
use Rattle.osdmap.specs.Placement.{group_of}
use Rattle.keylist.proofs.KeyedOrder.{rising_head, rising_tail, rising_from, rising-filter}
use Rattle.keylist.proofs.Tests.{and_first, and_second}
use Rattle.keylist.proofs.Each.{same_tests}
use Rattle.pgtable.specs.Candidates.{candidates_by, candidates, number_at}
use Rattle.pgtable.specs.Candidates as spec
use Rattle.pgtable.specs.Patches.{concerned_numbers}
use Rattle.pgtable.proofs.Keeping.{among}

-- ---- rising lists of numbers

abbrev has : ℕ → List ℕ → Bool
has j xs = list_any (λ x. eqb x j) xs

abbrev Rising : List ℕ → Type 0
Rising xs = IsRising (λ (n : ℕ). n) xs

-- of two tests of which one passes, the second where the first does not
or_second : (a b : Bool) → (a || b) ≡ true → a ≡ false → b ≡ true
or_second true b h k = absurd (false≢true (sym k))
or_second false b h k = h

-- or with true is true
true_behind : (a : Bool) → (a || true) ≡ true
true_behind true = refl
true_behind false = refl

-- nothing above all of a list is in it
not_below : (j : ℕ) (xs : List ℕ) → All (λ x. j < x) xs → has j xs ≡ false
not_below j [] above = refl
not_below j (x ∷ xs) above =
    let here : j < x = All-head (λ y. j < y) x xs above in
    let other : eqb x j ≡ false = grind (arith, nat_tests) in
    rw (other, not_below j xs (All-tail (λ y. j < y) x xs above)) refl

-- a number equals itself
itself : (x : ℕ) → eqb x x ≡ true
itself x = grind (arith, nat_tests)

-- rising lists with the same numbers are the same
pub same_numbers : (xs ys : List ℕ) → Rising xs → Rising ys → ((j : ℕ) → has j xs ≡ has j ys) → xs ≡ ys
same_numbers [] [] up up' same = refl
same_numbers [] (y ∷ ys) up up' same = absurd (false≢true (same y ∙ rw (itself y) refl))
same_numbers (x ∷ xs) [] up up' same = absurd (false≢true (sym (same x) ∙ rw (itself x) refl))
same_numbers (x ∷ xs) (y ∷ ys) up up' same =
    let above = rising_head (λ (n : ℕ). n) x xs up in
    let above' = rising_head (λ (n : ℕ). n) y ys up' in
    let e : x ≡ y = first x y above above' (same x) (same y) in
    rw e (ap (λ z. y ∷ z) (same_numbers xs ys (rising_tail (λ (n : ℕ). n) x xs up) (rising_tail (λ (n : ℕ). n) y ys up') (λ j. rest j x y e above above' (same j))))
  where
    first : (a b : ℕ) → All (λ z. a < z) xs → All (λ z. b < z) ys → has a (a ∷ xs) ≡ has a (b ∷ ys) → has b (a ∷ xs) ≡ has b (b ∷ ys) → a ≡ b
    first a b above above' at_a at_b = elim (cases_order a b) [
      | inl e ↦ e
      | inr (inl less) ↦
          let other : eqb b a ≡ false = grind (arith, nat_tests) in
          let none = not_below a ys (λ k d inside. let h = above' k d inside in omega arith) in
          let yes : has a (a ∷ xs) ≡ true = rw (itself a) refl in
          let no : has a (b ∷ ys) ≡ false = rw (other, none) refl in
          absurd (false≢true (sym no ∙ sym at_a ∙ yes))
      | inr (inr more) ↦
          let other : eqb a b ≡ false = grind (arith, nat_tests) in
          let none = not_below b xs (λ k d inside. let h = above k d inside in omega arith) in
          let yes : has b (b ∷ ys) ≡ true = rw (itself b) refl in
          let no : has b (a ∷ xs) ≡ false = rw (other, none) refl in
          absurd (false≢true (sym no ∙ at_b ∙ yes))
    ]

    rest : (j a b : ℕ) → a ≡ b → All (λ z. a < z) xs → All (λ z. b < z) ys → has j (a ∷ xs) ≡ has j (b ∷ ys) → has j xs ≡ has j ys
    rest j a b e above above' at = elim (cases_Bool (eqb a j)) [
      | inl here ↦
          let is : a ≡ j = eqb-true a j here in
          not_below j xs (subst (λ (n : ℕ). All (λ z. n < z) xs) is above) ∙ sym (not_below j ys (subst (λ (n : ℕ). All (λ z. n < z) ys) (sym e ∙ is) above'))
      | inr other ↦
          let other' : eqb b j ≡ false = rw e at other in
          rw (other, other') at at
    ]

-- ---- numbers in a pool

module _ (q : ℕ → Bool) (base n : ℕ) where
  abbrev passes : ℕ → Bool
  passes k = nat_le base k && (nat_lt (k - base) n && q (k - base))

  abbrev numbers : List ℕ → List ℕ
  numbers ks = filter_map (number_at q base n) ks

  numbers_in : (k : ℕ) (ks : List ℕ) → passes k ≡ true → numbers (k ∷ ks) ≡ (k - base) ∷ numbers ks
  numbers_in k ks h = rw h refl

  numbers_out : (k : ℕ) (ks : List ℕ) → passes k ≡ false → numbers (k ∷ ks) ≡ numbers ks
  numbers_out k ks h = rw h refl

  past_base : (k : ℕ) → passes k ≡ true → base ≤ k
  past_base k h = let le = and_first (nat_le base k) _ h in grind (arith, nat_tests)

  all_above : (k : ℕ) (ks : List ℕ) → base ≤ k → All (λ j. k < j) ks → All (λ j. (k - base) < j) (numbers ks)
  all_above k [] past above = All-nil (λ j. (k - base) < j)
  all_above k (j ∷ ks) past above =
      let here : k < j = All-head (λ i. k < i) j ks above in
      let later = all_above k ks past (All-tail (λ i. k < i) j ks above) in
      elim (cases_Bool (passes j)) [
        | inl stays ↦ rw (numbers_in j ks stays) (All-cons (λ i. (k - base) < i) (j - base) (numbers ks) (omega arith) later)
        | inr goes ↦ rw (numbers_out j ks goes) later
      ]

  numbers_rise : (ks : List ℕ) → Rising ks → Rising (numbers ks)
  numbers_rise [] up = up
  numbers_rise (k ∷ ks) up =
      let later = numbers_rise ks (rising_tail (λ (i : ℕ). i) k ks up) in
      let above = rising_head (λ (i : ℕ). i) k ks up in
      elim (cases_Bool (passes k)) [
        | inl stays ↦ rw (numbers_in k ks stays) (rising_from (λ (i : ℕ). i) (k - base) (numbers ks) (all_above k ks (past_base k stays) above) later)
        | inr goes ↦ rw (numbers_out k ks goes) later
      ]

  number_passes : (j : ℕ) (ks : List ℕ) → has j (numbers ks) ≡ true → (nat_lt j n && q j) ≡ true
  number_passes j [] h = absurd (false≢true h)
  number_passes j (k ∷ ks) h = elim (cases_Bool (passes k)) [
    | inl stays ↦
        let split : (eqb (k - base) j || has j (numbers ks)) ≡ true = rw (numbers_in k ks stays) at h in
        elim (cases_Bool (eqb (k - base) j)) [
          | inl here ↦ rw (eqb-true (k - base) j here) at (and_second (nat_le base k) _ stays)
          | inr other ↦ number_passes j ks (or_second _ _ split other)
        ]
    | inr goes ↦ number_passes j ks (rw (numbers_out k ks goes) at h)
  ]

  number_found : (j : ℕ) (ks : List ℕ) → (nat_lt j n && q j) ≡ true → has (base + j) ks ≡ true → has j (numbers ks) ≡ true
  number_found j [] h there = there
  number_found j (k ∷ ks) h there = elim (cases_Bool (eqb k (base + j))) [
    | inl here ↦
        let is : k ≡ base + j = eqb-true k (base + j) here in
        let off : k - base ≡ j = omega arith in
        let past : nat_le base k ≡ true = grind (arith, nat_tests) in
        let stays : passes k ≡ true = rw (past, off, h) refl in
        rw (numbers_in k ks stays, off, itself j) refl
    | inr other ↦
        let later = number_found j ks h (or_second _ _ there other) in
        elim (cases_Bool (passes k)) [
          | inl stays ↦ rw (numbers_in k ks stays, later) (true_behind (eqb (k - base) j))
          | inr goes ↦ rw (numbers_out k ks goes) later
        ]
  ]

  range_rises : (a m : ℕ) → Rising (range_with_len a m)
  range_rises a m i j d less inside =
      let long = length-range_with_len a m in
      rw (get_or-range_with_len a m i d (omega arith), get_or-range_with_len a m j d (omega arith)) (omega arith)

  range_passes : (j a m : ℕ) → has j (filter q (range_with_len a m)) ≡ true → ((nat_lt j (a + m)) && q j) ≡ true
  range_passes j a zero h = absurd (false≢true h)
  range_passes j a (suc m) h = elim (cases_Bool (q a)) [
    | inl stays ↦
        let split : (eqb a j || has j (filter q (range_with_len (a + 1) m))) ≡ true = rw stays at h in
        elim (cases_Bool (eqb a j)) [
          | inl here ↦
              let is : a ≡ j = eqb-true a j here in
              let less : nat_lt j (a + suc m) ≡ true = grind (arith, nat_tests) in
              rw (less, ← is, stays) refl
          | inr other ↦ further j a m (range_passes j (a + 1) m (or_second _ _ split other))
        ]
    | inr goes ↦ further j a m (range_passes j (a + 1) m (rw goes at h))
  ]
    where
      further : (j a m : ℕ) → (nat_lt j (a + 1 + m) && q j) ≡ true → (nat_lt j (a + suc m) && q j) ≡ true
      further j a m h = let e : a + 1 + m ≡ a + suc m = omega arith in rw e at h

  numbers_all : (ks : List ℕ) → Rising ks → ((j : ℕ) → j < n → q j ≡ true → has (base + j) ks ≡ true) → numbers ks ≡ filter q (range_with_len 0 n)
  numbers_all ks up complete =
      same_numbers (numbers ks) (filter q (range_with_len 0 n)) (numbers_rise ks up) (rising-filter (λ (i : ℕ). i) q (range_with_len 0 n) (range_rises 0 n)) (λ j. same_tests _ _
      (λ h. let both = number_passes j ks h in let less : j < n = below j (and_first (nat_lt j n) (q j) both) in among q n j less (and_second (nat_lt j n) (q j) both))
      (λ h.
      let e : 0 + n ≡ n = omega arith in
      let both : (nat_lt j n && q j) ≡ true = rw e at (range_passes j 0 n h) in
      let lt : nat_lt j n ≡ true = and_first (nat_lt j n) (q j) both in
      let less : j < n = below j lt in
      let yes = and_second (nat_lt j n) (q j) both in
      number_found j ks (rw (lt, yes) refl) (complete j less yes)))
    where
      below : (j : ℕ) → nat_lt j n ≡ true → j < n
      below j h = grind (arith, nat_tests)

-- ---- groups

-- numbers of groups sought by their places
over_places : (q : ℕ → Bool) (base n : ℕ) (groups : List Pg) → filter_map (λ g. number_at q base n (pg_key g)) groups ≡ filter_map (number_at q base n) (map pg_key groups)
over_places q base n [] = refl
over_places q base n (g ∷ gs) = elim (cases_Bool (passes q base n (pg_key g))) [
  | inl stays ↦ rw (stays, over_places q base n gs) refl
  | inr goes ↦ rw (goes, over_places q base n gs) refl
]

-- places of groups that rise do
places_rise : (groups : List Pg) → IsRising pg_key groups → Rising (map pg_key groups)
places_rise groups up i j d less inside =
    let long : length (map pg_key groups) ≡ length groups = length-map groups pg_key in
    let last : j < length groups = omega (arith, long, inside) in
    let e : Pg = record { pool = 0; number = 0 } in
    rw (get_or-map pg_key groups i e d (omega arith), get_or-map pg_key groups j e d last) (up i j e less last)

-- among groups that have all that a change concerns, exactly those of a pool are found
pub concerned_found : (m : ClusterMap) (c : ChangeParts) (p : PoolFacts) (groups : List Pg) → IsRising pg_key groups → ((g : Pg) → concerns m c g ≡ true → has_key pg_key groups (pg_key g) ≡ true)
    → spec.numbers_in m c p groups ≡ concerned_numbers m c p
concerned_found m c p groups up complete =
    over_places (λ n. concerns m c (group_of p n)) (p.id * 2 ^ 32) p.pg_num groups
    ∙ numbers_all (λ n. concerns m c (group_of p n)) (p.id * 2 ^ 32) p.pg_num (map pg_key groups) (places_rise groups up)
    (λ j less yes. key_among pg_key groups (p.id * 2 ^ 32 + j) ∙ complete (group_of p j) yes)

-- ---- candidates

-- where no number passes, none of a list does
none_of : (p : ℕ → Bool) (xs : List ℕ) → ((x : ℕ) → p x ≡ false) → list_any p xs ≡ false
none_of p [] none = refl
none_of p (x ∷ xs) none = rw (none x) (none_of p xs none)

-- nor of what entries name
none_of_entries : {E : Type 0} (names : E → List ℕ) (p : ℕ → Bool) (entries : List E) → ((x : ℕ) → p x ≡ false) → list_any (λ e. list_any p (names e)) entries ≡ false
none_of_entries names p [] none = refl
none_of_entries names p (e ∷ es) none = rw (none_of p (names e) none) (none_of_entries names p es none)

-- without reweights no exception names an OSD that gets one
none_reweighted : {E : Type 0} (names : E → List ℕ) (c : ChangeParts) (said : Option (List E)) → c.weights ≡ [] → names_reweighted names c said ≡ false
none_reweighted names c None empty = refl
none_reweighted names c (Some entries) empty = none_of_entries names (has_key (λ w. w.osd) c.weights) entries (λ osd. rw empty refl)

-- an exception that names one is there
said_has : {E : Type 0} (names : E → List ℕ) (c : ChangeParts) (es : List (Exception E)) (g : Pg) → names_reweighted names c (said_of es g) ≡ true → has_key key_of es (pg_key g) ≡ true
said_has {E} names c es g h = has-entry key_of es (pg_key g) ∙ by_entry (entry_at key_of es (pg_key g)) refl
  where
    by_entry : (e : Option (Exception E)) → entry_at key_of es (pg_key g) ≡ e → is_some (entry_at key_of es (pg_key g)) ≡ true
    by_entry None is = absurd (false≢true (rw is at h))
    by_entry (Some e) is = rw is refl

-- a group whose exceptions a change concerns is a candidate, whether OSDs are reweighted or not
by_weight : (m : ClusterMap) (c : ChangeParts) (g : Pg) (ws : List Reweight) → c.weights ≡ ws → concerns m c g ≡ true → has_key pg_key (candidates_by ws m c) (pg_key g) ≡ true
unfolding concerns
by_weight m c g [] is loud = elim (or_cases _ _ loud) [
  | inr items ↦ absurd (false≢true (sym (none_reweighted sides c (said_of m.items g) is) ∙ items))
  | inl rest ↦ elim (or_cases _ _ rest) [
    | inr explicit ↦ absurd (false≢true (sym (none_reweighted target c (said_of m.explicit g) is) ∙ explicit))
    | inl named ↦ named_has c g named
  ]
]
by_weight m c g (w ∷ ws) is loud =
    let k = pg_key g in
    has_joined (union_of (named_groups c) (excepted_groups m.explicit)) (excepted_groups m.items) k ∙ elim (or_cases _ _ loud) [
      | inr items ↦ some_or _ _ (groups_have m.items k ∙ said_has sides c m.items g items)
      | inl rest ↦ other_or _ _ (has_joined (named_groups c) (excepted_groups m.explicit) k ∙ elim (or_cases _ _ rest) [
        | inr explicit ↦ some_or _ _ (groups_have m.explicit k ∙ said_has target c m.explicit g explicit)
        | inl named ↦ other_or _ _ (named_has c g named)
      ])
    ]

-- so it always is
pub candidates_have : (m : ClusterMap) (c : ChangeParts) (g : Pg) → concerns m c g ≡ true → has_key pg_key (candidates m c) (pg_key g) ≡ true
unfolding candidates
candidates_have m c g loud = by_weight m c g c.weights refl loud

-- ---- where no OSD gets another reweight

-- a change then concerns the groups that it names
concerns_named : (m : ClusterMap) (c : ChangeParts) (g : Pg) → c.weights ≡ [] → concerns m c g ≡ is_named c g
unfolding concerns
concerns_named m c g none = rw (none_reweighted target c (said_of m.explicit g) none, none_reweighted sides c (said_of m.items g) none) (or_nothing (is_named c g))
  where
    or_nothing : (b : Bool) → ((b || false) || false) ≡ b
    or_nothing true = refl
    or_nothing false = refl

-- so it concerns the same groups of a pool by whatever map
pub concerned_alike : (m n : ClusterMap) (c : ChangeParts) (p : PoolFacts) → c.weights ≡ [] → concerned_numbers m c p ≡ concerned_numbers n c p
concerned_alike m n c p none =
    filter_agree (λ k. concerns m c (group_of p k)) (λ k. concerns n c (group_of p k))
    (λ k. concerns_named m c (group_of p k) none ∙ sym (concerns_named n c (group_of p k) none)) (range_with_len 0 p.pg_num)
