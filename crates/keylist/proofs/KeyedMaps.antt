-- Lists with rising keys as finite maps: what is found, what holds of each entry and how many there are, after entries
-- were put in or left out.
use Rattle.std.proofs.Common.{◌≡◌, ℕ, ◌+◌, ◌-◌, ◌<◌, ◌≤◌, ◌==◌, Bool, true, false, not, cond, ◌&&◌, List, [], ◌∷◌, length, get_or, take, Option, Some, None, reverse, refl, sym, ap, ◌∙◌, inl, inr, arith, eq-eqb}
use Rattle.std.specs.Prelude.{nat_lt, ◌||◌}
use Rattle.std.specs.List.{fold, All, filter, find, list_all}
use Rattle.std.specs.List.Sorted.{IsNonDecreasingBy}
use Rattle.std.specs.Option.{option_or, is_some}
use Rattle.std.proofs.lemmas.Bool.{cases_Bool, cases_lt, cases_order, ne_eqb, eqb-true, lt-ltb, le-ltb, and_parts, and_from}
use Rattle.std.proofs.lemmas.Grind.{fold-append}
use Rattle.std.proofs.lemmas.List.{reverse-append, length-take, get_or-take, get_or_default, take_more}
use Rattle.std.proofs.lemmas.List.Elements.{All-nil, All-cons, All-head, All-tail, All-weaker}
use Rattle.std.proofs.lemmas.List.Sums.{AllPass-from_list_all, list_all-from_AllPass}
use Rattle.std.proofs.lemmas.List.Folds.{find-append, list_any_at, list_any_none}
use Rattle.std.proofs.lemmas.List.Sorted.{IsPermutation-reverse}
use Rattle.keylist.specs.Keys.{has_key, entry_at}
use Rattle.keylist.specs.Order.{IsRising}
use Rattle.keylist.specs.Puts.{put}
use Rattle.keylist.proofs.Distinct.{find-moved, rising_distinct}
use Rattle.keylist.proofs.KeyedOrder.{rising_tail, rising_head, rising_from}
use Rattle.keylist.proofs.KeyedPuts.{put_past, put_over, put_before, All-put, All-puts}

-- ---- choices of two tests

-- a choice behind the same choice
cond_twice : {X : Type 0} (b : Bool) (x y z : X) → cond b x z ≡ cond b x (cond b y z)
cond_twice true x y z = refl
cond_twice false x y z = refl

-- two tests that do not hold together may be asked in either order
cond_swap : {X : Type 0} (a b : Bool) (x y z : X) → (a ≡ true → b ≡ false) → cond a x (cond b y z) ≡ cond b y (cond a x z)
cond_swap true b x y z apart = rw (apart refl) refl
cond_swap false b x y z apart = refl

-- a choice of an answer, else of others
cond_or : {X : Type 0} (o q : Option X) (b : Bool) (x : X) → option_or o (cond b (Some x) q) ≡ option_or (option_or o (cond b (Some x) None)) q
cond_or None q true x = refl
cond_or None q false x = refl
cond_or (Some y) q b x = refl

-- whether a choice finds something
is_some-cond : {X : Type 0} (b : Bool) (x : X) (o : Option X) → is_some (cond b (Some x) o) ≡ (b || is_some o)
is_some-cond true x o = refl
is_some-cond false x o = refl

-- whether one of two answers is there
is_some-or : {X : Type 0} (o q : Option X) → is_some (option_or o q) ≡ (is_some o || is_some q)
is_some-or None q = refl
is_some-or (Some x) q = refl

module _ {X : Type 0} (key : X → ℕ) where
  -- ---- what is found

  pub has-entry : (xs : List X) (k : ℕ) → has_key key xs k ≡ is_some (entry_at key xs k)
  has-entry [] k = refl
  has-entry (x ∷ xs) k = rw (is_some-cond (key x == k) x (entry_at key xs k), has-entry xs k) refl

  pub entry-put : (xs : List X) (e : X) (k : ℕ) → entry_at key (put key xs e) k ≡ cond (key e == k) (Some e) (entry_at key xs k)
  unfolding put
  entry-put [] e k = refl
  entry-put (x ∷ xs) e k = elim (cases_order (key x) (key e)) [
    | inl same ↦ rw (put_over key x xs e same, same) (cond_twice (key e == k) (Some e) (Some x) (entry_at key xs k))
    | inr (inl below) ↦
        rw (put_past key x xs e below, entry-put xs e k)
        (cond_swap (key x == k) (key e == k) (Some x) (Some e) (entry_at key xs k) (λ here. ne_eqb (key e) k (λ there. omega (arith, eqb-true (key x) k here))))
    | inr (inr above) ↦ rw (put_before key x xs e above) refl
  ]

  -- of those put in the last, else what was there
  pub entry-puts : (xs new : List X) (k : ℕ) → entry_at key (fold (put key) xs new) k ≡ option_or (entry_at key (reverse new) k) (entry_at key xs k)
  entry-puts xs [] k = refl
  entry-puts xs (e ∷ es) k =
      let test = λ (x : X). key x == k in
      let last : entry_at key (reverse (e ∷ es)) k ≡ option_or (entry_at key (reverse es) k) (cond (key e == k) (Some e) None) =
      ap (find test) (reverse-append (e ∷ []) es) ∙ find-append test (reverse es) (e ∷ []) in
      entry-puts (put key xs e) es k ∙ ap (option_or (entry_at key (reverse es) k)) (entry-put xs e k)
      ∙ cond_or (entry_at key (reverse es) k) (entry_at key xs k) (key e == k) e ∙ ap (λ o. option_or o (entry_at key xs k)) (sym last)

  -- where the keys rise the last with a key is the first with it
  pub entry-reverse : (xs : List X) (k : ℕ) → IsRising key xs → entry_at key (reverse xs) k ≡ entry_at key xs k
  entry-reverse xs k rises = find-moved key xs (reverse xs) (IsPermutation-reverse xs) (rising_distinct key xs rises) k

  -- where entries are left out by their keys
  pub entry-filter : (p : ℕ → Bool) (xs : List X) (k : ℕ) → entry_at key (filter (λ x. p (key x)) xs) k ≡ cond (p k) (entry_at key xs k) None
  entry-filter p [] k = elim (cases_Bool (p k)) [ inl passes ↦ rw passes refl | inr fails ↦ rw fails refl ]
  entry-filter p (x ∷ xs) k =
      let rest = entry-filter p xs k in
      elim (cases_Bool (key x == k)) [
        | inl here ↦ elim (cases_Bool (p (key x))) [
          | inl passes ↦ rw (passes, here, rw (eqb-true (key x) k here) at passes) refl
          | inr fails ↦ let none : p k ≡ false = rw (eqb-true (key x) k here) at fails in rw (fails, none) (rw none at rest)
        ]
        | inr other ↦ elim (cases_Bool (p (key x))) [
          | inl passes ↦ rw (passes, other) rest
          | inr fails ↦ rw (fails, other) rest
        ]
      ]

  -- where the entries are left out whose keys are among others
  pub entry-without : {Y : Type 0} (name : Y → ℕ) (ks : List Y) (xs : List X) (k : ℕ)
      → entry_at key (filter (λ x. not (has_key name ks (key x))) xs) k ≡ cond (has_key name ks k) None (entry_at key xs k)
  entry-without name ks xs k = entry-filter (λ j. not (has_key name ks j)) xs k ∙ flip (has_key name ks k) (entry_at key xs k)
    where
      flip : (b : Bool) (o : Option X) → cond (not b) o None ≡ cond b None o
      flip true o = refl
      flip false o = refl

  -- ---- which keys there are

  pub has-put : (xs : List X) (e : X) (k : ℕ) → has_key key (put key xs e) k ≡ ((key e == k) || has_key key xs k)
  has-put xs e k =
      has-entry (put key xs e) k ∙ ap is_some (entry-put xs e k) ∙ is_some-cond (key e == k) e (entry_at key xs k) ∙ ap (λ b. (key e == k) || b) (sym (has-entry xs k))

  pub has-puts : (xs new : List X) (k : ℕ) → has_key key (fold (put key) xs new) k ≡ (has_key key new k || has_key key xs k)
  has-puts xs [] k = refl
  has-puts xs (e ∷ es) k = has-puts (put key xs e) es k ∙ rw (has-put xs e k) (turn (has_key key es k) (key e == k) (has_key key xs k))
    where
      turn : (a b c : Bool) → (a || (b || c)) ≡ ((b || a) || c)
      turn a b c = grind arith

  -- ---- what holds of each

  pub list_all-put : (p : X → Bool) (xs : List X) (e : X) → list_all p xs ≡ true → p e ≡ true → list_all p (put key xs e) ≡ true
  list_all-put p xs e all here = list_all-from_AllPass p (put key xs e) (All-put key (λ x. p x ≡ true) xs e (AllPass-from_list_all p xs all) here)

  pub list_all-puts : (p : X → Bool) (xs new : List X) → list_all p xs ≡ true → list_all p new ≡ true → list_all p (fold (put key) xs new) ≡ true
  list_all-puts p xs [] all more = all
  list_all-puts p xs (e ∷ es) all more =
      let parts = and_parts (p e) (list_all p es) more in
      list_all-puts p (put key xs e) es (list_all-put p xs e all parts.0) parts.1

  -- ---- the order

  pub rising-put : (xs : List X) (e : X) → IsRising key xs → IsRising key (put key xs e)
  unfolding put
  rising-put [] e rises = rising_from key e [] (All-nil (λ y. key e < key y)) rises
  rising-put (x ∷ xs) e rises =
      let above = rising_head key x xs rises in
      let rest = rising_tail key x xs rises in
      elim (cases_order (key x) (key e)) [
        | inl same ↦ rw (put_over key x xs e same) (rising_from key e xs (rw same at above) rest)
        | inr (inl below) ↦ rw (put_past key x xs e below) (rising_from key x (put key xs e) (All-put key (λ y. key x < key y) xs e above below) (rising-put xs e rest))
        | inr (inr under) ↦
            rw (put_before key x xs e under)
            (rising_from key e (x ∷ xs) (All-cons (λ y. key e < key y) x xs under (All-weaker (λ y. key x < key y) (λ y. key e < key y) (λ y over. omega arith) xs above)) rises)
      ]

  pub rising-puts : (xs new : List X) → IsRising key xs → IsRising key (fold (put key) xs new)
  rising-puts xs [] rises = rises
  rising-puts xs (e ∷ es) rises = rising-puts (put key xs e) es (rising-put xs e rises)

  -- ---- how many there are

  pub length-put : (xs : List X) (e : X) → IsRising key xs → length (put key xs e) ≡ length xs + cond (has_key key xs (key e)) 0 1
  unfolding put
  length-put [] e rises = refl
  length-put (x ∷ xs) e rises = elim (cases_order (key x) (key e)) [
    | inl same ↦ rw (put_over key x xs e same, eq-eqb (key x) (key e) same) (omega arith)
    | inr (inl below) ↦
        rw (put_past key x xs e below, ne_eqb (key x) (key e) (λ same. omega arith)) (omega (arith, length-put xs e (rising_tail key x xs rises)))
    | inr (inr under) ↦
        let none : has_key key (x ∷ xs) (key e) ≡ false = list_any_none (λ y. key y == key e) (x ∷ xs)
        (All-cons (λ y. (key y == key e) ≡ false) x xs (ne_eqb (key x) (key e) (λ same. omega arith))
        (All-weaker (λ y. key x < key y) (λ y. (key y == key e) ≡ false) (λ y over. ne_eqb (key y) (key e) (λ same. omega arith)) xs (rising_head key x xs rises))) in
        rw (put_before key x xs e under, none) (omega arith)
  ]

  put_longer : (xs : List X) (e : X) → length xs ≤ length (put key xs e)
  unfolding put
  put_longer [] e = omega arith
  put_longer (x ∷ xs) e = elim (cases_order (key x) (key e)) [
    | inl same ↦ rw (put_over key x xs e same) (omega arith)
    | inr (inl below) ↦ rw (put_past key x xs e below) (omega (arith, put_longer xs e))
    | inr (inr under) ↦ rw (put_before key x xs e under) (omega arith)
  ]

  pub length-puts_least : (xs new : List X) → length xs ≤ length (fold (put key) xs new)
  length-puts_least xs [] = omega arith
  length-puts_least xs (e ∷ es) = omega (arith, put_longer xs e, length-puts_least (put key xs e) es)

  pub length-puts_most : (xs new : List X) → IsRising key xs → length (fold (put key) xs new) ≤ length xs + length new
  length-puts_most xs [] rises = omega arith
  length-puts_most xs (e ∷ es) rises = omega (arith, length-puts_most (put key xs e) es (rising-put xs e rises), length-put xs e rises, at_most (has_key key xs (key e)))
    where
      at_most : (b : Bool) → cond b 0 1 ≤ 1
      at_most true = omega arith
      at_most false = omega arith

-- ---- one after another

module _ {X : Type 0} (key : X → ℕ) where
  -- in ascending order an entry has another key than those before it where that of the one before it is lower
  pub first-shown : (new : List X) (at : ℕ) (x y d : X) → IsNonDecreasingBy key new → 0 < at → at < length new → x ≡ get_or new (at - 1) x → y ≡ get_or new at y
      → nat_lt (key x) (key y) ≡ not (has_key key (take at new) (key (get_or new at d)))
  first-shown new at x y d ascends later inside before here =
      let k = key (get_or new at d) in
      let front = take at new in
      let long : length front ≡ at = rw length-take (omega arith) in
      let lower : key (get_or new (at - 1) d) ≡ key x = ap key (get_or_default new (at - 1) d x (omega arith) ∙ sym before) in
      let level : k ≡ key y = ap key (get_or_default new at d y inside ∙ sym here) in
      elim (cases_lt (key x) (key y)) [
        | inl below ↦
            let none : has_key key front k ≡ false = list_any_none (λ z. key z == k) front (λ j e within.
            let same = get_or-take at new j e (omega arith) in
            let order = ascends j (at - 1) e (omega arith) (omega arith) in
            let other = ap key (get_or_default new (at - 1) e d (omega arith)) in
            rw same (ne_eqb _ k (λ eq. omega (arith, below, eq, order, other, lower, level)))) in
            rw (none, lt-ltb _ _ below) refl
        | inr over ↦
            let order = ascends (at - 1) at d (omega arith) inside in
            let tie : key (get_or new (at - 1) d) ≡ k = omega (arith, over, order, lower, level) in
            let last : get_or front (at - 1) d ≡ get_or new (at - 1) d = get_or-take at new (at - 1) d (omega arith) in
            let some : has_key key front k ≡ true = list_any_at (λ z. key z == k) front (at - 1) d (omega (arith, long)) (rw last (eq-eqb _ k tie)) in
            rw (some, le-ltb _ _ over) refl
      ]

  -- one more of them, and whether it has a key that was not there
  pub adds : (old new : List X) (at : ℕ) (d : X) → IsRising key old → at < length new
      → length (fold (put key) old (take (at + 1) new)) ≡ length (fold (put key) old (take at new)) + cond (has_key key (take at new) (key (get_or new at d)) || has_key key old (key (get_or new at d))) 0 1
  adds old new at d rises inside =
      let made = fold (put key) old (take at new) in
      let e = get_or new at d in
      let more : fold (put key) old (take (at + 1) new) ≡ put key made e =
      ap (fold (put key) old) (take_more new at d inside) ∙ fold-append (put key) old (take at new) (e ∷ []) in
      ap length more ∙ length-put key made e (rising-puts key old (take at new) rises) ∙ ap (λ b. length made + cond b 0 1) (has-puts key old (take at new) (key e))

  -- so a count of those before a place goes on by one where the entry is the first with its key and that was not there
  pub counted : (old new : List X) (at count n : ℕ) (x : X) (first had : Bool) → IsRising key old → at < length new → x ≡ get_or new at x
      → count ≡ length (fold (put key) old (take at new)) → first ≡ not (has_key key (take at new) (key (get_or new at x))) → had ≡ has_key key old (key x)
      → n ≡ count + cond (first && not had) 1 0 → n ≡ length (fold (put key) old (take (at + 1) new))
  counted old new at count n x first had rises inside here so_far is_first is_had is =
      let k = key (get_or new at x) in
      let known : has_key key old k ≡ had = ap (λ y. has_key key old (key y)) (sym here) ∙ sym is_had in
      is ∙ rw (is_first, so_far, adds old new at x rises inside, known) (ap (λ m. length (fold (put key) old (take at new)) + m) (flip (has_key key (take at new) k) had))
    where
      flip : (a b : Bool) → ◌≡◌ {A = ℕ} (cond (not a && not b) 1 0) (cond (a || b) 0 1)
      flip true b = refl
      flip false true = refl
      flip false false = refl

-- each that passes of those kept
pub list_all-filter : {X : Type 0} (p q r : X → Bool) → ((x : X) → p x ≡ true → r x ≡ true → q x ≡ true) → (xs : List X) → list_all p xs ≡ true → list_all q (filter r xs) ≡ true
list_all-filter p q r gives [] all = refl
list_all-filter p q r gives (x ∷ xs) all =
    let parts = and_parts (p x) (list_all p xs) all in
    let rest = list_all-filter p q r gives xs parts.1 in
    elim (cases_Bool (r x)) [
      | inl kept ↦ rw kept (and_from (q x) (list_all q (filter r xs)) (gives x parts.0 kept) rest)
      | inr left ↦ rw left rest
    ]
