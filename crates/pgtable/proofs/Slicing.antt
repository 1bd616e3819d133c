-- Groups in ascending order of which those of a pool are one slice.
use Rattle.std.proofs.Common.{◌≡◌, ◌∙◌, refl, sym, ap, ℕ, zero, suc, ◌+◌, ◌-◌, ◌*◌, ◌^◌, ◌<◌, ◌≤◌, Bool, true, false, ◌&&◌, List, [], ◌∷◌, length, get_or, take, drop, None, inl, inr, arith}
use Rattle.std.specs.Prelude.{nat_lt, nat_le}
use mathlib.Core.Bool.{false≢true}
use Rattle.std.specs.List.{filter, list_any, between}
use Rattle.std.proofs.lemmas.Bool.{cases_Bool}
use Rattle.std.proofs.lemmas.Bool.Decides.{nat_tests}
use Rattle.std.proofs.lemmas.Slice.{between_to_end}
use Rattle.maptypes.specs.declared.pg.Pg.{Pg}
use Rattle.maptypes.specs.declared.change.ChangeParts.{ChangeParts}
use Rattle.maptypes.specs.Exceptions.{pg_key}
use Rattle.maptypes.specs.Pools.{PoolFacts}
use Rattle.osdmap.specs.Maps.{ClusterMap}
use Rattle.pgtable.specs.Candidates.{number_at, numbers_in, is_of_pool}

-- a number not below another, and one below it
le_true : (a b : ℕ) → a ≤ b → nat_le a b ≡ true
le_true a b h = grind (arith, nat_tests)

-- a number that is below another is not at or above it
le_false : (a b : ℕ) → b < a → nat_le a b ≡ false
le_false a b h = grind (arith, nat_tests)

-- the same of the strict test
lt_true : (a b : ℕ) → a < b → nat_lt a b ≡ true
lt_true a b h = grind (arith, nat_tests)

-- a number at or above another is not below it
lt_false : (a b : ℕ) → b ≤ a → nat_lt a b ≡ false
lt_false a b h = grind (arith, nat_tests)

-- where all are below a key, those below it are all
all_below : (key : ℕ) (gs : List Pg) → ((k : ℕ) (d : Pg) → k < length gs → key ≤ pg_key (get_or gs k d)) → filter (λ g. nat_lt (pg_key g) key) gs ≡ []
all_below key [] above = refl
all_below key (g ∷ gs) above = rw (lt_false (pg_key g) key (above 0 g (omega arith))) (all_below key gs (λ k d h. above (suc k) d (omega arith)))

-- and those not below it where none is
none_below : (key : ℕ) (gs : List Pg) → ((k : ℕ) (d : Pg) → k < length gs → key ≤ pg_key (get_or gs k d)) → filter (λ g. nat_le key (pg_key g)) gs ≡ gs
none_below key [] above = refl
none_below key (g ∷ gs) above = rw (le_true key (pg_key g) (above 0 g (omega arith))) (ap (λ z. g ∷ z) (none_below key gs (λ k d h. above (suc k) d (omega arith))))

-- those behind a place before which all are below a key, and behind which none is
dropped : (key : ℕ) (gs : List Pg) (n : ℕ) → ((k : ℕ) (d : Pg) → k < n → pg_key (get_or gs k d) < key) → ((k : ℕ) (d : Pg) → n ≤ k → k < length gs → key ≤ pg_key (get_or gs k d)) → n ≤ length gs → drop n gs ≡ filter (λ g. nat_le key (pg_key g)) gs
dropped key gs zero low high h = sym (none_below key gs (λ k d l. high k d (omega arith) l))
dropped key [] (suc n) low high h = absurd (omega arith)
dropped key (g ∷ gs) (suc n) low high h = rw (le_false key (pg_key g) (low 0 g (omega arith))) (dropped key gs n (λ k d l. low (suc k) d (omega arith)) (λ k d l r. high (suc k) d (omega arith) (omega arith)) (omega arith))

-- those before such a place
pub taken : (key : ℕ) (gs : List Pg) (n : ℕ) → ((k : ℕ) (d : Pg) → k < n → pg_key (get_or gs k d) < key) → ((k : ℕ) (d : Pg) → n ≤ k → k < length gs → key ≤ pg_key (get_or gs k d)) → n ≤ length gs → take n gs ≡ filter (λ g. nat_lt (pg_key g) key) gs
taken key gs zero low high h = sym (all_below key gs (λ k d l. high k d (omega arith) l))
taken key [] (suc n) low high h = absurd (omega arith)
taken key (g ∷ gs) (suc n) low high h = rw (lt_true (pg_key g) key (low 0 g (omega arith))) (ap (λ z. g ∷ z) (taken key gs n (λ k d l. low (suc k) d (omega arith)) (λ k d l r. high (suc k) d (omega arith) (omega arith)) (omega arith)))

-- as a slice up to the end
pub dropped_to : (key : ℕ) (gs : List Pg) (n e : ℕ) → ((k : ℕ) (d : Pg) → k < n → pg_key (get_or gs k d) < key) → ((k : ℕ) (d : Pg) → n ≤ k → k < length gs → key ≤ pg_key (get_or gs k d)) → n ≤ length gs → length gs ≤ e → between n e gs ≡ filter (λ g. nat_le key (pg_key g)) gs
dropped_to key gs n e low high h l = between_to_end gs n e l ∙ dropped key gs n low high h

-- of a list those that pass one test, and of these those that pass another
pub filter-filter : {X : Type 0} (p q : X → Bool) (xs : List X) → filter q (filter p xs) ≡ filter (λ x. p x && q x) xs
filter-filter p q [] = refl
filter-filter p q (x ∷ xs) = elim (cases_Bool (p x)) [
  | inl passes ↦ rw (passes, filter-filter p q xs) refl
  | inr fails ↦ rw (fails, filter-filter p q xs) refl
]

-- a group of another pool has no number in a pool
no_number : (q : ℕ → Bool) (base n key : ℕ) → (nat_le base key && nat_lt key (base + n)) ≡ false → number_at q base n key ≡ None
no_number q base n key out = elim (cases_Bool (nat_le base key)) [
  | inl past ↦
      let far : nat_lt key (base + n) ≡ false = rw past at out in
      let e : nat_lt (key - base) n ≡ false = grind (arith, nat_tests) in
      rw (past, e) refl
  | inr before ↦ rw before refl
]

-- the numbers in a pool of groups are those of the groups that stand in it
pub numbers-in_pool : (m : ClusterMap) (c : ChangeParts) (p : PoolFacts) (groups slice : List Pg) → slice ≡ filter (is_of_pool p) groups → numbers_in m c p slice ≡ numbers_in m c p groups
numbers-in_pool m c p groups slice e = rw e (all groups)
  where
    all : (groups : List Pg) → numbers_in m c p (filter (is_of_pool p) groups) ≡ numbers_in m c p groups
    all [] = refl
    all (g ∷ gs) = elim (cases_Bool (is_of_pool p g)) [
      | inl inside ↦ rw (inside, all gs) refl
      | inr out ↦ rw (out, no_number _ (p.id * 2 ^ 32) p.pg_num (pg_key g) out) (all gs)
    ]

-- groups from the key of a pool's first group on, and of these those before the key behind its last, are those in it
pub in_pool : (p : PoolFacts) (first end : ℕ) (later slice groups : List Pg) → later ≡ filter (λ g. nat_le first (pg_key g)) groups → slice ≡ filter (λ g. nat_lt (pg_key g) end) later → (first ≡ p.id * 2 ^ 32) × (end ≡ p.id * 2 ^ 32 + p.pg_num) → slice ≡ filter (is_of_pool p) groups
in_pool p first end later slice groups e f is = f ∙ rw (e, is.0, is.1) (filter-filter (λ g. nat_le (p.id * 2 ^ 32) (pg_key g)) (λ g. nat_lt (pg_key g) (p.id * 2 ^ 32 + p.pg_num)) groups)

-- where no group stands in a pool, none has a number there
pub none_in_pool : (m : ClusterMap) (c : ChangeParts) (p : PoolFacts) (groups : List Pg) → list_any (is_of_pool p) groups ≡ false → [] ≡ numbers_in m c p groups
none_in_pool m c p groups none = numbers-in_pool m c p groups [] (none_pass groups none)
  where
    none_pass : (gs : List Pg) → list_any (is_of_pool p) gs ≡ false → [] ≡ filter (is_of_pool p) gs
    none_pass [] out = refl
    none_pass (g ∷ gs) out = elim (cases_Bool (is_of_pool p g)) [
      | inl inside ↦ let wrong : true ≡ false = rw inside at out in absurd (false≢true (sym wrong))
      | inr other ↦ rw other (none_pass gs (rw other at out))
    ]
