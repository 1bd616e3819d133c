-- the longest straw of a straw2 bucket
use Rattle.std.proofs.Common.{◌≡◌, ℕ, zero, suc, ◌+◌, ◌-◌, ◌/◌, ◌%◌, ◌^◌, ◌<◌, ◌≤◌, cond, min, nat_lt, true, false, inl, inr, refl, sym, ap, ◌∙◌, arith}
use Rattle.std.proofs.lemmas.Bool.{cases_Bool, cases_lt}
use Rattle.std.proofs.lemmas.Bool.Decides.{nat_tests}
use Rattle.std.proofs.Math.Nat.{div-le_self}
use Rattle.buckets.specs.declared.pick.straw2.Longest.{Longest}
use Rattle.buckets.specs.Logarithm.{crush_ln}
use Rattle.buckets.specs.Straw2.{shortfall, least_place}
use Rattle.buckets.specs.Straws.{longer_straw}

-- no straw falls shorter than one that weighs nothing
pub shortfall_small : (weight hash : ℕ) → shortfall weight hash ≤ 2 ^ 63
unfolding shortfall
shortfall_small weight hash =
    let n = 2 ^ 48 - crush_ln (hash % 2 ^ 16) in
    let low : n / weight ≤ 2 ^ 63 = omega (arith, div-le_self n weight) in
    grind (arith, nat_tests)

-- the longest of the first n straws
pub record IsLongest (short : ℕ → ℕ) (n : ℕ) (l : Longest) : Type 0 where
  pub place : l.place ≡ least_place short n
  pub none : n ≡ 0 → l.short ≡ 2 ^ 63
  pub some : 0 < n → l.short ≡ short l.place
  pub small : l.short ≤ 2 ^ 63

-- the least place below n + 1 is n, or it is the one below n
least_next : (f : ℕ → ℕ) (n m : ℕ) → m ≡ n + 1 → least_place f m ≡ cond (nat_lt (f n) (f (least_place f n))) n (least_place f n)
unfolding least_place
least_next f n m next = let e : m ≡ suc n = omega arith in ap (least_place f) e

-- of one place it is that one
least_first : (f : ℕ → ℕ) (m : ℕ) → m ≡ 1 → least_place f m ≡ 0
unfolding least_place
least_first f m e =
    ap (least_place f) e ∙ elim (cases_Bool (nat_lt (f 0) (f 0))) [
      | inl won ↦ ap (λ b. cond b 0 0) won
      | inr lost ↦ ap (λ b. cond b 0 0) lost
    ]

-- the least place is below n
pub least_below : (f : ℕ → ℕ) (n : ℕ) → 0 < n → least_place f n < n
unfolding least_place
least_below f zero some = absurd (omega arith)
least_below f (suc zero) some = rw (least_first f 1 refl) (omega arith)
least_below f (suc (suc n)) some =
    let low = least_below f (suc n) (omega arith) in
    elim (cases_Bool (nat_lt (f (suc n)) (f (least_place f (suc n))))) [
      | inl won ↦ rw (least_next f (suc n) (suc (suc n)) (omega arith), won) (omega arith)
      | inr lost ↦ rw (least_next f (suc n) (suc (suc n)) (omega arith), lost) (omega arith)
    ]

-- before the first straw
pub none_longest : (short : ℕ → ℕ) (n : ℕ) → n ≡ 0 → IsLongest short n (record { place = 0; short = 2 ^ 63 })
unfolding least_place
none_longest short n e = record {
  place = sym (ap (least_place short) e);
  none = λ _. refl;
  some = λ (h : 0 < n). absurd (omega arith);
  small = omega arith;
}

-- a longer straw takes the place
taken : (short : ℕ → ℕ) (n m s : ℕ) (l : Longest) → m ≡ n + 1 → s ≡ short n → s ≤ 2 ^ 63 → IsLongest short n l → s < l.short → IsLongest short m (record { place = n; short = s })
taken short n m s l next is low so_far less = record {
  place = elim (cases_lt 0 n) [
    | inl more ↦ (let found : l.short ≡ short (least_place short n) = so_far.some more ∙ ap short so_far.place in
        let won : nat_lt (short n) (short (least_place short n)) ≡ true = grind (arith, nat_tests) in
        sym (least_next short n m next ∙ ap (λ b. cond b n (least_place short n)) won))
    | inr none ↦ (let first : n ≡ 0 = omega arith in first ∙ sym (least_first short m (omega arith)))
  ];
  none = λ (e : m ≡ 0). absurd (omega arith);
  some = λ _. is;
  small = low;
}

-- one that is not longer leaves it
kept : (short : ℕ → ℕ) (n m s : ℕ) (l : Longest) → m ≡ n + 1 → s ≡ short n → s ≤ 2 ^ 63 → IsLongest short n l → l.short ≤ s → IsLongest short m l
kept short n m s l next is low so_far more = elim (cases_lt 0 n) [
  | inl some ↦ (let found : l.short ≡ short (least_place short n) = so_far.some some ∙ ap short so_far.place in
      let lost : nat_lt (short n) (short (least_place short n)) ≡ false = grind (arith, nat_tests) in
      record {
        place = so_far.place ∙ sym (least_next short n m next ∙ ap (λ b. cond b n (least_place short n)) lost);
        none = λ (e : m ≡ 0). absurd (omega arith);
        some = λ _. so_far.some some;
        small = so_far.small;
      })
  | inr none ↦ (let first : n ≡ 0 = omega arith in
      let place : l.place ≡ 0 = so_far.place ∙ least_none n first in
      let all : l.short ≡ 2 ^ 63 = so_far.none first in
      let same : l.short ≡ short 0 = (let e : l.short ≡ s = omega arith in e ∙ is ∙ ap short first) in
      record {
        place = place ∙ sym (least_first short m (omega arith));
        none = λ (e : m ≡ 0). absurd (omega arith);
        some = λ _. same ∙ ap short (sym place);
        small = so_far.small;
      })
]
  where
    least_none : (n : ℕ) → n ≡ 0 → least_place short n ≡ 0
    least_none n e = sym (none_longest short n e).place

-- of the numbers of the places below n that at one is the least, and less than those before it
pub record IsLeast (f : ℕ → ℕ) (n place : ℕ) : Type 0 where
  pub least : (other : ℕ) → other < n → f place ≤ f other
  pub first : (earlier : ℕ) → earlier < place → f place < f earlier

-- one place more
least_more : (f : ℕ → ℕ) (n place : ℕ) → place ≤ n → IsLeast f n place → IsLeast f (suc n) (cond (nat_lt (f n) (f place)) n place)
least_more f n place within so_far = elim (cases_lt (f n) (f place)) [
  | inl less ↦ (let won : nat_lt (f n) (f place) ≡ true = grind (arith, nat_tests) in
      rw won (record {
        least = λ (other : ℕ) (h : other < suc n). elim (cases_lt other n) [
          | inl before ↦ omega (arith, so_far.least other before)
          | inr here ↦ (let e : other ≡ n = omega arith in rw e (omega arith))
        ];
        first = λ (earlier : ℕ) (h : earlier < n). omega (arith, so_far.least earlier h);
      }))
  | inr more ↦ (let lost : nat_lt (f n) (f place) ≡ false = grind (arith, nat_tests) in
      rw lost (record {
        least = λ (other : ℕ) (h : other < suc n). elim (cases_lt other n) [
          | inl before ↦ so_far.least other before
          | inr here ↦ (let e : other ≡ n = omega arith in rw e more)
        ];
        first = so_far.first;
      }))
]

-- the least place is no greater than n
least_within : (f : ℕ → ℕ) (n : ℕ) → least_place f n ≤ n
unfolding least_place
least_within f zero = omega arith
least_within f (suc n) = omega (arith, least_below f (suc n) (omega arith))

-- it is the first of those with the least number
pub least_is : (f : ℕ → ℕ) (n : ℕ) → IsLeast f n (least_place f n)
unfolding least_place
least_is f zero = record {
  least = λ (other : ℕ) (h : other < 0). absurd (omega arith);
  first = λ (earlier : ℕ) (h : earlier < 0). absurd (omega arith);
}
least_is f (suc n) = least_more f n (least_place f n) (least_within f n) (least_is f n)

-- the longest of one more
pub longer_next : (short : ℕ → ℕ) (n m s : ℕ) (l k : Longest) → m ≡ n + 1 → s ≡ short n → s ≤ 2 ^ 63 → k ≡ longer_straw l n s → IsLongest short n l → IsLongest short m k
longer_next short n m s l k next is low e so_far = elim (cases_lt s l.short) [
  | inl less ↦ (let won : nat_lt s l.short ≡ true = grind (arith, nat_tests) in
      let new : k ≡ record { place = n; short = s } = e ∙ ap (λ b. cond b (record { place = n; short = s }) l) won in
      rw new (taken short n m s l next is low so_far less))
  | inr more ↦ (let lost : nat_lt s l.short ≡ false = grind (arith, nat_tests) in
      let same : k ≡ l = e ∙ ap (λ b. cond b (record { place = n; short = s }) l) lost in
      rw same (kept short n m s l next is low so_far more))
]

-- a straw that was there before changes nothing
pub longer_again : (short : ℕ → ℕ) (n place s : ℕ) (l k : Longest) → place < n → s ≡ short place → k ≡ longer_straw l place s → IsLongest short n l → IsLongest short n k
longer_again short n place s l k there is e so_far =
    let best : l.short ≡ short (least_place short n) = so_far.some (omega arith) ∙ ap short so_far.place in
    let more = (least_is short n).least place there in
    let lost : nat_lt s l.short ≡ false = grind (arith, nat_tests) in
    let same : k ≡ l = e ∙ ap (λ b. cond b (record { place = place; short = s }) l) lost in
    rw same so_far

-- the straws of the first places, one more of them or the last one again
pub longer_within : (short : ℕ → ℕ) (len n m place s : ℕ) (l k : Longest) → 0 < len → m ≡ n + 1 → place ≡ min n (len - 1) → s ≡ short place → s ≤ 2 ^ 63 → k ≡ longer_straw l place s → IsLongest short (min n len) l → IsLongest short (min m len) k
longer_within short len n m place s l k some next here is low e so_far = elim (cases_lt n len) [
  | inl more ↦ (let same : place ≡ min n len = omega arith in
      longer_next short (min n len) (min m len) s l k (omega arith) (is ∙ ap short same) low (e ∙ ap (λ p. longer_straw l p s) same) so_far)
  | inr all ↦ (let same : min m len ≡ min n len = omega arith in
      rw same (longer_again short (min n len) place s l k (omega arith) is e so_far))
]
