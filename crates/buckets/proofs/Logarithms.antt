-- the bounds of the logarithm and of its parts
use Rattle.std.proofs.Common.{◌≡◌, ℕ, suc, ◌+◌, ◌-◌, ◌*◌, ◌/◌, ◌%◌, ◌^◌, ◌<◌, ◌≤◌, length, get_or, slice_index, nat_lt, nat_le, Bool, true, ◌&&◌, take, inl, inr, refl, sym, ap, ◌∙◌, arith}
use Rattle.std.specs.List.{list_all, range_with_len}
use Rattle.std.proofs.lemmas.Bool.{cases_lt}
use Rattle.std.proofs.lemmas.Bool.Decides.{nat_tests}
use Rattle.std.proofs.lemmas.List.Sums.{AllPass-from_list_all}
use Rattle.std.proofs.lemmas.Nat.{leading_top, pow-add, mul-le}
use Rattle.std.proofs.Math.Nat.{pow-le-pow_right}
use Rattle.std.proofs.lemmas.Bool.{and_parts, ltb-true, leb-true}
use Rattle.std.proofs.lemmas.List.{length-take-le, get_or-take}
use Rattle.std.proofs.lemmas.List.FromFn.{length-range_with_len, get_or-range_with_len}
use Rattle.buckets.specs.Logarithm.{rh_lh, ll, shift_of, crush_ln}
use Rattle.buckets.specs.Shortfalls.{least_shortfalls}

-- the entries of the first table
pub rh_lh_small : (at : ℕ) → at < 258 → slice_index rh_lh at ≤ 2 ^ 48
unfolding rh_lh
rh_lh_small at h = grind (arith, nat_tests, AllPass-from_list_all (λ n. nat_le n (2 ^ 48)) rh_lh refl at 0 h)

-- and those of the second
pub ll_small : (at : ℕ) → at < 256 → slice_index ll at ≤ 2 ^ 48
unfolding ll
ll_small at h = grind (arith, nat_tests, AllPass-from_list_all (λ n. nat_le n (2 ^ 48)) ll refl at 0 h)

-- a number between powers of two
between : (x j s : ℕ) → j + s ≡ 15 → 2 ^ j ≤ x → x < 2 ^ suc j → (2 ^ 15 ≤ x * 2 ^ s) × (x * 2 ^ s ≤ 2 ^ 16)
between x j s e low high =
    let all : 2 ^ j * 2 ^ s ≡ 2 ^ 15 = sym (pow-add 2 j s) ∙ ap (λ n. 2 ^ n) e in
    let least = mul-le (2 ^ j) (2 ^ s) x (2 ^ s) low (omega arith) in
    let most = mul-le x (2 ^ s) (2 * 2 ^ j) (2 ^ s) (omega arith) (omega arith) in
    (omega arith, omega arith)

-- a number shifted so
pub shifted : (x s : ℕ) → 0 < x → x ≤ 2 ^ 16 → s ≡ shift_of x → (2 ^ 15 ≤ x * 2 ^ s) × (x * 2 ^ s ≤ 2 ^ 16)
shifted x s some few e =
    let top = leading_top 32 x some (omega arith) in
    elim (cases_lt top.0 16) [
      | inl low ↦ between x top.0 s (omega arith) top.2 top.3
      | inr high ↦ (let most = pow-le-pow_right {n = 2} (omega arith) {i = 16} {j = top.0} high in
          let none : s ≡ 0 = omega arith in
          rw none (omega arith, omega arith))
    ]

-- the second table has 256 entries
ll_length : length ll ≡ 256
unfolding ll
ll_length = refl

-- the last reciprocal is a half
last_half : slice_index rh_lh 256 ≡ 2 ^ 47
unfolding rh_lh
last_half = refl

-- a number up to 2 ^ 16 times an entry that is at most 2 ^ 48, and half of it at the last
pub product_small : (x at entry : ℕ) → x ≤ 2 ^ 16 → at ≡ 2 * (x / 256 - 128) → entry ≡ slice_index rh_lh at → entry ≤ 2 ^ 48 → x * entry < 2 ^ 64
product_small x at entry few here is small = elim (cases_lt x (2 ^ 16)) [
  | inl below ↦ omega (arith, mul-le x entry (2 ^ 16 - 1) (2 ^ 48) (omega arith) small)
  | inr last ↦ (let e : x ≡ 2 ^ 16 = omega arith in
      let place : at ≡ 256 = omega arith in
      let half : entry ≡ 2 ^ 47 = is ∙ ap (slice_index rh_lh) place ∙ last_half in
      rw (e, half) (omega arith))
]

-- with this part after the point the logarithm falls short of the next number by what is said of two bytes
is_short_at : ℕ → ℕ → Bool
is_short_at k n =
    let part = (slice_index rh_lh (2 * k + 1) + n) / 2 ^ 4 in
    nat_le (part + slice_index least_shortfalls (k + 127)) (2 ^ 44) && nat_le (part + slice_index least_shortfalls (k + 128)) (2 ^ 44)

-- what holds at entry k of the first table: a number whose entry it is comes to 2 ^ 63 at least, and to fewer than 2 ^ 8 places
-- more, and with each of the entries of the second table at those places the logarithm falls short of the next number
is_low_at : ℕ → Bool
is_low_at k =
    let rh = slice_index rh_lh (2 * k) in
    let most = (256 * (k + 129) - 1) * rh in
    nat_le (2 ^ 63) (256 * (k + 128) * rh) && (nat_lt most (33024 * 2 ^ 48)
    && list_all (is_short_at k) (take (most / 2 ^ 48 - 32767) ll))

-- each entry but the last
low_at_each : list_all is_low_at (range_with_len 0 128) ≡ true
unfolding is_low_at is_short_at rh_lh ll least_shortfalls
low_at_each = refl

-- what is divided falls between quotients
quotients : (p low high : ℕ) → 2 ^ 63 ≤ p → p ≤ high → high < 33024 * 2 ^ 48 → (p / 2 ^ 48 % 2 ^ 8 < high / 2 ^ 48 - 32767)
quotients p low high least most fits = omega arith

-- what stands after the point of the logarithm of a number with this entry, and with the entry that follows it
pub record IsShort (k part : ℕ) : Type 0 where
  pub here : part + slice_index least_shortfalls (k + 127) ≤ 2 ^ 44
  pub next : part + slice_index least_shortfalls (k + 128) ≤ 2 ^ 44

-- the logarithm of a number from 2 ^ 15 up to below 2 ^ 16
top_short : (x k : ℕ) → 2 ^ 15 ≤ x → x < 2 ^ 16 → k ≡ x / 2 ^ 8 - 128
    → IsShort k ((slice_index rh_lh (2 * k + 1) + slice_index ll (x * slice_index rh_lh (2 * k) / 2 ^ 48 % 2 ^ 8)) / 2 ^ 4)
unfolding is_low_at is_short_at
top_short x k least most e =
    let rh = slice_index rh_lh (2 * k) in
    let high = (256 * (k + 129) - 1) * rh in
    let at = x * rh / 2 ^ 48 % 2 ^ 8 in
    let here : get_or (range_with_len 0 128) k 0 ≡ k = get_or-range_with_len 0 128 k 0 (omega arith) ∙ omega arith in
    let parts = and_parts _ _ (ap is_low_at (sym here) ∙ AllPass-from_list_all is_low_at (range_with_len 0 128) low_at_each k 0 (omega (arith, length-range_with_len 0 128))) in
    let rest = and_parts _ _ parts.1 in
    let low : 2 ^ 63 ≤ 256 * (k + 128) * rh = leb-true _ _ parts.0 in
    let fits : high < 33024 * 2 ^ 48 = ltb-true _ _ rest.0 in
    let above = mul-le (256 * (k + 128)) rh x rh (omega arith) (omega arith) in
    let below = mul-le x rh (256 * (k + 129) - 1) rh (omega arith) (omega arith) in
    let early : at < high / 2 ^ 48 - 32767 = quotients (x * rh) 0 high (omega arith) below fits in
    let count : high / 2 ^ 48 - 32767 ≤ 256 = omega arith in
    let passes = AllPass-from_list_all (is_short_at k) (take (high / 2 ^ 48 - 32767) ll) rest.1 at 0 (rw (length-take-le (high / 2 ^ 48 - 32767) ll (omega (arith, ll_length))) early) in
    let both = and_parts _ _ (rw (get_or-take (high / 2 ^ 48 - 32767) ll at 0 early) at passes) in
    record { here = leb-true _ _ both.0; next = leb-true _ _ both.1 }

-- and of 2 ^ 16
last_short : (x : ℕ) → x ≡ 2 ^ 16
    → (slice_index rh_lh (2 * (x / 2 ^ 8 - 128) + 1) + slice_index ll (x * slice_index rh_lh (2 * (x / 2 ^ 8 - 128)) / 2 ^ 48 % 2 ^ 8)) / 2 ^ 4
    + slice_index least_shortfalls 255 ≤ 2 ^ 44
unfolding rh_lh ll least_shortfalls
last_short x e = rw e (leb-true _ _ refl)

-- the entries of what is least
least_small : (at : ℕ) → at < 256 → slice_index least_shortfalls at ≤ 2 ^ 44
unfolding least_shortfalls
least_small at h = grind (arith, nat_tests, AllPass-from_list_all (λ n. nat_le n (2 ^ 44)) least_shortfalls refl at 0 h)

-- what the logarithm falls short of 2 ^ 48 is no less than what is said by the high byte
pub crush_ln_short : (u : ℕ) → u < 2 ^ 16 → crush_ln u + slice_index least_shortfalls (u / 2 ^ 8) ≤ 2 ^ 48
unfolding crush_ln
crush_ln_short u few =
    let shift = shift_of (u + 1) in
    let x = (u + 1) * 2 ^ shift in
    let k = x / 2 ^ 8 - 128 in
    let place = u / 2 ^ 8 in
    let bounds = shifted (u + 1) shift (omega arith) (omega arith) refl in
    let small = least_small place (omega arith) in
    elim (cases_lt x (2 ^ 16)) [
      | inl below ↦ (let top = top_short x k bounds.0 below refl in
          elim (cases_lt 0 shift) [
            | inl some ↦ (let here = top.here in omega arith)
            | inr none ↦ (let zero_shift : shift ≡ 0 = omega arith in
                let same : x ≡ u + 1 = ap (λ s. (u + 1) * 2 ^ s) zero_shift ∙ omega arith in
                elim (cases_lt (k + 127) place) [
                  | inl next ↦ (let e : place ≡ k + 128 = omega arith in
                      let low = top.next in rw e (omega arith))
                  | inr here ↦ (let e : place ≡ k + 127 = omega arith in
                      let low = top.here in rw e (omega arith))
                ])
          ])
      | inr last ↦ (let top = last_short x (omega arith) in
          elim (cases_lt 0 shift) [
            | inl some ↦ omega arith
            | inr none ↦ (let zero_shift : shift ≡ 0 = omega arith in
                let same : x ≡ u + 1 = ap (λ s. (u + 1) * 2 ^ s) zero_shift ∙ omega arith in
                let e : place ≡ 255 = omega arith in rw e (omega arith))
          ])
    ]

-- the logarithm is at most 2 ^ 48
pub crush_ln_small : (u : ℕ) → u < 2 ^ 16 → crush_ln u ≤ 2 ^ 48
crush_ln_small u few = omega (arith, crush_ln_short u few)
