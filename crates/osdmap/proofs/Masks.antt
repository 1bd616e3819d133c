-- The mask by which the numbers of a pool's groups are folded.
use Rattle.std.proofs.Common.{◌≡◌, ℕ, suc, ◌+◌, ◌-◌, ◌/◌, ◌^◌, ◌<◌, ◌≤◌, max, Bool, true, false, List, [], ◌∷◌, length, nat_le, nat_lt, Some, unwrap_or, refl, sym, ap, cond, arith}
use Rattle.std.specs.List.{find}
use Rattle.std.proofs.lemmas.Bool.Decides.{nat_tests}
use Rattle.std.proofs.Math.Nat.{pow-le-pow_right}
use Rattle.osdmap.specs.Placement.{masks, mask_of}

-- half of each mask is at most the one before it
abbrev AreHalved : ℕ → List ℕ → Type 0
AreHalved before [] = 65535 / 2 ≤ before
AreHalved before (m ∷ ms) = (m / 2 ≤ before) × AreHalved m ms

-- so half of the first that is at least b - 1 is below b
half_below : (b before : ℕ) (ms : List ℕ) → AreHalved before ms → before < b → unwrap_or (find (λ m. nat_le (b - 1) m) ms) 65535 / 2 < b
half_below b before [] halved below = omega (arith, halved, below)
half_below b before (m ∷ ms) halved below = by_test (nat_le (b - 1) m) refl (half_below b m ms halved.1)
  where
    by_test : (fits : Bool) → nat_le (b - 1) m ≡ fits → (m < b → unwrap_or (find (λ n. nat_le (b - 1) n) ms) 65535 / 2 < b) → unwrap_or (cond fits (Some m) (find (λ n. nat_le (b - 1) n) ms)) 65535 / 2 < b
    by_test true long rest = omega (arith, halved.0, below)
    by_test false short rest = rest (grind (arith, nat_tests))

-- half of a count's mask is below it
pub mask_half : (b : ℕ) → 0 < b → mask_of b / 2 < b
unfolding mask_of masks
mask_half b some = half_below b 0 masks (omega arith, (omega arith, (omega arith, (omega arith, (omega arith, (omega arith, (omega arith, (omega arith, (omega arith, (omega arith, (omega arith, (omega arith, (omega arith, (omega arith, (omega arith, (omega arith, (omega arith, omega arith))))))))))))))))) some

-- the masks from the one of j bits on
abbrev AreMasks : ℕ → List ℕ → Type 0
AreMasks j [] = Unit {0}
AreMasks j (m ∷ ms) = (m + 1 ≡ 2 ^ j) × AreMasks (suc j) ms

-- the first that is at least c - 1 is one less than the least power of two that is at least c
found_mask : (c p k j : ℕ) (ms : List ℕ) → AreMasks j ms → j ≤ k → k < j + length ms → p ≡ 2 ^ k → 0 < c → c ≤ p → p / 2 < max 1 c → find (λ m. nat_le (c - 1) m) ms ≡ Some (p - 1)
found_mask c p k j [] are from end is some fits tight = absurd (omega (arith, from, end))
found_mask c p k j (m ∷ ms) are from end is some fits tight =
    by_test (nat_le (c - 1) m) refl (nat_lt j k) refl
    (λ from' end'. found_mask c p k (suc j) ms are.1 from' end' is some fits tight)
  where
    by_test : (enough : Bool) → nat_le (c - 1) m ≡ enough → (less : Bool) → nat_lt j k ≡ less
        → (suc j ≤ k → k < suc j + length ms → find (λ n. nat_le (c - 1) n) ms ≡ Some (p - 1)) → cond enough (Some m) (find (λ n. nat_le (c - 1) n) ms) ≡ Some (p - 1)
    by_test true long true below rest = let more = pow-le-pow_right {n = 2} (omega arith) {i = suc j} {j = k} (grind (arith, nat_tests)) in
        let few : c - 1 ≤ m = grind (arith, nat_tests) in absurd (omega (arith, more, are.0, is, tight, some, few))
    by_test true long false last rest = ap Some (grind (arith, nat_tests))
    by_test false short true below rest = rest (grind (arith, nat_tests)) (omega (arith, end))
    by_test false short false last rest = absurd (grind (arith, nat_tests))

-- one less than the least power of two that is at least a count is the mask of that count
pub mask_power : (c p k : ℕ) → p ≡ 2 ^ k → 0 < c → c ≤ 65536 → c ≤ p → p / 2 < max 1 c → p - 1 ≡ mask_of c
unfolding mask_of masks
mask_power c p k is some few fits tight =
    sym (ap (λ o. unwrap_or o 65535) (found_mask c p k 0 masks (refl, (refl, (refl, (refl, (refl, (refl, (refl, (refl, (refl, (refl, (refl, (refl, (refl, (refl, (refl, (refl, (refl, tt))))))))))))))))) (omega arith) (by_test (nat_lt k 17) refl) is some fits tight))
  where
    by_test : (small : Bool) → nat_lt k 17 ≡ small → k < 17
    by_test true below = grind (arith, nat_tests)
    by_test false beyond =
        let more = pow-le-pow_right {n = 2} (omega arith) {i = 17} {j = k} (grind (arith, nat_tests)) in
        absurd (omega (arith, more, is, tight, few))
