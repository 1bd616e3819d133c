-- four words side by side, lane by lane
use Rattle.std.proofs.Common.{◌≡◌, ℕ, zero, suc, ◌<◌, ◌/◌, ◌%◌, ◌^◌, List, [], ◌∷◌, length, slice_index, bit_xor, arith, refl}
use Rattle.std.specs.Simd.Lanes.{zip2}
use Rattle.rjenkins.specs.Jenkins.{minus, shifted_left, seed, mixed, hash3_of, hash4_of}

-- what holds of each of the four lanes
pub below_four : (P : ℕ → Type 0) → P 0 → P 1 → P 2 → P 3 → (j : ℕ) → j < 4 → P j
below_four P p0 p1 p2 p3 zero h = p0
below_four P p0 p1 p2 p3 (suc zero) h = p1
below_four P p0 p1 p2 p3 (suc (suc zero)) h = p2
below_four P p0 p1 p2 p3 (suc (suc (suc zero))) h = p3
below_four P p0 p1 p2 p3 (suc (suc (suc (suc n)))) h = absurd (omega arith)

-- what holds of each list of four elements
pub four_lanes : (P : List ℕ → Type 0) → ((a b c d : ℕ) → P (a ∷ b ∷ c ∷ d ∷ [])) → (xs : List ℕ) → length xs ≡ 4 → P xs
four_lanes P p (a ∷ b ∷ c ∷ d ∷ []) h = p a b c d
four_lanes P p [] h = absurd (omega arith)
four_lanes P p (a ∷ []) h = absurd (omega arith)
four_lanes P p (a ∷ b ∷ []) h = absurd (omega arith)
four_lanes P p (a ∷ b ∷ c ∷ []) h = absurd (omega arith)
four_lanes P p (a ∷ b ∷ c ∷ d ∷ e ∷ xs) h = absurd (omega arith)

-- three words of each lane as one, the last shifted to the right
abbrev Rights : ℕ → List ℕ → List ℕ → List ℕ → Type 0
Rights k a b c = (j : ℕ) → j < 4
    → slice_index (zip2 bit_xor (zip2 minus (zip2 minus a b) c) (zip2 (λ x n. x / 2 ^ n) c (k ∷ k ∷ k ∷ k ∷ []))) j
    ≡ bit_xor (minus (minus (slice_index a j) (slice_index b j)) (slice_index c j)) (slice_index c j / 2 ^ k)

-- the same, shifted to the left
abbrev Lefts : ℕ → List ℕ → List ℕ → List ℕ → Type 0
Lefts k a b c = (j : ℕ) → j < 4
    → slice_index (zip2 bit_xor (zip2 minus (zip2 minus a b) c) (zip2 shifted_left c (k ∷ k ∷ k ∷ k ∷ []))) j
    ≡ bit_xor (minus (minus (slice_index a j) (slice_index b j)) (slice_index c j)) (shifted_left (slice_index c j) k)

-- the lanes of the words computed are the words computed of each lane
pub rights : (k : ℕ) → k < 32 → (a : List ℕ) → length a ≡ 4 → (b : List ℕ) → length b ≡ 4 → (c : List ℕ) → length c ≡ 4 → Rights k a b c
rights k low =
    let same : k % 32 ≡ k = omega arith in
    four_lanes (λ a. (b : List ℕ) → length b ≡ 4 → (c : List ℕ) → length c ≡ 4 → Rights k a b c) (λ a0 a1 a2 a3.
    four_lanes (λ b. (c : List ℕ) → length c ≡ 4 → Rights k (a0 ∷ a1 ∷ a2 ∷ a3 ∷ []) b c) (λ b0 b1 b2 b3.
    four_lanes (Rights k (a0 ∷ a1 ∷ a2 ∷ a3 ∷ []) (b0 ∷ b1 ∷ b2 ∷ b3 ∷ [])) (λ c0 c1 c2 c3.
    below_four _ refl refl refl refl)))

-- the same, shifted to the left
pub lefts : (k : ℕ) → k < 32 → (a : List ℕ) → length a ≡ 4 → (b : List ℕ) → length b ≡ 4 → (c : List ℕ) → length c ≡ 4 → Lefts k a b c
lefts k low =
    let same : k % 32 ≡ k = omega arith in
    four_lanes (λ a. (b : List ℕ) → length b ≡ 4 → (c : List ℕ) → length c ≡ 4 → Lefts k a b c) (λ a0 a1 a2 a3.
    four_lanes (λ b. (c : List ℕ) → length c ≡ 4 → Lefts k (a0 ∷ a1 ∷ a2 ∷ a3 ∷ []) b c) (λ b0 b1 b2 b3.
    four_lanes (Lefts k (a0 ∷ a1 ∷ a2 ∷ a3 ∷ []) (b0 ∷ b1 ∷ b2 ∷ b3 ∷ [])) (λ c0 c1 c2 c3.
    below_four _ refl refl refl refl)))

-- the hash of three words, by its five mixes in one lane
pub hash3_lane : (a b c : ℕ) {a' x y h : ℕ} {m1 m2 m3 m4 m5 : ℕ × ℕ × ℕ}
    → h ≡ bit_xor (bit_xor (bit_xor seed a) b) c → a' ≡ a → m1 ≡ mixed a' b h
    → x ≡ 231232 → m2 ≡ mixed c x m1.2
    → y ≡ 1232 → m3 ≡ mixed y m1.0 m2.2
    → m4 ≡ mixed m1.1 m2.1 m3.2
    → m5 ≡ mixed m3.0 m2.0 m4.2
    → m5.2 ≡ hash3_of a b c
unfolding hash3_of
hash3_lane a b c eh ea e1 ex e2 ey e3 e4 e5 = rw (e5, e4, e3, ey, e2, ex, e1, eh, ea) refl

-- the hash of four words, by its six mixes in one lane
pub hash4_lane : (a b c d : ℕ) {a' d' x y h : ℕ} {m1 m2 m3 m4 m5 m6 : ℕ × ℕ × ℕ}
    → a' ≡ a → h ≡ bit_xor (bit_xor (bit_xor (bit_xor seed a) b) c) d → m1 ≡ mixed a' b h
    → d' ≡ d → m2 ≡ mixed c d' m1.2
    → x ≡ 231232 → m3 ≡ mixed m1.0 x m2.2
    → y ≡ 1232 → m4 ≡ mixed y m1.1 m3.2
    → m5 ≡ mixed m2.0 m3.1 m4.2
    → m6 ≡ mixed m4.0 m2.1 m5.2
    → m6.2 ≡ hash4_of a b c d
unfolding hash4_of
hash4_lane a b c d ea eh e1 ed e2 ex e3 ey e4 e5 e6 = rw (e6, e5, e4, ey, e3, ex, e2, ed, e1, eh, ea) refl
