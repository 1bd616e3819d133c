-- a hash is a word
use Rattle.std.proofs.Common.{ℕ, ◌/◌, ◌^◌, ◌<◌, bit_xor, arith}
use Rattle.std.proofs.lemmas.Nat.{xor_of_32, shr_le, mod_below, pow_pos}
use Rattle.rjenkins.specs.Jenkins.{third, mixed, hash4_of, minus, shifted_left}

-- the third word of a third of `mix` is one of 32 bits
third-lt : (i j k : ℕ) (w : ℕ × ℕ × ℕ) → (third i j k w).2 < 2 ^ 32
unfolding third
third-lt i j k w =
    let a = bit_xor (minus (minus w.0 w.1) w.2) (w.2 / 2 ^ i) in
    let b = bit_xor (minus (minus w.1 w.2) a) (shifted_left a j) in
    let s : minus (minus w.1 w.2) a < 2 ^ 32 = mod_below _ (2 ^ 32) (pow_pos 32) in
    let t : shifted_left a j < 2 ^ 32 = mod_below _ (2 ^ 32) (pow_pos 32) in
    let b_low : b < 2 ^ 32 = xor_of_32 _ _ s t in
    let u : minus (minus w.2 a) b < 2 ^ 32 = mod_below _ (2 ^ 32) (pow_pos 32) in
    let v : b / 2 ^ k < 2 ^ 32 = omega (arith, shr_le b k) in
    xor_of_32 _ _ u v

-- so is that of a mix
mixed-lt : (a b c : ℕ) → (mixed a b c).2 < 2 ^ 32
unfolding mixed
mixed-lt a b c = third-lt 3 10 15 _

-- and so is a hash
pub hash4-lt : (a b c d : ℕ) → hash4_of a b c d < 2 ^ 32
unfolding hash4_of
hash4-lt a b c d = mixed-lt _ _ _
