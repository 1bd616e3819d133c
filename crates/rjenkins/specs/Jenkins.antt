-- Robert Jenkins' hash of two, three and four words, as Ceph's hash.c has it (rjenkins1). A word is a number below
-- 2 ^ 32, and `x / 2 ^ k` is a shift to the right.
use Rattle.std.specs.Prelude.{ℕ, ◌+◌, ◌-◌, ◌*◌, ◌/◌, ◌%◌, ◌^◌, bit_xor}

-- the difference of two words, modulo 2 ^ 32
abbrev pub minus : ℕ → ℕ → ℕ
minus a b = (a + (2 ^ 32 - b)) % 2 ^ 32

-- a word shifted to the left, modulo 2 ^ 32
abbrev pub shifted_left : ℕ → ℕ → ℕ
shifted_left a k = (a * 2 ^ k) % 2 ^ 32

-- three of the nine assignments: each word less the other two, xor the last of these shifted
unfoldable pub third : ℕ → ℕ → ℕ → ℕ × ℕ × ℕ → ℕ × ℕ × ℕ
third right left last words =
    let a = bit_xor (minus (minus words.0 words.1) words.2) (words.2 / 2 ^ right) in
    let b = bit_xor (minus (minus words.1 words.2) a) (shifted_left a left) in
    let c = bit_xor (minus (minus words.2 a) b) (b / 2 ^ last) in
    (a, b, c)

-- the words after all nine (crush_hashmix)
unfoldable pub mixed : ℕ → ℕ → ℕ → ℕ × ℕ × ℕ
mixed a b c = third 3 10 15 (third 12 16 5 (third 13 8 13 (a, b, c)))

-- what every hash begins from (crush_hash_seed)
abbrev pub seed : ℕ
seed = 1315423911

-- the hash of two words (crush_hash32_rjenkins1_2)
unfoldable pub hash2_of : ℕ → ℕ → ℕ
hash2_of a b =
    let m1 = mixed a b (bit_xor (bit_xor seed a) b) in
    let m2 = mixed 231232 m1.0 m1.2 in
    let m3 = mixed m1.1 1232 m2.2 in
    m3.2

-- the hash of three words (crush_hash32_rjenkins1_3)
unfoldable pub hash3_of : ℕ → ℕ → ℕ → ℕ
hash3_of a b c =
    let m1 = mixed a b (bit_xor (bit_xor (bit_xor seed a) b) c) in
    let m2 = mixed c 231232 m1.2 in
    let m3 = mixed 1232 m1.0 m2.2 in
    let m4 = mixed m1.1 m2.1 m3.2 in
    let m5 = mixed m3.0 m2.0 m4.2 in
    m5.2

-- the hash of four words (crush_hash32_rjenkins1_4)
unfoldable pub hash4_of : ℕ → ℕ → ℕ → ℕ → ℕ
hash4_of a b c d =
    let m1 = mixed a b (bit_xor (bit_xor (bit_xor (bit_xor seed a) b) c) d) in
    let m2 = mixed c d m1.2 in
    let m3 = mixed m1.0 231232 m2.2 in
    let m4 = mixed 1232 m1.1 m3.2 in
    let m5 = mixed m2.0 m3.1 m4.2 in
    let m6 = mixed m4.0 m2.1 m5.2 in
    m6.2
