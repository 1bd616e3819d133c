-- What is pushed behind a text: digits of numbers, one after another.
use Rattle.std.proofs.Common.{append_assoc, OnOk, Result, Ok, Err, ◌≡◌, ℕ, zero, suc, ◌+◌, ◌/◌, ◌%◌, ◌^◌, ◌<◌, ◌≤◌, cond, eqb, true, false, List, [], ◌∷◌, ◌++◌, inl, inr, sym, ap, refl, ◌∙◌, arith}
use Rattle.std.specs.Fmt.{digits, decimal, digit_glyph, digits_onto}
use Rattle.std.proofs.lemmas.Bool.{cases_Bool}
use Rattle.std.proofs.lemmas.Bool.Decides.{nat_tests}
use Rattle.std.proofs.Math.Nat.{pow-suc}
use Rattle.std.proofs.lemmas.Fmt.{decimal_digit, decimal_step, hex_one_digit}

-- a digit below ten by its code
low_glyph : (n : ℕ) → n < 10 → digit_glyph false n ≡ 48 + n
low_glyph n low = grind (arith, nat_tests, low)

-- a number below ten has one digit
pub one_digit : (n : ℕ) → n < 10 → decimal n ≡ digit_glyph false n ∷ []
one_digit n low = decimal_digit n low ∙ ap (λ d. d ∷ []) (sym (low_glyph n low))

-- and one below a hundred two
pub two_digits : (n : ℕ) → 10 ≤ n → n < 100 → decimal n ≡ digit_glyph false (n / 10) ∷ digit_glyph false (n % 10) ∷ []
two_digits n high low =
    let tens : n / 10 < 10 = omega (arith, low) in
    let ones : n % 10 < 10 = omega arith in
    let fits : n < 2 ^ 64 = omega (arith, low) in
    decimal_step n high fits
    ∙ ap (λ ds. ds ++ (48 + n % 10) ∷ []) (decimal_digit (n / 10) tens)
    ∙ ap (λ d. d ∷ (48 + n % 10) ∷ []) (sym (low_glyph (n / 10) tens))
    ∙ ap (λ d. digit_glyph false (n / 10) ∷ d ∷ []) (sym (low_glyph (n % 10) ones))

-- what stands behind digits stays behind them
onto_append : (k n : ℕ) (acc ys : List ℕ) → digits_onto k 16 false n (acc ++ ys) ≡ digits_onto k 16 false n acc ++ ys
onto_append zero n acc ys = refl
onto_append (suc k) n acc ys = elim (cases_Bool (eqb (n / 16) 0)) [
  | inl last ↦ rw last refl
  | inr more ↦ rw more (onto_append k (n / 16) (digit_glyph false (n % 16) ∷ acc) ys)
]

-- room for one digit more changes nothing where there is enough
room_more : (k n : ℕ) (acc : List ℕ) → n < 16 ^ suc k → digits_onto (suc k) 16 false n acc ≡ digits_onto (suc (suc k)) 16 false n acc
room_more zero n acc low =
    let last : eqb (n / 16) 0 ≡ true = grind (arith, nat_tests, low) in
    rw last refl
room_more (suc k) n acc low = elim (cases_Bool (eqb (n / 16) 0)) [
  | inl last ↦ rw last refl
  | inr more ↦ rw more (room_more k (n / 16) (digit_glyph false (n % 16) ∷ acc) (omega (arith, low, pow-suc 16 (suc k))))
]

-- a number below sixteen has one hexadecimal digit
pub last_alone : (n : ℕ) → n < 16 → digits 16 false n ≡ digit_glyph false n ∷ []
last_alone n low = hex_one_digit false n low

-- the last one of another number stands behind those of its sixteenth
pub sixteenths : (n : ℕ) → n < 2 ^ 32 → 16 ≤ n → digits 16 false n ≡ digits 16 false (n / 16) ++ digit_glyph false (n % 16) ∷ []
unfolding digits
sixteenths n fits high =
    let more : eqb (n / 16) 0 ≡ false = grind (arith, nat_tests, high) in
    let low : n / 16 < 16 ^ 63 = omega (arith, fits) in
    let last = digit_glyph false (n % 16) in
    ap (λ c. cond c (last ∷ []) (digits_onto 63 16 false (n / 16) (last ∷ []))) more
    ∙ onto_append 63 (n / 16) [] (last ∷ [])
    ∙ ap (λ ds. ds ++ last ∷ []) (room_more 62 (n / 16) [] low)

-- ---- texts one behind the other

-- what is said where a call is answered says more
pub on_ok : {X E : Type 0} (P Q : Type 0) (r : Result X E) → (P → Q) → OnOk r P → OnOk r Q
on_ok P Q (Ok x) more p = more p
on_ok P Q (Err e) more p = tt

-- two texts put one behind the other
pub both_behind : (s0 s1 s2 a b : List ℕ) → s1 ≡ s0 ++ a → s2 ≡ s1 ++ b → s2 ≡ s0 ++ (a ++ b)
both_behind s0 s1 s2 a b h1 h2 = rw (h2, h1) (simp append_assoc)
