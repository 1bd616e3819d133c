-- Numbers that grow past 64 bits, and what the digits make that are left of a text.
use Rattle.std.proofs.Common.{◌≡◌, ℕ, ◌+◌, ◌*◌, ◌^◌, ◌<◌, ◌≤◌, min, List, [], ◌∷◌, drop, length, get_or, Some, None, refl, arith, suc, add-one, drop-cons}
use Rattle.std.proofs.lemmas.List.{drop_all}
use Rattle.std.specs.Option.{option_map}
use Rattle.std.proofs.Math.Nat.{mul-le-mul_left}
use Rattle.mapparts.specs.Digits.{digit_of, value_after, below}

-- two numbers past 64 bits stay so, whatever digits follow
pub value_after-great : (base m n : ℕ) (cs : List ℕ) → 0 < base → 2 ^ 64 ≤ m → 2 ^ 64 ≤ n
    → option_map (below (2 ^ 64)) (value_after base m cs) ≡ option_map (below (2 ^ 64)) (value_after base n cs)
unfolding value_after
value_after-great base m n [] some hm hn = grind arith
value_after-great base m n (c ∷ cs) some hm hn =
    elim (digit_of base c) as (λ o. option_map (below (2 ^ 64)) (elim o [ None ↦ None | Some d ↦ value_after base (m * base + d) cs ])
    ≡ option_map (below (2 ^ 64)) (elim o [ None ↦ None | Some d ↦ value_after base (n * base + d) cs ])) [
      | None ↦ refl
      | Some d ↦ value_after-great base (m * base + d) (n * base + d) cs some
          (omega (arith, mul-le-mul_left m some)) (omega (arith, mul-le-mul_left n some))
    ]

-- a number cut off past 64 bits serves as well
pub value_after-min : (base n : ℕ) (cs : List ℕ) → 0 < base
    → option_map (below (2 ^ 64)) (value_after base (min n (2 ^ 64)) cs) ≡ option_map (below (2 ^ 64)) (value_after base n cs)
value_after-min base n cs some = grind (arith, value_after-great)

-- a text whose next byte is no digit is that of no number
pub left-none : (base n i : ℕ) (text : List ℕ) → i < length text → digit_of base (get_or text i 0) ≡ None
    → option_map (below (2 ^ 64)) (value_after base n (drop i text)) ≡ None
unfolding value_after
left-none base n i text within_text e = rw (drop-cons text i 0 within_text, e) refl

-- a text whose next byte is a digit is read on behind it
pub left-some : (base n d i : ℕ) (text : List ℕ) → 0 < base → i < length text → digit_of base (get_or text i 0) ≡ Some d
    → option_map (below (2 ^ 64)) (value_after base (min (n * base + d) (2 ^ 64)) (drop (i + 1) text)) ≡ option_map (below (2 ^ 64)) (value_after base n (drop i text))
unfolding value_after
left-some base n d i text some within_text e = rw (add-one i, drop-cons text i 0 within_text, e) (value_after-min base (n * base + d) (drop (suc i) text) some)

-- a text that is read to its end is the number so far
pub left-end : (base n i : ℕ) (text : List ℕ) → length text ≤ i
    → option_map (below (2 ^ 64)) (value_after base n (drop i text)) ≡ Some (below (2 ^ 64) n)
unfolding value_after
left-end base n i text all = rw (drop_all i text all) refl
