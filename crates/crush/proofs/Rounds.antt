-- Loops over the numbers from 0 on, as folds.
use Rattle.std.proofs.Common.{◌≡◌, ℕ, zero, suc, ◌+◌, ◌-◌, ◌≤◌, List, [], ◌∷◌, ◌++◌, refl, sym, ap, ◌∙◌, arith}
use Rattle.std.specs.List.{fold, range_with_len}
use Rattle.std.proofs.lemmas.List.Sums.{fold_push, fold-append}

-- one more number
pub range-more : (a n : ℕ) → range_with_len a n ++ (a + n) ∷ [] ≡ range_with_len a (n + 1)
range-more a zero = let e : a + 0 ≡ a = omega arith in let f : zero + 1 ≡ 1 = omega arith in ap (λ x. x ∷ []) e ∙ sym (ap (range_with_len a) f)
range-more a (suc n) =
    let e : a + suc n ≡ (a + 1) + n = omega arith in
    let f : suc (n + 1) ≡ suc n + 1 = omega arith in
    ap (λ ys. a ∷ ys) (ap (λ x. range_with_len (a + 1) n ++ x ∷ []) e ∙ range-more (a + 1) n) ∙ ap (range_with_len a) f

-- one more round
pub fold_range : {A : Type 0} (f : A → ℕ → A) (a : A) (n : ℕ) → f (fold f a (range_with_len 0 n)) n ≡ fold f a (range_with_len 0 (n + 1))
fold_range f a n =
    let e : n ≡ 0 + n = omega arith in
    sym (fold_push f a (range_with_len 0 n) n) ∙ ap (fold f a) (ap (λ m. range_with_len 0 n ++ m ∷ []) e ∙ range-more 0 n)

-- a range in two parts
pub range_append : (a m n : ℕ) → range_with_len a (m + n) ≡ range_with_len a m ++ range_with_len (a + m) n
range_append a zero n = (let e : zero + n ≡ n = omega arith in let f : a ≡ a + zero = omega arith in ap (range_with_len a) e ∙ ap (λ b. range_with_len b n) f)
range_append a (suc m) n =
    let e : suc m + n ≡ suc (m + n) = omega arith in
    let f : (a + 1) + m ≡ a + suc m = omega arith in
    ap (range_with_len a) e ∙ ap (λ ys. a ∷ ys) (range_append (a + 1) m n ∙ ap (λ b. range_with_len (a + 1) m ++ range_with_len b n) f)

-- a fold whose steps leave a value alone leaves it alone
pub fold_idle : {A B : Type 0} (f : B → A → B) (b : B) → ((x : A) → f b x ≡ b) → (xs : List A) → fold f b xs ≡ b
fold_idle f b idle [] = refl
fold_idle f b idle (x ∷ xs) = ap (λ c. fold f c xs) (idle x) ∙ fold_idle f b idle xs

-- what some rounds come to is what all come to, where further rounds change nothing
pub fold_over : {B : Type 0} (f : B → ℕ → B) (first b : B) (round all : ℕ) → round ≤ all → b ≡ fold f first (range_with_len 0 round) → ((x : ℕ) → f b x ≡ b) → b ≡ fold f first (range_with_len 0 all)
fold_over f first b round all within so_far idle =
    let rest = range_with_len (0 + round) (all - round) in
    let whole : round + (all - round) ≡ all = omega arith in
    sym (fold_idle f b idle rest)
    ∙ ap (λ c. fold f c rest) so_far
    ∙ sym (fold-append f first (range_with_len 0 round) rest)
    ∙ ap (fold f first) (sym (range_append 0 round (all - round)))
    ∙ ap (λ n. fold f first (range_with_len 0 n)) whole
