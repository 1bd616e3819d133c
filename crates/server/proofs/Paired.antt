-- Lists whose elements stand to one another, place by place.
use Rattle.std.proofs.Common.{◌≡◌, ◌+◌, ℕ, suc, List, [], ◌∷◌, ◌++◌, length, map, subst, add-zero, arith}
use Rattle.server.specs.Pairs.{Pairs}

-- one more at the end of each
pub pairs_more : {X Y : Type 0} (R : ℕ → X → Y → Type 0) (number : ℕ) (xs : List X) (ys : List Y) (x : X) (y : Y) → Pairs R number xs ys
    → R (number + length xs) x y → Pairs R number (xs ++ x ∷ []) (ys ++ y ∷ [])
pairs_more R number [] [] x y pairs r = (subst (λ n. R n x y) (add-zero number) r, tt)
pairs_more R number [] (b ∷ ys) x y pairs r = absurd pairs
pairs_more R number (a ∷ xs) [] x y pairs r = absurd pairs
pairs_more R number (a ∷ xs) (b ∷ ys) x y pairs r =
    let same : number + length (a ∷ xs) ≡ suc number + length xs = omega arith in
    (pairs.0, pairs_more R (suc number) xs ys x y pairs.1 (subst (λ n. R n x y) same r))

-- by way of a list between
pub pairs_through : {X Y Z : Type 0} (P : ℕ → Y → X → Type 0) (Q : ℕ → Y → Z → Type 0) (R : ℕ → X → Z → Type 0)
    → ((n : ℕ) (y : Y) (x : X) (z : Z) → P n y x → Q n y z → R n x z)
    → (number : ℕ) (ys : List Y) (xs : List X) (zs : List Z) → Pairs P number ys xs → Pairs Q number ys zs → Pairs R number xs zs
pairs_through P Q R by number [] [] [] p q = tt
pairs_through P Q R by number [] [] (z ∷ zs) p q = absurd q
pairs_through P Q R by number [] (x ∷ xs) zs p q = absurd p
pairs_through P Q R by number (y ∷ ys) [] zs p q = absurd p
pairs_through P Q R by number (y ∷ ys) (x ∷ xs) [] p q = absurd q
pairs_through P Q R by number (y ∷ ys) (x ∷ xs) (z ∷ zs) p q =
    (by number y x z p.0 q.0, pairs_through P Q R by (suc number) ys xs zs p.1 q.1)

-- as many stand on both sides
pub pairs_as_many : {X Y : Type 0} (R : ℕ → X → Y → Type 0) (number : ℕ) (xs : List X) (ys : List Y) → Pairs R number xs ys
    → length xs ≡ length ys
pairs_as_many R number [] [] pairs = omega arith
pairs_as_many R number [] (y ∷ ys) pairs = absurd pairs
pairs_as_many R number (x ∷ xs) [] pairs = absurd pairs
pairs_as_many R number (x ∷ xs) (y ∷ ys) pairs = omega (arith, pairs_as_many R (suc number) xs ys pairs.1)

-- to what is made of each
pub pairs_made : {X Y Z : Type 0} (R : ℕ → X → Z → Type 0) (f : Y → Z) (number : ℕ) (xs : List X) (ys : List Y)
    → Pairs (λ n x y. R n x (f y)) number xs ys → Pairs R number xs (map f ys)
pairs_made R f number [] [] pairs = tt
pairs_made R f number [] (y ∷ ys) pairs = absurd pairs
pairs_made R f number (x ∷ xs) [] pairs = absurd pairs
pairs_made R f number (x ∷ xs) (y ∷ ys) pairs = (pairs.0, pairs_made R f (suc number) xs ys pairs.1)
