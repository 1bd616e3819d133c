-- one draw of a uniform bucket, as a swap of the list of places
use Rattle.std.proofs.Common.{◌≡◌, ◌≢◌, ℕ, zero, suc, ◌+◌, ◌-◌, ◌<◌, ◌≤◌, ◌%◌, List, [], ◌∷◌, ◌++◌, length, get_or, set, take, drop, inl, inr, refl, sym, ap, ◌∙◌, arith}
use Rattle.std.specs.List.{swap, range_with_len}
use Rattle.std.proofs.lemmas.List.{get_or-take, get_or_append_left, length-take-le, take_more, drop_more, take-set-le, get_or-set_same, get_or-set_other, get_or-drop, drop-drop, drop-set, drop-set-add, append_assoc, length-set, length-drop}
use Rattle.std.proofs.lemmas.Nat.{mod_below}
use Rattle.std.proofs.lemmas.Bool.{cases_eq}
use Rattle.std.proofs.lemmas.List.FromFn.{length-range_with_len, get_or-range_with_len}
use Rattle.std.proofs.lemmas.List.Edits.{swap_is, length-swap}
use Rattle.std.proofs.lemmas.Grind.{get_or-set_at}
use Rattle.rjenkins.specs.Jenkins.{hash3_of}
use Rattle.buckets.specs.Uniform.{places_drawn, uniform_place}

-- the list after the swap, by two writes
swapped : List ℕ → ℕ → ℕ → List ℕ
swapped xs p k = set (set xs p (get_or xs (p + k) 0)) (p + k) (get_or xs p 0)

-- the place drawn comes to stand behind those drawn before
get_or-swapped : (xs : List ℕ) (p k : ℕ) → p + k < length xs → get_or (swapped xs p k) p 0 ≡ get_or xs (p + k) 0
unfolding swapped
get_or-swapped xs p zero h = grind (arith, get_or-set_at, length-set {A = ℕ})
get_or-swapped xs p (suc k) h =
    let ne : p ≢ p + suc k = omega arith in
    let lt : p < length xs = omega arith in
    get_or-set_other (set xs p (get_or xs (p + suc k) 0)) (p + suc k) p (get_or xs p 0) 0 ne ∙ get_or-set_same xs p (get_or xs (p + suc k) 0) 0 lt

-- what was drawn before stays in front of it
take-swapped : (xs : List ℕ) (p k : ℕ) → p + k < length xs → take (p + 1) (swapped xs p k) ≡ take p xs ++ get_or xs (p + k) 0 ∷ []
unfolding swapped
take-swapped xs p k h =
    let within : p < length (swapped xs p k) = omega (arith, length-set {A = ℕ}) in
    let low : p ≤ p + k = omega arith in
    let same : p ≤ p = omega arith in
    take_more (swapped xs p k) p 0 within
    ∙ ap (λ ys. ys ++ get_or (swapped xs p k) p 0 ∷ []) (take-set-le p (set xs p (get_or xs (p + k) 0)) (p + k) (get_or xs p 0) low ∙ take-set-le p xs p _ same)
    ∙ ap (λ y. take p xs ++ y ∷ []) (get_or-swapped xs p k h)

-- what is left of a list with a new head, one past the head
rest_of_head : (t : List ℕ) (k a b : ℕ) → drop 1 (set (b ∷ t) k a) ≡ drop 1 (set (a ∷ t) k a)
rest_of_head t zero a b = refl
rest_of_head t (suc k) a b = refl

-- what is left has its head in the hole
drop-swapped : (xs : List ℕ) (p k : ℕ) → p + k < length xs → drop (p + 1) (swapped xs p k) ≡ drop 1 (set (drop p xs) k (get_or (drop p xs) 0 0))
unfolding swapped
drop-swapped xs p k h =
    let lt : p < length xs = omega arith in
    let a = get_or xs p 0 in
    let b = get_or xs (p + k) 0 in
    let head : get_or (drop p xs) 0 0 ≡ a = get_or-drop p xs 0 0 ∙ ap (λ i. get_or xs i 0) (omega arith) in
    sym (drop-drop 1 p (swapped xs p k))
    ∙ ap (drop 1) (drop-set-add p (set xs p b) k a ∙ ap (λ ys. set ys k a) (drop-set xs p b lt))
    ∙ rest_of_head (drop (p + 1) xs) k a b
    ∙ ap (λ ys. drop 1 (set ys k a)) (sym (drop_more xs p 0 lt))
    ∙ ap (λ y. drop 1 (set (drop p xs) k y)) (sym head)

-- one draw: the place drawn joins the places drawn so far
drawn-once : (x id p n k : ℕ) (xs : List ℕ) → p + suc n ≡ length xs → k ≡ hash3_of x id p % suc n → k < suc n → take (p + 1) (swap xs p (p + k)) ++ places_drawn x id (p + 1) n (drop (p + 1) (swap xs p (p + k))) ≡ take p xs ++ places_drawn x id p (suc n) (drop p xs)
unfolding places_drawn swapped
drawn-once x id p n k xs h e below =
    let inside : p + k < length xs = omega arith in
    let lt : p < length xs = omega arith in
    let is : swapped xs p k ≡ swap xs p (p + k) = swap_is xs p (p + k) 0 lt inside in
    let F = λ (ys : List ℕ). take (p + 1) ys ++ places_drawn x id (p + 1) n (drop (p + 1) ys) in
    let G = λ (j : ℕ). take p xs ++ (get_or (drop p xs) j 0 ∷ places_drawn x id (p + 1) n (drop 1 (set (drop p xs) j (get_or (drop p xs) 0 0)))) in
    sym (ap F is)
    ∙ ap (λ ys. ys ++ places_drawn x id (p + 1) n (drop (p + 1) (swapped xs p k))) (take-swapped xs p k inside)
    ∙ ap (λ ys. (take p xs ++ get_or xs (p + k) 0 ∷ []) ++ places_drawn x id (p + 1) n ys) (drop-swapped xs p k inside)
    ∙ append_assoc (take p xs) (get_or xs (p + k) 0 ∷ []) _
    ∙ ap (λ y. take p xs ++ (y ∷ places_drawn x id (p + 1) n (drop 1 (set (drop p xs) k (get_or (drop p xs) 0 0))))) (sym (get_or-drop p xs k 0))
    ∙ ap G e

-- the same, as the loop has it
pub drawn_step : (x id p k : ℕ) (xs ys all : List ℕ) → p < length xs → k ≡ hash3_of x id p % (length xs - p) → ys ≡ swap xs p (p + k) → take p xs ++ places_drawn x id p (length xs - p) (drop p xs) ≡ all → take (p + 1) ys ++ places_drawn x id (p + 1) (length ys - (p + 1)) (drop (p + 1) ys) ≡ all
drawn_step x id p k xs ys all lt e is h =
    let n = length xs - (p + 1) in
    let left : length xs - p ≡ suc n = omega arith in
    let same : length ys ≡ length xs = ap length is ∙ length-swap xs p (p + k) in
    let whole : p + suc n ≡ length xs = omega arith in
    let e' : k ≡ hash3_of x id p % suc n = e ∙ ap (λ m. hash3_of x id p % m) left in
    let below : k < suc n = omega arith in
    ap (λ m. take (p + 1) ys ++ places_drawn x id (p + 1) m (drop (p + 1) ys)) (ap (λ m. m - (p + 1)) same)
    ∙ ap (λ zs. take (p + 1) zs ++ places_drawn x id (p + 1) n (drop (p + 1) zs)) is
    ∙ drawn-once x id p n k xs whole e' below
    ∙ ap (λ m. take p xs ++ places_drawn x id p m (drop p xs)) (sym left)
    ∙ h

-- what holds of each number holds of each that is places_drawn
drawn_below : (x id p n b : ℕ) (rest : List ℕ) → n ≤ length rest → ((i : ℕ) → i < length rest → get_or rest i 0 < b) → (i : ℕ) → i < n → get_or (places_drawn x id p n rest) i 0 < b
unfolding places_drawn
drawn_below x id p zero b rest few h i lt = absurd (omega arith)
drawn_below x id p (suc n) b rest few h zero lt = h (hash3_of x id p % suc n) (omega (arith, mod_below (hash3_of x id p) (suc n) (omega arith)))
drawn_below x id p (suc n) b rest few h (suc i) lt =
    let k = hash3_of x id p % suc n in
    let low : k < suc n = mod_below (hash3_of x id p) (suc n) (omega arith) in
    let head = get_or rest 0 0 in
    let ys = set rest k head in
    let same : length ys ≡ length rest = length-set rest k head in
    let each : (j : ℕ) → j < length ys → get_or ys j 0 < b = λ j within. set_below b rest k head h (h 0 (omega arith)) j (omega arith) in
    drawn_below x id (p + 1) n b (drop 1 ys) (omega (arith, length-drop 1 ys)) (λ j within. drop_below b ys each j (omega (arith, length-drop 1 ys))) i (omega arith)
  where
    set_below : (b : ℕ) (xs : List ℕ) (k y : ℕ) → ((i : ℕ) → i < length xs → get_or xs i 0 < b) → y < b → (j : ℕ) → j < length xs → get_or (set xs k y) j 0 < b
    set_below b xs k y h low j within = elim (cases_eq j k) [
      | inl e ↦ (let is : get_or (set xs k y) j 0 ≡ y = get_or-set_at xs k j y 0 e (omega arith) in omega arith)
      | inr ne ↦ (let is : get_or (set xs k y) j 0 ≡ get_or xs j 0 = get_or-set_other xs k j y 0 ne in let old : get_or xs j 0 < b = h j within in omega arith)
    ]

    drop_below : (b : ℕ) (xs : List ℕ) → ((i : ℕ) → i < length xs → get_or xs i 0 < b) → (j : ℕ) → 1 + j < length xs → get_or (drop 1 xs) j 0 < b
    drop_below b xs h j within = let is : get_or (drop 1 xs) j 0 ≡ get_or xs (1 + j) 0 = get_or-drop 1 xs j 0 in let old : get_or xs (1 + j) 0 < b = h (1 + j) within in omega arith

-- a uniform bucket picks one of its places
pub uniform_place_below : (x id n r : ℕ) → 0 < n → uniform_place x id n r < n
unfolding uniform_place
uniform_place_below x id n r some =
    let same = length-range_with_len 0 n in
    drawn_below x id 0 n n (range_with_len 0 n) (omega arith) (λ i h. let is = get_or-range_with_len 0 n i 0 (omega arith) in omega arith) (r % n) (mod_below r n some)

-- the first of the numbers
pub take-range : (a n m : ℕ) → n ≤ m → take n (range_with_len a m) ≡ range_with_len a n
take-range a zero m le = refl
take-range a (suc n) zero le = absurd (omega arith)
take-range a (suc n) (suc m) le = ap (λ ys. a ∷ ys) (take-range (a + 1) n m (omega arith))

-- what is places_drawn from numbered places is what the bucket picks
pub drawn-numbered : (x id r m n : ℕ) (xs : List ℕ) → xs ≡ range_with_len 0 m → length xs ≡ n → get_or (places_drawn x id 0 (length xs) xs) (r % n) 0 ≡ uniform_place x id n r
unfolding uniform_place
drawn-numbered x id r m n xs e len =
    let k : m ≡ n = sym (length-range_with_len 0 m) ∙ sym (ap length e) ∙ len in
    ap (λ j. get_or (places_drawn x id 0 j xs) (r % n) 0) len
    ∙ ap (λ ys. get_or (places_drawn x id 0 n ys) (r % n) 0) (e ∙ ap (range_with_len 0) k)

-- what was drawn stands in front
pub drawn_front : (xs rest all : List ℕ) (p i : ℕ) → p ≤ length xs → i < p → take p xs ++ rest ≡ all → get_or xs i 0 ≡ get_or all i 0
drawn_front xs rest all p i le lt e =
    let len : length (take p xs) ≡ p = length-take-le p xs le in
    sym (get_or-take p xs i 0 lt) ∙ sym (get_or_append_left (take p xs) rest 0 i (omega arith)) ∙ ap (λ ys. get_or ys i 0) e

-- the first place drawn
pub first_drawn : (x id n r : ℕ) → 0 < n → r % n ≡ 0 → hash3_of x id 0 % n ≡ uniform_place x id n r
unfolding uniform_place places_drawn
first_drawn x id zero r some e = absurd (omega arith)
first_drawn x id (suc m) r some e =
    let k = hash3_of x id 0 % suc m in
    let is : get_or (range_with_len 0 (suc m)) k 0 ≡ k = get_or-range_with_len 0 (suc m) k 0 (mod_below (hash3_of x id 0) (suc m) some) ∙ omega arith in
    sym (ap (λ i. get_or (places_drawn x id 0 (suc m) (range_with_len 0 (suc m))) i 0) e ∙ is)
