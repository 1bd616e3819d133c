-- Lists of tokens of which the first know a value: f is what a token knows.
use Rattle.std.proofs.Common.{◌≡◌, ℕ, zero, suc, ◌+◌, ◌≤◌, ◌<◌, List, [], ◌∷◌, ◌++◌, length, map, take, drop, set, get_or, Option, Some, None, IfSome, IsSome, option_map, inl, inr, refl, sym, ◌∙◌, ap, subst, arith, length-append, slice_get}
use Rattle.std.specs.List.{filter_map, cons_option}
use Rattle.std.proofs.lemmas.List.{length-take, length-take-le, take_more_set, take-take, take_more, map-set, get_or-take, set-get_or, take_at, length-map, map-append, take-map, take-append-drop, set_at, drop_more, append_assoc}
use Rattle.std.proofs.lemmas.List.Elements.{filter_map-append}
use Rattle.std.proofs.lemmas.Option.{slice_get-map, get_or_from_slice_get, slice_get_within, slice_get_read, slice_get_cases, same_Some}
use Rattle.once_cell.specs.Once.{Agrees}

-- a value more makes a list at most one longer
one_more : {T : Type 0} (o : Option T) (ys : List T) → length (cons_option o ys) ≤ suc (length ys)
one_more None ys = omega arith
one_more (Some x) ys = omega arith

module _ {K T : Type 0} (f : K → Option T) where
  -- no more is known than there are tokens
  pub few : (ks : List K) → length (filter_map f ks) ≤ length ks
  few [] = omega arith
  few (k ∷ ks) = omega (arith, one_more (f k) (filter_map f ks), few ks)

  -- each of these tokens knows a value
  abbrev pub IsFull : List K → Type 0
  IsFull ks = length (filter_map f ks) ≡ length ks

  -- the head of such a list knows a value, and so does each of the rest
  head_known : (o : Option T) (ys : List T) (n : ℕ) → length ys ≤ n → length (cons_option o ys) ≡ suc n → (x : T) × (o ≡ Some x) × (length ys ≡ n)
  head_known None ys n le e = absurd (omega arith)
  head_known (Some x) ys n le e = (x, refl, omega arith)

  known_head : (k : K) (ks : List K) → IsFull (k ∷ ks) → (x : T) × (f k ≡ Some x) × IsFull ks
  known_head k ks full = head_known (f k) (filter_map f ks) (length ks) (few ks) full

  -- what a token knows is the value in its place
  pub known_at : (ks : List K) → IsFull ks → (i : ℕ) (d : K) → i < length ks → f (get_or ks i d) ≡ slice_get (filter_map f ks) i
  known_at [] full i d h = absurd (omega arith)
  known_at (k ∷ ks) full zero d h = let head = known_head k ks full in rw head.1 refl
  known_at (k ∷ ks) full (suc i) d h = let head = known_head k ks full in rw head.1 (known_at ks head.2 i d (omega arith))

  -- the first tokens know the first values
  pub front_known : (b : ℕ) (ks : List K) → IsFull ks → filter_map f (take b ks) ≡ take b (filter_map f ks)
  front_known zero ks full = refl
  front_known (suc b) [] full = refl
  front_known (suc b) (k ∷ ks) full = let head = known_head k ks full in rw head.1 (ap (λ xs. head.0 ∷ xs) (front_known b ks head.2))

  -- two who know some value agree
  same_head : (o p : Option T) (x y : T) → o ≡ Some x → p ≡ Some y → IfSome p (Agrees o) → o ≡ p
  same_head o p x y here there agree =
      let at : IfSome (Some y) (Agrees (Some x)) = subst (λ q. IfSome q (Agrees (Some x))) there (subst (λ q. IfSome p (Agrees q)) here agree) in
      here ∙ (ap Some at ∙ sym there)

  same_all : (ks js : List K) → length ks ≡ length js → IsFull ks → IsFull js → ((i : ℕ) (d : K) → i < length ks → IfSome (f (get_or js i d)) (Agrees (f (get_or ks i d)))) → filter_map f ks ≡ filter_map f js
  same_all [] [] e full full' agree = refl
  same_all [] (j ∷ js) e full full' agree = absurd (omega arith)
  same_all (k ∷ ks) [] e full full' agree = absurd (omega arith)
  same_all (k ∷ ks) (j ∷ js) e full full' agree =
      let mine = known_head k ks full in
      let theirs = known_head j js full' in
      let heads : f k ≡ f j = same_head (f k) (f j) mine.0 theirs.0 mine.1 theirs.1 (agree zero k (omega arith)) in
      let tails : filter_map f ks ≡ filter_map f js = same_all ks js (omega arith) mine.2 theirs.2 (λ i d h. agree (suc i) d (omega arith)) in
      rw (heads, tails) refl

  -- what the first so many tokens know, where each of them knows something
  pub within : (n : ℕ) (ks : List K) → length (filter_map f (take n ks)) ≡ n → n ≤ length ks
  within n ks e = omega (arith, few (take n ks), length-take n ks)

  full_front : (n : ℕ) (ks : List K) → length (filter_map f (take n ks)) ≡ n → IsFull (take n ks)
  full_front n ks e = e ∙ sym (length-take-le n ks (within n ks e))

  -- a token among them knows the value in its place
  pub token_knows : (n : ℕ) (ks : List K) → length (filter_map f (take n ks)) ≡ n → (i : ℕ) (d : K) → i < n → f (get_or ks i d) ≡ slice_get (filter_map f (take n ks)) i
  token_knows n ks e i d h =
      ap f (sym (get_or-take n ks i d h)) ∙ known_at (take n ks) (full_front n ks e) i d (omega (arith, length-take-le n ks (within n ks e)))

  -- fewer of them know the first of the values
  pub fewer_know : (n b : ℕ) (ks : List K) → length (filter_map f (take n ks)) ≡ n → b ≤ n → filter_map f (take b ks) ≡ take b (filter_map f (take n ks))
  fewer_know n b ks e le = ap (filter_map f) (sym (take-take b n ks le)) ∙ front_known b (take n ks) (full_front n ks e)

  pub fewer_full : (n b : ℕ) (ks : List K) → length (filter_map f (take n ks)) ≡ n → b ≤ n → length (filter_map f (take b ks)) ≡ b
  fewer_full n b ks e le = ap length (fewer_know n b ks e le) ∙ length-take-le b (filter_map f (take n ks)) (omega arith)

  -- two lists whose first tokens agree, each with the one in its place, know the same values
  pub same_front : (n : ℕ) (ks js : List K) → length (filter_map f (take n ks)) ≡ n → length (filter_map f (take n js)) ≡ n → ((i : ℕ) (d : K) → i < n → IfSome (f (get_or js i d)) (Agrees (f (get_or ks i d)))) → filter_map f (take n ks) ≡ filter_map f (take n js)
  same_front n ks js e e' agree =
      let this : length (take n ks) ≡ n = length-take-le n ks (within n ks e) in
      let that : length (take n js) ≡ n = length-take-le n js (within n js e') in
      same_all (take n ks) (take n js) (this ∙ sym that) (full_front n ks e) (full_front n js e')
      (λ i d h. let low : i < n = omega arith in rw (get_or-take n ks i d low, get_or-take n js i d low) (agree i d low))

  -- a token that knows x, put behind those that know a value
  pub one_more_known : (n : ℕ) (ks : List K) (k : K) (x : T) → n < length ks → f k ≡ Some x → filter_map f (take (n + 1) (set ks n k)) ≡ filter_map f (take n ks) ++ x ∷ []
  one_more_known n ks k x h e = rw (take_more_set ks n k h, filter_map-append f (take n ks) (k ∷ []), e) refl

  pub one_more_seen : (n : ℕ) (ks : List K) (k : K) (o : Option T) → n < length ks → f k ≡ o → IfSome o (λ x. filter_map f (take (n + 1) (set ks n k)) ≡ filter_map f (take n ks) ++ x ∷ [])
  one_more_seen n ks k None h e = tt
  one_more_seen n ks k (Some x) h e = one_more_known n ks k x h e

  pub one_more_full : (n : ℕ) (ks : List K) (k : K) (o : Option T) → n < length ks → f k ≡ o → IsSome o → length (filter_map f (take n ks)) ≡ n → length (filter_map f (take (n + 1) (set ks n k))) ≡ n + 1
  one_more_full n ks k None h e some full = absurd (cc some)
  one_more_full n ks k (Some x) h e some full = omega (arith, ap length (one_more_known n ks k x h e), length-append (filter_map f (take n ks)) (x ∷ []))

-- a list in which an element is replaced by its equal
pub set_same : {K C : Type 0} (g : K → C) (ks : List K) (i : ℕ) (k : K) → slice_get (map g ks) i ≡ Some (g k) → map g (set ks i k) ≡ map g ks
set_same g ks i k e = map-set g ks i k ∙ (ap (set (map g ks) i) (sym (get_or_from_slice_get (map g ks) i (g k) (g k) e)) ∙ set-get_or (map g ks) i (g k))

-- a place at which there is an element
pub place_of : {K C : Type 0} (g : K → C) (ks : List K) (i : ℕ) (y : C) → slice_get (map g ks) i ≡ Some y → i < length ks
place_of g ks i y e = omega (arith, slice_get_within (map g ks) i y e, length-map ks g)

-- the element in a place, as a list of what is read off each element has it
pub read_at : {K C : Type 0} (g : K → C) (ks : List K) (i : ℕ) (k : K) → i < length ks → k ≡ get_or ks i k → slice_get (map g ks) i ≡ Some (g k)
read_at g ks i k h e = slice_get-map g ks i ∙ ap (option_map g) (slice_get_read ks (length ks) i k refl h e)

-- two lists of which the same is read off have it in each place
pub same_at : {K J C : Type 0} (g : K → C) (h : J → C) (ks : List K) (js : List J) (i : ℕ) (k : K) (j : J) → map g ks ≡ map h js → i < length ks → i < length js → k ≡ get_or ks i k → j ≡ get_or js i j → g k ≡ h j
same_at g h ks js i k j e low low' this that =
    same_Some (g k) (h j) (sym (read_at g ks i k low this) ∙ (ap (λ ys. slice_get ys i) e ∙ read_at h js i j low' that))

-- what is in a place of a list is not nothing
pub something_at : {T : Type 0} (xs : List T) (i : ℕ) → i < length xs → slice_get xs i ≡ None → ⊥
something_at xs i h none = elim (slice_get_cases xs i).1 [
  | inl found ↦ cc (found.2, none)
  | inr past ↦ absurd (omega arith)
]

-- a value that agrees with what is in a place is in it
pub agrees_at : {T : Type 0} (xs : List T) (i : ℕ) (x : T) → i < length xs → IfSome (slice_get xs i) (λ y. y ≡ x) → slice_get xs i ≡ Some x
agrees_at xs i x h agrees = elim (slice_get_cases xs i).1 [
  | inl found ↦ let same : IfSome (Some found.0) (λ y. y ≡ x) = subst (λ o. IfSome o (λ y. y ≡ x)) found.2 agrees in found.2 ∙ ap Some same
  | inr past ↦ absurd (omega arith)
]

-- the first elements of one list in the place of those of another, where the same is read off
pub read_copied : {K C : Type 0} (g : K → C) (m : ℕ) (ks js : List K) → map g ks ≡ map g js → map g (take m js ++ drop m ks) ≡ map g ks
read_copied g m ks js e =
    map-append g (take m js) (drop m ks)
    ∙ (ap (λ ys. ys ++ map g (drop m ks)) (sym (take-map g m js) ∙ (ap (take m) (sym e) ∙ take-map g m ks))
    ∙ (sym (map-append g (take m ks) (drop m ks)) ∙ ap (map g) (take-append-drop m ks)))

-- the first of a list are what was put there
pub first_copied : {K : Type 0} (m : ℕ) (ks js : List K) → m ≤ length js → take m (take m js ++ drop m ks) ≡ take m js
first_copied m ks js h = take_at (take m js) (drop m ks) m (length-take-le m js h)

-- one element more is put there
pub copied_more : {K : Type 0} (ys ks js : List K) (i : ℕ) (j k : K) → ys ≡ take i js ++ drop i ks → i < length ks → i < length js → k ≡ j → j ≡ get_or js i j → set ys i k ≡ take (i + 1) js ++ drop (i + 1) ks
copied_more ys ks js i j k is low low' same read =
    let front : length (take i js) ≡ i = length-take-le i js (omega arith) in
    let written : set (take i js ++ (get_or ks i k ∷ drop (i + 1) ks)) i k ≡ take i js ++ (k ∷ drop (i + 1) ks) = set_at (take i js) (get_or ks i k) (drop (i + 1) ks) k i front in
    let more : take (i + 1) js ≡ take i js ++ (k ∷ []) = take_more js i j low' ∙ ap (λ z. take i js ++ (z ∷ [])) (sym (same ∙ read)) in
    ap (λ zs. set zs i k) (is ∙ ap (λ zs. take i js ++ zs) (drop_more ks i k low))
    ∙ (written ∙ (sym (append_assoc (take i js) (k ∷ []) (drop (i + 1) ks)) ∙ ap (λ zs. zs ++ drop (i + 1) ks) (sym more)))
