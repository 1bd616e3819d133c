-- What a walk beside rising entries finds of others in ascending order.
use Rattle.std.proofs.Common.{◌≡◌, ◌∙◌, sym, rules, ◌==◌, ap, refl, arith, ℕ, zero, suc, ◌+◌, ◌<◌, ◌≤◌, Bool, true, false, not, cond, eqb, eq-eqb, List, [], ◌∷◌, ◌++◌, length, get_or, drop, add-one, inl, inr}
use Rattle.std.specs.Prelude.{nat_lt, ◌||◌}
use Rattle.std.specs.List.{filter, prefix_len, list_any, All}
use Rattle.std.specs.List.Sorted.{IsNonDecreasingBy}
use Rattle.std.proofs.Math.Seq.{drop-cons}
use Rattle.std.proofs.lemmas.Bool.{cases_Bool, eqb-true}
use Rattle.std.proofs.lemmas.Bool.Decides.{nat_tests}
use Rattle.std.proofs.lemmas.List.Elements.{All-head, All-tail, All-weaker}
use Rattle.std.proofs.lemmas.List.Sorted.{IsNonDecreasingBy-drop}
use Rattle.keylist.specs.Keys.{has_key}
use Rattle.keylist.specs.Order.{IsRising}
use Rattle.keylist.specs.Walks.{rest_from, begins_at}
use Rattle.keylist.proofs.KeyedOrder.{rising_head, rising_tail}

module _ {G : Type 0} (key : G → ℕ) where
  -- one less in front
  drop_more : (n : ℕ) (g : G) (gs : List G) → drop (1 + n) (g ∷ gs) ≡ drop n gs
  drop_more n g gs = let one : 1 + n ≡ suc n = omega arith in ap (λ k. drop k (g ∷ gs)) one

  -- a key from there on is found as before
  pub found_behind : (gs : List G) (place k : ℕ) → place ≤ k → has_key key (rest_from key gs place) k ≡ has_key key gs k
  found_behind [] place k most = refl
  found_behind (g ∷ gs) place k most = elim (cases_Bool (nat_lt (key g) place)) [
    | inl below ↦
        let other : eqb (key g) k ≡ false = grind (arith, nat_tests, below) in
        rw (below, drop_more, other) (found_behind gs place k most)
    | inr other ↦ rw other refl
  ]

  -- the others behind the first are in ascending order
  ascending_tail : (g : G) (gs : List G) → IsNonDecreasingBy key (g ∷ gs) → IsNonDecreasingBy key gs
  ascending_tail g gs up = IsNonDecreasingBy-drop key 1 (g ∷ gs) up

  -- no key is found below the first
  pub none_below : (g : G) (gs : List G) (k : ℕ) → IsNonDecreasingBy key (g ∷ gs) → k < key g → has_key key gs k ≡ false
  none_below g [] k up below = refl
  none_below g (h ∷ gs) k up below =
      let order : key g ≤ key h = up 0 1 g (omega arith) (omega arith) in
      let other : eqb (key h) k ≡ false = grind (arith, nat_tests, order, below) in
      rw other (none_below h gs k (ascending_tail g (h ∷ gs) up) (omega arith))

  -- the first that is left has the key just where one does
  pub begins : (gs : List G) (place : ℕ) → IsNonDecreasingBy key gs → begins_at key (rest_from key gs place) place ≡ has_key key gs place
  begins [] place up = refl
  begins (g ∷ gs) place up = elim (cases_Bool (nat_lt (key g) place)) [
    | inl below ↦
        let other : eqb (key g) place ≡ false = grind (arith, nat_tests, below) in
        rw (below, drop_more, other) (begins gs place (ascending_tail g gs up))
    | inr above ↦ rw above (elim (cases_Bool (eqb (key g) place)) [
      | inl same ↦ rw same refl
      | inr other ↦ let less : place < key g = grind (arith, nat_tests, above, other) in rw (other, none_below g gs place up less) refl
    ])
  ]

  -- what is left is in ascending order
  pub rest_ascends : (gs : List G) (place : ℕ) → IsNonDecreasingBy key gs → IsNonDecreasingBy key (rest_from key gs place)
  rest_ascends gs place up = IsNonDecreasingBy-drop key _ gs up

  module _ {K : Type 0} (own : K → ℕ) where
    -- the entries that stay where those with the keys of others go
    abbrev pub staying : List G → List K → List K
    staying gs es = filter (λ e. not (has_key key gs (own e))) es

    -- entries from a key on stay as before
    filter_behind : (gs : List G) (place : ℕ) (es : List K) → All (λ e. place ≤ own e) es → staying (rest_from key gs place) es ≡ staying gs es
    filter_behind gs place [] above = refl
    filter_behind gs place (e ∷ es) above =
        rw (found_behind gs place (own e) (All-head (λ f. place ≤ own f) e es above), filter_behind gs place es (All-tail (λ f. place ≤ own f) e es above)) refl

    -- the next entry stays or goes, and what is left behind it is looked for in what is left
    pub next_stays : (gs : List G) (e : K) (es : List K) → IsRising own (e ∷ es) → IsNonDecreasingBy key gs
        → staying gs (e ∷ es) ≡ cond (begins_at key (rest_from key gs (own e)) (own e)) [] (e ∷ []) ++ staying (rest_from key gs (own e)) es
    next_stays gs e es rises up =
        rw (filter_behind gs (own e) es (All-weaker (λ f. own e < own f) (λ f. own e ≤ own f) (λ f less. omega (arith, less)) es (rising_head own e es rises)), begins gs (own e) up)
        (turn (has_key key gs (own e)) (staying gs es))
      where
        turn : (named : Bool) (rest : List K) → cond (not named) (e ∷ rest) rest ≡ cond named [] (e ∷ []) ++ rest
        turn true rest = refl
        turn false rest = refl

-- what no element passes none passes that asks for more
weaker_none : {G : Type 0} (p q : G → Bool) → ((g : G) → q g ≡ true → p g ≡ true) → (gs : List G) → list_any p gs ≡ false → list_any q gs ≡ false
weaker_none p q gives [] none = refl
weaker_none p q gives (g ∷ gs) none = elim (cases_Bool (p g)) [
  | inl passes ↦ let both : true ≡ false = rw passes at none in cc
  | inr fails ↦ elim (cases_Bool (q g)) [
    | inl is ↦ let both : false ≡ true = sym fails ∙ gives g is in cc
    | inr other ↦ rw other (weaker_none p q gives gs (rw fails at none))
  ]
]

-- where no entry has the key of another, all stay
pub all_stay : {G K : Type 0} (key : G → ℕ) (own : K → ℕ) (gs : List G) (es : List K) → list_any (λ g. has_key own es (key g)) gs ≡ false → staying key own gs es ≡ es
all_stay key own gs [] none = refl
all_stay key own gs (e ∷ es) none =
    let apart = weaker_none (λ g. has_key own (e ∷ es) (key g)) (λ g. key g == own e) (λ g same. here (own e) (key g) (has_key own es (key g)) same) gs none in
    let rest = weaker_none (λ g. has_key own (e ∷ es) (key g)) (λ g. has_key own es (key g)) (λ g there. behind (own e == key g) (has_key own es (key g)) there) gs none in
    rw apart (ap (λ xs. e ∷ xs) (all_stay key own gs es rest))
  where
    here : (a b : ℕ) (c : Bool) → (b == a) ≡ true → ((a == b) || c) ≡ true
    here a b c same = rw (eq-eqb a b (sym (eqb-true b a same))) refl

    behind : (b c : Bool) → c ≡ true → (b || c) ≡ true
    behind true c there = refl
    behind false c there = there
