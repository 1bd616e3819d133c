-- Marks on numbers: a step of marking, and what marking finds.
use Rattle.std.proofs.Math.Seq.{drop-cons}
use Rattle.std.proofs.Math.ListN.{drop_of_length-le}
use Rattle.std.proofs.Common.{◌≡◌, ℕ, zero, suc, ◌+◌, ◌<◌, ◌≤◌, Bool, true, false, not, ◌&&◌, List, [], ◌∷◌, map, length, get_or, set, drop, refl, arith, add-one, replicate, ◌==◌, nat_lt}
use Rattle.std.proofs.Math.ListN.{length-set, length-replicate}
use Rattle.std.specs.List.{list_any, list_all}
use Rattle.std.proofs.lemmas.Bool.Decides.{nat_tests}
use Rattle.std.proofs.lemmas.Grind.{common_steps}
use Rattle.osdmap.specs.Marks.{are_new, are_below}
use Rattle.keylist.proofs.Tests.{and_second}
use Rattle.keylist.specs.Keys.{is_distinct}

module _ {X : Type 0} (named : X → ℕ) where
  -- from place i on
  pub new_step : (marks : List Bool) (xs : List X) (i : ℕ) (x : X) → i < length xs → x ≡ get_or xs i x
      → are_new named marks (drop i xs) ≡ (not (get_or marks (named x) false) && are_new named (set marks (named x) true) (drop (i + 1) xs))
  unfolding are_new
  new_step marks xs i x inside is = rw (drop-cons xs i x, ← is, add-one) refl

  -- from the end on
  pub new_end : (marks : List Bool) (xs : List X) (i : ℕ) → length xs ≤ i → are_new named marks (drop i xs) ≡ true
  unfolding are_new
  new_end marks xs i past = rw (drop_of_length-le xs past) refl

-- no mark on what any entry names
abbrev pub are_free : {X : Type 0} → (X → ℕ) → List Bool → List X → Bool
are_free named marks es = list_all (λ e. not (get_or marks (named e) false)) es

-- a mark on k frees those that were free and do not name k
free_after : {X : Type 0} (named : X → ℕ) (marks : List Bool) (k : ℕ) (es : List X) → k < length marks
    → are_free named (set marks k true) es ≡ (not (list_any (λ j. j == k) (map named es)) && are_free named marks es)
free_after named marks k [] inside = refl
free_after named marks k (e ∷ es) inside = grind (arith, nat_tests, common_steps, free_after named marks k es inside)

-- four tests in another order
regroup : (a d n f : Bool) → (a && (d && (n && f))) ≡ (n && d && (a && f))
regroup a d n f = grind arith

-- entries are new where they are free and name nothing twice
pub new_is : {X : Type 0} (named : X → ℕ) (marks : List Bool) (es : List X) → are_below named (length marks) es ≡ true
    → are_new named marks es ≡ (is_distinct (map named es) && are_free named marks es)
unfolding are_new is_distinct
new_is named marks [] inside = refl
new_is named marks (e ∷ es) inside =
    let here : named e < length marks = grind (arith, nat_tests, inside) in
    let rest : list_all (λ x. nat_lt (named x) (length (set marks (named e) true))) es ≡ true = rw length-set (and_second (nat_lt (named e) (length marks)) _ inside) in
    rw (new_is named (set marks (named e) true) es rest, free_after named marks (named e) es here) (regroup (not (get_or marks (named e) false)) (is_distinct (map named es)) (not (list_any (λ j. j == named e) (map named es))) (are_free named marks es))

-- without a mark everything is free
free_unmarked : {X : Type 0} (named : X → ℕ) (n : ℕ) (es : List X) → are_free named (replicate n false) es ≡ true
free_unmarked named n [] = refl
free_unmarked named n (e ∷ es) = rw (get_or_replicate n (named e), free_unmarked named n es) refl
  where
    get_or_replicate : (n k : ℕ) → get_or (replicate n false) k false ≡ false
    get_or_replicate zero k = refl
    get_or_replicate (suc n) zero = refl
    get_or_replicate (suc n) (suc k) = get_or_replicate n k

-- entries that name numbers below n are new without a mark where they name nothing twice
pub new_unmarked : {X : Type 0} (named : X → ℕ) (n : ℕ) (es : List X) → are_below named n es ≡ true
    → are_new named (replicate n false) es ≡ is_distinct (map named es)
new_unmarked named n es inside =
    rw (new_is named (replicate n false) es (rw length-replicate inside), free_unmarked named n es) (grind arith)
