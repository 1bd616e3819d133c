-- Numbers of two lists of which none stands twice.
use Rattle.std.proofs.Common.{◌≡◌, ℕ, Bool, true, false, not, ◌&&◌, List, [], ◌∷◌, ◌++◌, map, refl, ap, arith, ◌==◌}
use Rattle.std.specs.Prelude.{◌||◌}
use Rattle.std.specs.List.{list_any}
use Rattle.std.proofs.lemmas.List.Folds.{list_any-append}
use Rattle.keylist.specs.Keys.{is_distinct, has_key}

-- tests in another order
regroup : (a b d e s : Bool) → (not (a || b) && ((d && e) && not s)) ≡ (((not a && d) && e) && not (b || s))
regroup a b d e s = grind arith

-- the tests where the first list is empty
end : (d : Bool) → d ≡ ((true && d) && not false)
end d = grind arith

-- none stands twice in two lists where it does in neither and they share none
pub distinct-append : (ks js : List ℕ) → is_distinct (ks ++ js) ≡ ((is_distinct ks && is_distinct js) && not (list_any (λ k. list_any (λ j. j == k) js) ks))
unfolding is_distinct
distinct-append [] js = end (is_distinct js)
distinct-append (k ∷ ks) js =
    rw (list_any-append (λ j. j == k) ks js, distinct-append ks js)
    (regroup (list_any (λ j. j == k) ks) (list_any (λ j. j == k) js) (is_distinct ks) (is_distinct js) (list_any (λ i. list_any (λ j. j == i) js) ks))

-- an entry has a key where the key is among theirs
pub key_among : {X : Type 0} (key : X → ℕ) (xs : List X) (k : ℕ) → list_any (λ j. j == k) (map key xs) ≡ has_key key xs k
key_among key [] k = refl
key_among key (x ∷ xs) k = ap (λ b. (key x == k) || b) (key_among key xs k)

-- the same of each entry of another list
keys_among : {X Y : Type 0} (key : X → ℕ) (name : Y → ℕ) (xs : List X) (ys : List Y)
    → list_any (λ k. list_any (λ j. j == k) (map name ys)) (map key xs) ≡ list_any (λ x. has_key name ys (key x)) xs
keys_among key name [] ys = refl
keys_among key name (x ∷ xs) ys = rw (key_among name ys (key x), keys_among key name xs ys) refl

-- no key stands twice in two lists where it does in neither and they share none
pub apart : {X Y : Type 0} (key : X → ℕ) (name : Y → ℕ) (xs : List X) (ys : List Y)
    → is_distinct (map key xs ++ map name ys) ≡ ((is_distinct (map key xs) && is_distinct (map name ys)) && not (list_any (λ x. has_key name ys (key x)) xs))
apart key name xs ys = rw (distinct-append (map key xs) (map name ys), keys_among key name xs ys) refl
