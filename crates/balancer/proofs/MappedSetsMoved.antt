-- What a move makes of the mapped sets.
use Rattle.std.proofs.Common.{◌≡◌, ◌≢◌, ◌∙◌, refl, sym, ap, ℕ, Bool, true, false, not, ◌&&◌, ◌||◌, cond, eqb, List, [], ◌∷◌, ◌++◌, map, Option, Some, None, unwrap_or, inl, inr, arith, eq-eqb}
use Rattle.std.specs.Prelude.{if◌then◌else◌}
use Rattle.std.specs.List.{list_any}
use Rattle.std.specs.Option.{option_map, option_map_or, option_eq}
use Rattle.std.proofs.lemmas.Bool.{cases_Bool, ne_eqb, eqb-true}
use Rattle.std.proofs.lemmas.List.Sums.{fold-append}
use Rattle.keylist.specs.Keys.{entry_at}
use Rattle.keylist.specs.Puts.{put}
use Rattle.keylist.proofs.KeyedMaps.{entry-put}
use Rattle.maptypes.specs.declared.exception.Exception.{Exception}
use Rattle.maptypes.specs.declared.exception.Pair.{Pair}
use Rattle.maptypes.specs.declared.pg.Pg.{Pg}
use Rattle.maptypes.specs.Exceptions.{pg_key, key_of, said_of}
use Rattle.maptypes.specs.Pools.{PoolFacts}
use Rattle.osdmap.specs.Maps.{ClusterMap}
use Rattle.osdmap.specs.Mapped.{is_weightless, with_pair, with_items, with_exceptions}
use Rattle.maptypes.specs.Sets.{replace, is_of, stands}
use Rattle.osdmap.specs.Placement.{group_of, placed_devices, raw_set, mapped_set}
use Rattle.balancer.specs.declared.moves.Move.{Move}
use Rattle.balancer.specs.Moves.{pair_of_move, pairs_in, items_with_move, after_move, is_same_set, does_replace}
use Rattle.balancer.specs.Boards.{is_fixed}

-- ---- what is said of a group after a move

-- what is said of a group once an exception is put in
said_put : (items : List (Exception Pair)) (e : Exception Pair) (g : Pg) → said_of (put key_of items e) g ≡ option_map (λ x. x.entries) (cond (eqb (key_of e) (pg_key g)) (Some e) (entry_at key_of items (pg_key g)))
said_put items e g = ap (option_map (λ x. x.entries)) (entry-put key_of items e (pg_key g))

-- after a move its group has its pairs with this one behind
pub said_moved : (m : ClusterMap) (p : PoolFacts) (v : Move) → said_of (after_move m p v).items (group_of p v.group) ≡ Some (pairs_in m (group_of p v.group) ++ pair_of_move v ∷ [])
unfolding after_move
said_moved m p v =
    let same : eqb (pg_key (group_of p v.group)) (pg_key (group_of p v.group)) ≡ true = eq-eqb _ _ refl in
    said_put m.items (items_with_move m p v) (group_of p v.group) ∙ rw same refl

-- other groups have their pairs as before
pub said_others : (m : ClusterMap) (p : PoolFacts) (v : Move) (n : ℕ) → n ≢ v.group → said_of (after_move m p v).items (group_of p n) ≡ said_of m.items (group_of p n)
unfolding after_move
said_others m p v n other =
    let apart : eqb (pg_key (group_of p v.group)) (pg_key (group_of p n)) ≡ false = ne_eqb _ _ (λ e. other (omega (arith, e))) in
    said_put m.items (items_with_move m p v) (group_of p n) ∙ rw apart refl

-- ---- mapped sets

-- whether an OSD of an explicit set is out
abbrev is_void : List ℕ → Option (List ℕ) → Bool
is_void weights explicit = option_map_or (λ osds. list_any (is_weightless weights) osds) explicit false

-- one pair more acts on what the pairs before made
items_longer : (weights : List ℕ) (places : List (Option ℕ)) (items : Option (List Pair)) (pair : Pair)
    → with_items weights places (Some (unwrap_or items [] ++ pair ∷ [])) ≡ with_pair weights (with_items weights places items) pair
items_longer weights places None pair = refl
items_longer weights places (Some pairs) pair = fold-append (with_pair weights) places pairs (pair ∷ [])

-- one more pair acts on the set that was there, where the explicit set acts
mapped_longer : (weights : List ℕ) (explicit : Option (List ℕ)) (items : Option (List Pair)) (raw : List (Option ℕ)) (pair : Pair)
    → with_exceptions weights explicit (Some (unwrap_or items [] ++ pair ∷ [])) raw ≡ (if is_void weights explicit then with_exceptions weights explicit items raw else with_pair weights (with_exceptions weights explicit items raw) pair)
unfolding with_exceptions
mapped_longer weights None items raw pair = items_longer weights raw items pair
mapped_longer weights (Some osds) items raw pair = elim (cases_Bool (list_any (is_weightless weights) osds)) [
  | inl void ↦ rw void refl
  | inr acts ↦ rw acts (items_longer weights (map (λ osd. Some osd) osds) items pair)
]

-- the mapped set of a group after a move of it
pub mapped_moved : (m : ClusterMap) (p : PoolFacts) (v : Move)
    → mapped_set (after_move m p v) p v.group ≡ (if is_fixed m (group_of p v.group) then mapped_set m p v.group else with_pair m.weights (mapped_set m p v.group) (pair_of_move v))
unfolding mapped_set after_move raw_set placed_devices is_fixed
mapped_moved m p v =
    ap (λ said. with_exceptions m.weights (said_of m.explicit (group_of p v.group)) said (raw_set m p v.group)) (said_moved m p v)
    ∙ mapped_longer m.weights (said_of m.explicit (group_of p v.group)) (said_of m.items (group_of p v.group)) (raw_set m p v.group) (pair_of_move v)

-- that of another group is as before
pub mapped_others : (m : ClusterMap) (p : PoolFacts) (v : Move) (n : ℕ) → n ≢ v.group → mapped_set (after_move m p v) p n ≡ mapped_set m p n
unfolding mapped_set after_move raw_set placed_devices
mapped_others m p v n other = ap (λ said. with_exceptions m.weights (said_of m.explicit (group_of p n)) said (raw_set m p n)) (said_others m p v n other)

-- ---- what is replaced

-- a place is the same as itself
is_same_place : (place : Option ℕ) → option_eq (λ a b. eqb a b) place place ≡ true
is_same_place None = refl
is_same_place (Some o) = eq-eqb o o refl

-- a set is the same as itself
pub is_same_as_itself : (set : List (Option ℕ)) → is_same_set set set ≡ true
is_same_as_itself [] = refl
is_same_as_itself (place ∷ places) = rw (is_same_place place, is_same_as_itself places) refl

-- places that are tested the same are equal
same_places : (some other : Option ℕ) → option_eq (λ a b. eqb a b) some other ≡ true → some ≡ other
same_places None None same = refl
same_places None (Some o) same = cc
same_places (Some a) None same = cc
same_places (Some a) (Some b) same = ap (λ o. Some o) (eqb-true a b same)

-- sets that are tested the same are equal
pub is_same : (some others : List (Option ℕ)) → is_same_set some others ≡ true → some ≡ others
is_same [] [] same = refl
is_same [] (place ∷ places) same = cc
is_same (place ∷ places) [] same = cc
is_same (place ∷ places) (other ∷ others) same = by_test (option_eq (λ a b. eqb a b) place other) refl same (is_same places others)
  where
    by_test : (b : Bool) → option_eq (λ a c. eqb a c) place other ≡ b → (b && is_same_set places others) ≡ true → (is_same_set places others ≡ true → places ≡ others) → ◌≡◌ {A = List (Option ℕ)} (place ∷ places) (other ∷ others)
    by_test true here rest more = let one = same_places place other here in let same = more rest in cc
    by_test false here rest more = cc

-- where an OSD stands, another in its place makes another set
replaced_differs : (pair : Pair) (set : List (Option ℕ)) → pair.from ≢ pair.to → list_any (is_of pair.from) set ≡ true → is_same_set set (replace pair set) ≡ false
unfolding replace
replaced_differs pair [] apart there = cc
replaced_differs pair (place ∷ places) apart there = by_test (is_of pair.from place) refl there (replaced_differs pair places apart)
  where
    other_place : (q : Option ℕ) → is_of pair.from q ≡ true → option_eq (λ a b. eqb a b) q (Some pair.to) ≡ false
    other_place None is = cc
    other_place (Some o) is = ne_eqb o pair.to (λ e. apart (sym (eqb-true o pair.from is) ∙ e))

    by_test : (b : Bool) → is_of pair.from place ≡ b → (b || list_any (is_of pair.from) places) ≡ true
        → (list_any (is_of pair.from) places ≡ true → is_same_set places (replace pair places) ≡ false) → is_same_set (place ∷ places) (if b then Some pair.to ∷ places else place ∷ replace pair places) ≡ false
    by_test true here there more = rw (other_place place here) refl
    by_test false here there more = rw (is_same_place place) (more there)

-- what a pair does in place of a set, by two tests
abbrev put_or_not : Bool → Bool → Pair → List (Option ℕ) → List (Option ℕ)
put_or_not fixed there pair set = if fixed then set else (if there then set else replace pair set)

-- a pair turns a set into itself with one OSD replaced exactly where no OSD of an explicit set is out and the other is
-- not in it
tested : (fixed there : Bool) (pair : Pair) (set : List (Option ℕ)) → pair.from ≢ pair.to → list_any (is_of pair.from) set ≡ true
    → is_same_set (put_or_not fixed there pair set) (replace pair set) ≡ (not fixed && not there)
tested true there pair set apart on = replaced_differs pair set apart on
tested false true pair set apart on = replaced_differs pair set apart on
tested false false pair set apart on = is_same_as_itself (replace pair set)

-- whether a pair replaces: pairs act on the group, and the OSD that comes is not there
pub replaces : (m : ClusterMap) (p : PoolFacts) (v : Move) → v.from ≢ v.to → is_weightless m.weights v.to ≡ false → list_any (is_of v.from) (mapped_set m p v.group) ≡ true
    → does_replace m p v ≡ (not (is_fixed m (group_of p v.group)) && not (stands v.to (mapped_set m p v.group)))
unfolding does_replace with_pair
replaces m p v apart weighs on =
    ap (λ set. is_same_set set (replace (pair_of_move v) (mapped_set m p v.group))) (mapped_moved m p v)
    ∙ rw (weighs, or_false (list_any (is_of v.to) (mapped_set m p v.group)))
    (tested (is_fixed m (group_of p v.group)) (stands v.to (mapped_set m p v.group)) (pair_of_move v) (mapped_set m p v.group) apart on)
  where
    or_false : (b : Bool) → (b || false) ≡ b
    or_false true = refl
    or_false false = refl
