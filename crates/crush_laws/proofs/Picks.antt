-- what the picks of each kind have in common with the CRUSH paper: every place drawn once, the greatest winner, some weight
use Rattle.std.proofs.Common.{◌≡◌, ℕ, zero, suc, ◌+◌, ◌-◌, ◌*◌, ◌/◌, ◌%◌, ◌^◌, ◌<◌, cond, List, [], ◌∷◌, length, map, get_or, set, drop, length-set, ℤ, pos, sym, ap, refl, ◌∙◌, subst, arith}
use Rattle.std.specs.List.{range_with_len}
use Rattle.std.specs.List.Sorted.{IsPermutation}
use Rattle.std.proofs.lemmas.List.{length-drop}
use Rattle.std.proofs.lemmas.List.FromFn.{length-range_with_len}
use Rattle.std.proofs.lemmas.List.Edits.{swap_is}
use Rattle.std.proofs.lemmas.List.Sorted.{length_permutation, IsPermutation-map, IsPermutation-refl, IsPermutation-cons, IsPermutation-trans, IsPermutation-sym, IsPermutation-swap}
use Rattle.std.proofs.lemmas.Nat.{mod_below}
use Rattle.std.proofs.Math.Nat.{pow-suc, mod-eq_of_lt}
use Rattle.rjenkins.specs.Jenkins.{hash3_of}
use Rattle.buckets.specs.declared.bucket.Item.{Item}
use Rattle.buckets.specs.declared.bucket.Bucket.{Bucket}
use Rattle.buckets.specs.declared.bucket.BucketKind.TheVariants.{Uniform}
use Rattle.buckets.specs.Items.{word, item_at}
use Rattle.buckets.specs.Uniform.{places_drawn, draw_order, uniform_place}
use Rattle.buckets.specs.Tree.{weight_between, goes_left, height_of, tree_place}
use Rattle.buckets.specs.Pick.{place_by, pick_of}
use Rattle.crush_laws.specs.Picks.{weight_under, node_place, TreesAreWalkedByNodes, UniformPicksEachOnce, DrawsEachPlaceOnce, ListPicksGreatestWinner, TreePicksWeight}
use Rattle.crush.proofs.PlacesPicked.{list_wins, tree_weighs}

-- the place drawn and the rest are all
one_drawn : (rest : List ℕ) (k : ℕ) → k < length rest → IsPermutation (get_or rest k 0 ∷ drop 1 (set rest k (get_or rest 0 0))) rest
one_drawn [] k within = absurd (omega arith)
one_drawn (a ∷ rest) zero within = IsPermutation-refl (a ∷ rest)
one_drawn (a ∷ rest) (suc k) within =
    let some : 0 < length (a ∷ rest) = omega arith in
    IsPermutation-sym _ _ (IsPermutation-swap (a ∷ rest) (get_or rest k 0 ∷ set rest k a) 0 (suc k) some within (swap_is (a ∷ rest) 0 (suc k) 0 some within))

-- each draw takes one of the rest
each_once : (x id p n : ℕ) (rest : List ℕ) → length rest ≡ n → IsPermutation (places_drawn x id p n rest) rest
unfolding places_drawn
each_once x id p zero [] e = IsPermutation-refl []
each_once x id p zero (a ∷ rest) e = absurd (omega arith)
each_once x id p (suc n) rest e =
    let k = hash3_of x id p % suc n in
    let low : k < suc n = mod_below (hash3_of x id p) (suc n) (omega arith) in
    let left = drop 1 (set rest k (get_or rest 0 0)) in
    let len : length left ≡ n = omega (arith, length-drop 1 (set rest k (get_or rest 0 0)), length-set rest k (get_or rest 0 0), e) in
    IsPermutation-trans _ (get_or rest k 0 ∷ left) rest
    (IsPermutation-cons (get_or rest k 0) (places_drawn x id (p + 1) n left) left (each_once x id (p + 1) n left len))
    (one_drawn rest k (omega arith))

-- so a uniform bucket draws each place once
pub draws_each_place_once : DrawsEachPlaceOnce
draws_each_place_once x id n = each_once x id 0 n (range_with_len 0 n) (length-range_with_len 0 n)

-- so a list bucket picks the last that wins
pub list_picks_greatest_winner : ListPicksGreatestWinner
list_picks_greatest_winner b x r kind pickable =
    let is = list_wins b x r kind pickable in
    record { within = is.within; wins = is.passes; none_later = is.later }

-- and a tree bucket an item that weighs something
pub tree_picks_weight : TreePicksWeight
tree_picks_weight = tree_weighs

-- a map over places is a map over the elements
mapped_places : {X : Type 0} (F : ℕ → ℤ) (g : X → ℤ) (xs : List X) (d : X) (a : ℕ) → ((i : ℕ) → i < length xs → F (a + i) ≡ g (get_or xs i d)) → map F (range_with_len a (length xs)) ≡ map g xs
mapped_places F g [] d a each = refl
mapped_places F g (x ∷ xs) d a each =
    let here : F a ≡ g x = ap F (omega arith) ∙ each 0 (omega arith) in
    let rest = mapped_places F g xs d (a + 1) (λ i lt. let e : (a + 1) + i ≡ a + suc i = omega arith in ap F e ∙ each (suc i) (omega arith)) in
    ap (λ y. y ∷ map F (range_with_len (a + 1) (length xs))) here ∙ ap (λ ys. g x ∷ ys) rest

-- the item at a place that a uniform bucket draws, and its id
id_at : List Item → ℕ → ℤ
id_at items place = (item_at items place).id

-- the picks at n replica numbers from 0 on follow the order drawn
picks_drawn : (b : Bucket) (x : ℕ) → b.kind ≡ Uniform → map (λ r. pick_of b x r) (range_with_len 0 (length b.items)) ≡ map (id_at b.items) (draw_order x (word b.id) (length b.items))
unfolding pick_of place_by uniform_place id_at
picks_drawn b x kind =
    let n = length b.items in
    let order = draw_order x (word b.id) n in
    let whole : length order ≡ n = sym (length_permutation order (range_with_len 0 n) (draws_each_place_once x (word b.id) n)) ∙ length-range_with_len 0 n in
    let by_kind : (r : ℕ) → pick_of b x r ≡ (item_at b.items (get_or order (r % n) 0)).id = λ r. ap (λ k. (item_at b.items (place_by k b x r)).id) kind in
    ap (λ m. map (λ r. pick_of b x r) (range_with_len 0 m)) (sym whole)
    ∙ mapped_places (λ r. pick_of b x r) (λ p. (item_at b.items p).id) order 0 0 (λ i lt.
    let low : (0 + i) % n ≡ i = mod-eq_of_lt (omega arith) ∙ omega arith in
    by_kind (0 + i) ∙ ap (λ m. (item_at b.items (get_or order m 0)).id) low)

-- so its picks are its items
pub uniform_picks_each_once : UniformPicksEachOnce
unfolding id_at
uniform_picks_each_once b x kind =
    let n = length b.items in
    let order = draw_order x (word b.id) n in
    let all : map (id_at b.items) (range_with_len 0 n) ≡ map (λ i. i.id) b.items =
    mapped_places (id_at b.items) (λ (i : Item). i.id) b.items (record { id = pos 0; weight = 0 }) 0 (λ i lt. ap (id_at b.items) (omega arith)) in
    let P : List ℤ → Type 0 = λ ys. IsPermutation ys (map (λ i. i.id) b.items) in
    let Q : List ℤ → Type 0 = λ ys. IsPermutation (map (id_at b.items) order) ys in
    subst P (sym (picks_drawn b x kind)) (subst Q all (IsPermutation-map (id_at b.items) order (range_with_len 0 n) (draws_each_place_once x (word b.id) n)))

-- the node of the places from `from` on, and its children
under_node : (items : List Item) (k from : ℕ) → weight_under items k (2 * from + 2 ^ k) ≡ weight_between items from (2 ^ k)
under_node items k from =
    let at : ((2 * from + 2 ^ k) - 2 ^ k) / 2 ≡ from = omega arith in
    ap (λ m. weight_between items m (2 ^ k)) at

-- a walk by places is a walk by nodes
walked_by : (draw : ℕ → ℕ) (items : List Item) (k from : ℕ) → tree_place draw items k from ≡ node_place draw items k (2 * from + 2 ^ k)
unfolding tree_place node_place
walked_by draw items zero from = omega arith
walked_by draw items (suc k) from =
    let node = 2 * from + 2 ^ suc k in
    let two : 2 ^ suc k ≡ 2 ^ k + 2 ^ k = omega (arith, pow-suc 2 k) in
    let left : node - 2 ^ k ≡ 2 * from + 2 ^ k = omega (arith, two) in
    let right : node + 2 ^ k ≡ 2 * (from + 2 ^ k) + 2 ^ k = omega (arith, two) in
    let whole = under_node items (suc k) from in
    let half : weight_under items k (node - 2 ^ k) ≡ weight_between items from (2 ^ k) = ap (weight_under items k) left ∙ under_node items k from in
    let goes = goes_left (draw node) (weight_between items from (2 ^ suc k)) (weight_between items from (2 ^ k)) in
    ap (λ p. cond goes p (tree_place draw items k (from + 2 ^ k))) (walked_by draw items k from ∙ ap (node_place draw items k) (sym left))
    ∙ ap (λ p. cond goes (node_place draw items k (node - 2 ^ k)) p) (walked_by draw items k (from + 2 ^ k) ∙ ap (node_place draw items k) (sym right))
    ∙ ap (λ w. cond (goes_left (draw node) w (weight_between items from (2 ^ k))) (node_place draw items k (node - 2 ^ k)) (node_place draw items k (node + 2 ^ k))) (sym whole)
    ∙ ap (λ w. cond (goes_left (draw node) (weight_under items (suc k) node) w) (node_place draw items k (node - 2 ^ k)) (node_place draw items k (node + 2 ^ k))) (sym half)

-- so is that of a whole tree, from its root
pub trees_are_walked_by_nodes : TreesAreWalkedByNodes
trees_are_walked_by_nodes draw items =
    let h = height_of (length items) in
    let root : 2 * 0 + 2 ^ h ≡ 2 ^ h = omega arith in
    walked_by draw items h 0 ∙ ap (node_place draw items h) root
