-- the heights of tree buckets, and one level of the walk
use Rattle.std.proofs.Common.{◌≡◌, ◌≢◌, ℕ, suc, ◌+◌, ◌-◌, ◌*◌, ◌/◌, ◌^◌, ◌<◌, ◌≤◌, cond, Bool, true, false, List, length, get_or, set, get_or-set_other, take, drop, eqb, min, subst, refl, sym, ap, ◌∙◌, inl, inr, arith}
use Rattle.std.specs.List.{range_with_len, list_all}
use lib.Count.{count_leading_zeros}
use Rattle.std.proofs.Math.Seq.{take-add}
use Rattle.std.proofs.lemmas.List.{drop-drop, drop_all, take_min, length-drop, take_all}
use Rattle.std.proofs.lemmas.List.Sums.{AllPass-from_list_all, sum_by-append, sum_by-take-drop, sum_by-take-le}
use borrow.Author.Tests.{ltb-true}
use Rattle.std.proofs.lemmas.Bool.{ltb-false, eqb-true, cases_lt, cases_Bool}
use Rattle.std.proofs.lemmas.Grind.{get_or-set_at}
use Rattle.std.proofs.lemmas.Nat.{div_below}
use Rattle.std.proofs.Math.Nat.{mul_comm, mul-lt-mul_of_pos_right, pow-suc}
use Rattle.buckets.specs.declared.bucket.Item.{Item}
use Rattle.buckets.specs.declared.bucket.Bucket.{Bucket}
use Rattle.buckets.specs.Items.{weight_of, item_at}
use Rattle.buckets.specs.declared.pick.tree.Walk.{Walk}
use Rattle.buckets.specs.Tree.{weight_between, goes_left, height_of, tree_place}
use Rattle.buckets.specs.Walks.{stepped}
use Rattle.buckets.specs.Pick.{place_picked, pick_of}
use Rattle.std.proofs.lemmas.List.FromFn.{length-range_with_len, get_or-range_with_len}

-- what is computed for each of 1 to 64
at_each : (p : ℕ → Bool) → list_all p (range_with_len 1 64) ≡ true → (n : ℕ) → 0 < n → n ≤ 64 → p n ≡ true
at_each p all n some few =
    let is : get_or (range_with_len 1 64) (n - 1) 0 ≡ n = get_or-range_with_len 1 64 (n - 1) 0 (omega arith) ∙ omega arith in
    let within : n - 1 < length (range_with_len 1 64) = omega (arith, length-range_with_len 1 64) in
    ap p (sym is) ∙ AllPass-from_list_all p (range_with_len 1 64) all (n - 1) 0 within

-- the height by leading zeros
pub height_is : (n : ℕ) → 0 < n → n ≤ 64 → 64 - count_leading_zeros 64 (n - 1) ≡ height_of n
unfolding count_leading_zeros
height_is n some few = eqb-true _ _ (at_each (λ n. eqb (64 - count_leading_zeros 64 (n - 1)) (height_of n)) refl n some few)

-- the leaves of a tree hold its items
pub height_holds : (n : ℕ) → 0 < n → n ≤ 64 → n ≤ 2 ^ height_of n
height_holds n some few = let e = eqb-true _ _ (at_each (λ n. eqb (n - 2 ^ height_of n) 0) refl n some few) in omega arith

-- the items of a part, with its ends cut at the length
part_is : (items : List Item) (from count : ℕ) → take (min (from + count) (length items) - min from (length items)) (drop (min from (length items)) items) ≡ take count (drop from items)
part_is items from count = elim (cases_lt (length items) from) [
  | inr inside ↦ (let rest = drop from items in
      let len : length rest ≡ length items - from = length-drop from items in
      let low : min from (length items) ≡ from = omega arith in
      let high : min (from + count) (length items) - from ≡ min count (length rest) = omega arith in
      ap (λ m. take (min (from + count) (length items) - m) (drop m items)) low ∙ ap (λ m. take m rest) high ∙ take_min count rest)
  | inl past ↦ (let low : min from (length items) ≡ length items = omega arith in
      let none : drop (length items) items ≡ drop from items = drop_all (length items) items (omega arith) ∙ sym (drop_all from items (omega arith)) in
      let high : min (from + count) (length items) - length items ≡ 0 = omega arith in
      let len : length (drop from items) ≡ length items - from = length-drop from items in
      ap (λ m. take (min (from + count) (length items) - m) (drop m items)) low ∙ ap (λ m. take m (drop (length items) items)) high ∙ sym (ap (take count) (drop_all from items (omega arith)) ∙ take_all count _ (omega arith)))
]

-- the weight of a part with its ends cut
pub part_weight : (items : List Item) (from count start end : ℕ) → start ≡ min from (length items) → end ≡ min (from + count) (length items) → weight_of (take (end - start) (drop start items)) ≡ weight_between items from count
part_weight items from count start end e f =
    ap (λ m. weight_of (take (end - m) (drop m items))) e ∙ ap (λ m. weight_of (take (m - min from (length items)) (drop (min from (length items)) items))) f ∙ ap weight_of (part_is items from count)

-- a part weighs no more than all
pub part_le : (items : List Item) (from count : ℕ) → weight_between items from count ≤ weight_of items
part_le items from count = omega (arith, sum_by-take-drop (λ (i : Item). i.weight) items from, sum_by-take-le (λ (i : Item). i.weight) (drop from items) count)

-- the weight of a node is that of its halves
pub halves : (items : List Item) (from half : ℕ) → weight_between items from (half + half) ≡ weight_between items from half + weight_between items (from + half) half
halves items from half =
    ap weight_of (take-add half half (drop from items))
    ∙ sum_by-append (λ (i : Item). i.weight) (take half (drop from items)) (take half (drop half (drop from items)))
    ∙ ap (λ ys. weight_between items from half + weight_of (take half ys)) (drop-drop half from items)

-- the step of the walk
tree_place_more : (draw : ℕ → ℕ) (k from node w left : ℕ) (items : List Item) (goes : Bool) → node ≡ 2 * from + 2 ^ suc k → w ≡ weight_between items from (2 ^ suc k) → left ≡ weight_between items from (2 ^ k) → goes ≡ goes_left (draw node) w left → cond goes (tree_place draw items k from) (tree_place draw items k (from + 2 ^ k)) ≡ tree_place draw items (suc k) from
unfolding tree_place
tree_place_more draw k from node w left items goes en ew el eg =
    ap (λ b. cond b (tree_place draw items k from) (tree_place draw items k (from + 2 ^ k)))
    (eg ∙ ap (λ m. goes_left (draw m) w left) en ∙ ap (λ v. goes_left (draw (2 * from + 2 ^ suc k)) v left) ew ∙ ap (goes_left (draw (2 * from + 2 ^ suc k)) (weight_between items from (2 ^ suc k))) el)

-- the walk has come to the node of the 2 ^ k places from `from` on, which weighs w
pub record IsAt (draw : ℕ → ℕ) (items : List Item) (k from w : ℕ) : Type 0 where
  pub low : k ≤ 6
  pub room : from + 2 ^ k ≤ 64
  pub some : 0 < w
  pub weighed : w ≡ weight_between items from (2 ^ k)
  pub rest : tree_place draw items k from ≡ tree_place draw items (height_of (length items)) 0

-- a draw is below the weight that it is made against
pub draw_below : (scale h w : ℕ) → h < scale → 0 < w → h * w / scale < w
draw_below scale h w low some =
    div_below (h * w) scale w (omega arith) (let p : h * w < scale * w = mul-lt-mul_of_pos_right low some in let q : scale * w ≡ w * scale = mul_comm scale w in omega arith)

-- the node's halves
halves_of : (draw : ℕ → ℕ) (k from w left : ℕ) (items : List Item) → IsAt draw items (suc k) from w → left ≡ weight_between items from (2 ^ k) → w ≡ left + weight_between items (from + 2 ^ k) (2 ^ k)
halves_of draw k from w left items at el =
    let two : 2 ^ suc k ≡ 2 ^ k + 2 ^ k = omega (arith, pow-suc 2 k) in
    at.weighed ∙ ap (weight_between items from) two ∙ halves items from (2 ^ k) ∙ ap (λ m. m + weight_between items (from + 2 ^ k) (2 ^ k)) (sym el)

-- where the walk goes left the left half weighs something
pub goes_left_some : (hash w left : ℕ) → goes_left hash w left ≡ true → 0 < left
unfolding goes_left
goes_left_some hash w left e = let h = ltb-true _ _ e in omega (arith, h)

-- the step to the left half
step_left : (draw : ℕ → ℕ) (k from node w left : ℕ) (items : List Item) → IsAt draw items (suc k) from w → node ≡ 2 * from + 2 ^ suc k → left ≡ weight_between items from (2 ^ k) → goes_left (draw node) w left ≡ true → IsAt draw items k from left
step_left draw k from node w left items at en el e =
    let two : 2 ^ suc k ≡ 2 ^ k + 2 ^ k = omega (arith, pow-suc 2 k) in
    record {
      low = omega (arith, at.low);
      room = omega (arith, at.room);
      some = goes_left_some (draw node) w left e;
      weighed = el;
      rest = tree_place_more draw k from node w left items true en at.weighed el (sym e) ∙ at.rest;
    }

-- the step to the right half
step_right : (draw : ℕ → ℕ) (k from node w left : ℕ) (items : List Item) → IsAt draw items (suc k) from w → node ≡ 2 * from + 2 ^ suc k → left ≡ weight_between items from (2 ^ k) → draw node < 2 ^ 32 → goes_left (draw node) w left ≡ false → IsAt draw items k (from + 2 ^ k) (w - left)
unfolding goes_left
step_right draw k from node w left items at en el low e =
    let two : 2 ^ suc k ≡ 2 ^ k + 2 ^ k = omega (arith, pow-suc 2 k) in
    let both = halves_of draw k from w left items at el in
    let under = draw_below (2 ^ 32) (draw node) w low at.some in
    let over = ltb-false _ _ e in
    record {
      low = omega (arith, at.low);
      room = omega (arith, at.room);
      some = omega (arith, under, over);
      weighed = omega (arith, both);
      rest = tree_place_more draw k from node w left items false en at.weighed el (sym e) ∙ at.rest;
    }

-- a walk that has come to a leaf has come to its place
pub at_leaf : (draw : ℕ → ℕ) (from w : ℕ) (items : List Item) → IsAt draw items 0 from w → (from ≡ tree_place draw items (height_of (length items)) 0) × (from < length items)
unfolding tree_place
at_leaf draw from w items at = (
  at.rest,
  elim (cases_lt from (length items)) [
    | inl h ↦ h
    | inr past ↦ (let none = ap (λ ys. weight_of (take 1 ys)) (drop_all from items past) in absurd (omega (arith, none, at.some, at.weighed)))
  ],
)

-- the same, as the loop has it
pub walks_left : (draw : ℕ → ℕ) (k from half node w left : ℕ) (items : List Item) → 0 < k → half ≡ 2 ^ (k - 1) → node ≡ 2 * (from + half) → left ≡ weight_between items from half → IsAt draw items k from w → goes_left (draw node) w left ≡ true → IsAt draw items (k - 1) from left
walks_left draw k from half node w left items some eh en el at e =
    let j = k - 1 in
    let P : ℕ → Type 0 = λ m. IsAt draw items m from w in
    let more : k ≡ suc j = omega arith in
    let two : 2 ^ suc j ≡ 2 ^ j + 2 ^ j = omega (arith, pow-suc 2 j) in
    step_left draw j from node w left items (subst P more at) (omega arith) (el ∙ ap (weight_between items from) eh) e

-- the same to the right
pub walks_right : (draw : ℕ → ℕ) (k from half node w left : ℕ) (items : List Item) → 0 < k → half ≡ 2 ^ (k - 1) → node ≡ 2 * (from + half) → left ≡ weight_between items from half → IsAt draw items k from w → draw node < 2 ^ 32 → goes_left (draw node) w left ≡ false → IsAt draw items (k - 1) (from + half) (w - left)
walks_right draw k from half node w left items some eh en el at low e =
    let j = k - 1 in
    let P : ℕ → Type 0 = λ m. IsAt draw items m from w in
    let Q : ℕ → Type 0 = λ h. IsAt draw items j (from + h) (w - left) in
    let more : k ≡ suc j = omega arith in
    let two : 2 ^ suc j ≡ 2 ^ j + 2 ^ j = omega (arith, pow-suc 2 j) in
    subst Q (sym eh) (step_right draw j from node w left items (subst P more at) (omega arith) (el ∙ ap (weight_between items from) eh) low e)

-- the left half weighs no more than the node
pub left_le : (draw : ℕ → ℕ) (k from half w left : ℕ) (items : List Item) → 0 < k → half ≡ 2 ^ (k - 1) → left ≡ weight_between items from half → IsAt draw items k from w → left ≤ w
left_le draw k from half w left items some eh el at =
    let j = k - 1 in
    let P : ℕ → Type 0 = λ m. IsAt draw items m from w in
    let more : k ≡ suc j = omega arith in
    omega (arith, halves_of draw j from w left items (subst P more at) (el ∙ ap (weight_between items from) eh))

-- the weight of a part, by the weights of what comes before its ends
pub part_sums : (items : List Item) (from count start end below upto : ℕ) → start ≡ min from (length items) → end ≡ min (from + count) (length items) → below ≡ weight_of (take start items) → upto ≡ weight_of (take end items) → upto ≡ below + weight_between items from count
part_sums items from count start end below upto es ee eb eu =
    let whole : end ≡ start + (end - start) = omega arith in
    eu ∙ ap (λ m. weight_of (take m items)) whole
    ∙ ap weight_of (take-add start (end - start) items)
    ∙ sum_by-append (λ (i : Item). i.weight) (take start items) (take (end - start) (drop start items))
    ∙ ap (λ m. m + weight_of (take (end - start) (drop start items))) (sym eb)
    ∙ ap (λ m. below + m) (part_weight items from count start end es ee)

-- one item more among the weights of the first
pub sums_more : (items : List Item) (sums : List ℕ) (place sum : ℕ) → place + 1 < length sums → sum ≡ weight_of (take (place + 1) items) → ((k : ℕ) → k ≤ place → get_or sums k 0 ≡ weight_of (take k items)) → (k : ℕ) → k ≤ place + 1 → get_or (set sums (place + 1) sum) k 0 ≡ weight_of (take k items)
sums_more items sums place sum room e so_far k le = elim (cases_lt k (place + 1)) [
  | inl lt ↦ (let ne : k ≢ place + 1 = omega arith in get_or-set_other sums (place + 1) k sum 0 ne ∙ so_far k (omega arith))
  | inr ge ↦ (let same : k ≡ place + 1 = omega arith in get_or-set_at sums (place + 1) k sum 0 same room ∙ e ∙ ap (λ m. weight_of (take m items)) (sym same))
]

-- a walk that has come to a node comes to one of its halves
pub walks : (draw : ℕ → ℕ) (k half node hash : ℕ) (items : List Item) (w : Walk) → 0 < k → half ≡ 2 ^ (k - 1) → node ≡ 2 * (w.from + half) → hash ≡ draw node → draw node < 2 ^ 32 → IsAt draw items k w.from w.weight → IsAt draw items (k - 1) (stepped items hash half w).from (stepped items hash half w).weight
unfolding stepped
walks draw k half node hash items w some eh en drawn low at =
    let left = weight_between items w.from half in
    elim (cases_Bool (goes_left hash w.weight left)) [
      | inl goes ↦ (let e = ap (λ h. goes_left h w.weight left) (sym drawn) ∙ goes in rw goes (walks_left draw k w.from half node w.weight left items some eh en refl at e))
      | inr stays ↦ (let e = ap (λ h. goes_left h w.weight left) (sym drawn) ∙ stays in rw stays (walks_right draw k w.from half node w.weight left items some eh en refl at low e))
    ]

-- the halves of a node are within the tree
pub half_room : (draw : ℕ → ℕ) (k from half w : ℕ) (items : List Item) → 0 < k → half ≡ 2 ^ (k - 1) → IsAt draw items k from w → from + half ≤ 64
half_room draw k from half w items some eh at =
    let j = k - 1 in
    let P : ℕ → Type 0 = λ m. IsAt draw items m from w in
    let more : k ≡ suc j = omega arith in
    let two : 2 ^ suc j ≡ 2 ^ j + 2 ^ j = omega (arith, pow-suc 2 j) in
    let room = (subst P more at).room in
    omega (arith, two, eh, room)

-- the item at the place picked
pub picked_at : (b : Bucket) (x r place : ℕ) (items : List Item) → items ≡ b.items → place ≡ place_picked b x r → (item_at items place).id ≡ pick_of b x r
unfolding pick_of
picked_at b x r place items same e = ap (λ (ys : List Item). (item_at ys place).id) same ∙ ap (λ p. (item_at b.items p).id) e
