-- What a bucket picks is one of its places: of a list the last that wins its draw, of a tree one that weighs something.
use Rattle.std.proofs.Common.{◌≡◌, ◌≢◌, ℕ, zero, suc, ◌+◌, ◌*◌, ◌/◌, ◌%◌, ◌^◌, ◌<◌, ◌≤◌, Bool, true, false, cond, List, [], ◌∷◌, length, take, inl, inr, sym, ap, refl, ◌∙◌, subst, arith}
use Rattle.std.proofs.lemmas.Bool.{cases_eq, cases_lt, false≢true, lt-ltb, ltb-false}
use Rattle.std.proofs.lemmas.List.{take_all}
use Rattle.std.proofs.lemmas.List.Sums.{sum_by_more}
use Rattle.std.proofs.lemmas.Nat.{mod_below}
use Rattle.std.proofs.Math.Nat.{pow-suc}
use Rattle.rjenkins.specs.Jenkins.{hash4_of}
use Rattle.buckets.specs.declared.bucket.Item.{Item}
use Rattle.buckets.specs.declared.bucket.Bucket.{Bucket}
use Rattle.buckets.specs.declared.bucket.BucketKind.{BucketKind}
use Rattle.buckets.specs.declared.bucket.BucketKind.TheVariants.{Uniform, List as InList, Tree as InTree, Straw2}
use Rattle.buckets.specs.Items.{word, weight_of, item_at}
use Rattle.buckets.specs.Buckets.{IsPickable}
use Rattle.buckets.specs.Kinds.{most_items}
use Rattle.buckets.specs.Listed.{wins, wins_at, last_place}
use Rattle.buckets.specs.Pick.{place_by, place_picked}
use Rattle.buckets.specs.Straw2.{shortfall_at}
use Rattle.buckets.specs.Tree.{weight_between, draw_at, goes_left, height_of, tree_place}
use Rattle.buckets.proofs.HashWords.{hash4-lt}
use Rattle.buckets.proofs.Straws.{least_below}
use Rattle.buckets.proofs.TreeWalks.{height_holds, draw_below, halves, goes_left_some}
use Rattle.buckets.proofs.UniformDraws.{uniform_place_below}

-- the last place that passes, where one does
pub record IsLast (p : ℕ → Bool) (n place : ℕ) : Type 0 where
  pub within : place < n
  pub passes : p place ≡ true
  pub later : (j : ℕ) → place < j → j < n → p j ≡ false

-- one more place
last_by : (p : ℕ → Bool) (n i : ℕ) (here : Bool) → p n ≡ here → i < suc n → p i ≡ true → ((i < n) → IsLast p n (last_place p n)) → IsLast p (suc n) (cond here n (last_place p n))
last_by p n i true e lt hit before = record { within = omega arith; passes = e; later = λ j above below. absurd (omega arith) }
last_by p n i false e lt hit before =
    let ne : i ≢ n = λ same. false≢true (sym e ∙ ap p (sym same) ∙ hit) in
    let is = before (omega arith) in
    record {
      within = omega (arith, is.within);
      passes = is.passes;
      later = λ j above below. elim (cases_eq j n) [
        | inl same ↦ ap p same ∙ e
        | inr other ↦ is.later j above (omega arith)
      ];
    }

-- the last place that passes is found where one passes
last_is : (p : ℕ → Bool) (n i : ℕ) → i < n → p i ≡ true → IsLast p n (last_place p n)
unfolding last_place
last_is p zero i lt hit = absurd (omega arith)
last_is p (suc n) i lt hit = last_by p n i (p n) refl lt hit (λ below. last_is p n i below hit)

-- the first item that weighs something
record IsFirstWeight (items : List Item) (k : ℕ) : Type 0 where
  before : weight_of (take k items) ≡ 0
  here : 0 < (item_at items k).weight

-- the weight up to and with an item
more : (items : List Item) (k : ℕ) → k < length items → weight_of (take (k + 1) items) ≡ weight_of (take k items) + (item_at items k).weight
more items k within = sum_by_more (λ (i : Item). i.weight) items k _ within

-- where a part weighs something one of its items is the first that does
first_weight : (items : List Item) (n : ℕ) → n ≤ length items → 0 < weight_of (take n items) → (k : ℕ) × (k < n) × IsFirstWeight items k
first_weight items zero within some = absurd (omega arith)
first_weight items (suc n) within some =
    let next : suc n ≡ n + 1 = omega arith in
    let sum : weight_of (take (suc n) items) ≡ weight_of (take n items) + (item_at items n).weight = ap (λ m. weight_of (take m items)) next ∙ more items n (omega arith) in
    elim (cases_lt 0 (weight_of (take n items))) [
      | inl has ↦ (let found = first_weight items n (omega arith) has in (found.0, omega (arith, found.1), found.2))
      | inr none ↦ (n, omega arith, record { before = omega arith; here = omega arith })
    ]

-- the first item that weighs something wins any draw
first_wins : (x id r : ℕ) (items : List Item) (k : ℕ) → k < length items → IsFirstWeight items k → wins_at x id r items k ≡ true
unfolding wins
first_wins x id r items k within first =
    let item = item_at items k in
    let hash = hash4_of x (word item.id) r id % 65536 in
    let low : hash < 65536 = mod_below _ 65536 (omega arith) in
    let upto : weight_of (take (k + 1) items) ≡ item.weight = omega (arith, more items k within, first.before) in
    lt-ltb _ _ (subst (λ m. hash * m / 65536 < item.weight) (sym upto) (draw_below 65536 hash item.weight low first.here))

-- so the place that a list bucket picks is the last that wins
pub list_wins : (b : Bucket) (x r : ℕ) → b.kind ≡ InList → IsPickable b → IsLast (wins_at x (word b.id) r b.items) (length b.items) (place_picked b x r)
unfolding place_by
list_wins b x r kind pickable =
    let p = wins_at x (word b.id) r b.items in
    let n = length b.items in
    let all : take n b.items ≡ b.items = take_all n b.items (omega arith) in
    let some : 0 < weight_of (take n b.items) = subst (λ ys. 0 < weight_of ys) (sym all) pickable.weighs in
    let found = first_weight b.items n (omega arith) some in
    let is = last_is p n found.0 found.1 (first_wins x (word b.id) r b.items found.0 found.1 found.2) in
    subst (IsLast p n) (sym (ap (λ k. place_by k b x r) kind)) is

-- the walk down a tree stays where there is some weight
some_by : (draw : ℕ → ℕ) → ((node : ℕ) → draw node < 2 ^ 32) → (items : List Item) (k from : ℕ) (goes : Bool) → goes_left (draw (2 * from + 2 ^ suc k)) (weight_between items from (2 ^ suc k)) (weight_between items from (2 ^ k)) ≡ goes → 0 < weight_between items from (2 ^ suc k) → ((at : ℕ) → 0 < weight_between items at (2 ^ k) → 0 < weight_between items (tree_place draw items k at) 1) → 0 < weight_between items (cond goes (tree_place draw items k from) (tree_place draw items k (from + 2 ^ k))) 1
unfolding goes_left
some_by draw small items k from true e some below = below from (goes_left_some (draw (2 * from + 2 ^ suc k)) (weight_between items from (2 ^ suc k)) (weight_between items from (2 ^ k)) e)
some_by draw small items k from false e some below =
    let node = 2 * from + 2 ^ suc k in
    let weight = weight_between items from (2 ^ suc k) in
    let left = weight_between items from (2 ^ k) in
    let right = weight_between items (from + 2 ^ k) (2 ^ k) in
    let two : 2 ^ suc k ≡ 2 ^ k + 2 ^ k = omega (arith, pow-suc 2 k) in
    let both : weight ≡ left + right = ap (weight_between items from) two ∙ halves items from (2 ^ k) in
    let under = draw_below (2 ^ 32) (draw node) weight (small node) some in
    let over = ltb-false _ _ e in
    below (from + 2 ^ k) (omega (arith, both, under, over))

-- so the walk ends at a place that weighs something
tree_some : (draw : ℕ → ℕ) → ((node : ℕ) → draw node < 2 ^ 32) → (items : List Item) (k from : ℕ) → 0 < weight_between items from (2 ^ k) → 0 < weight_between items (tree_place draw items k from) 1
unfolding tree_place
tree_some draw small items zero from some = some
tree_some draw small items (suc k) from some = some_by draw small items k from _ refl some (λ at has. tree_some draw small items k at has)

-- the weight of one place is that of its item
one_weight : (items : List Item) (place : ℕ) → weight_between items place 1 ≡ (item_at items place).weight
one_weight [] zero = refl
one_weight [] (suc place) = refl
one_weight (i ∷ items) zero = omega arith
one_weight (i ∷ items) (suc place) = one_weight items place

-- so the item that a tree bucket picks weighs something
pub tree_weighs : (b : Bucket) (x r : ℕ) → b.kind ≡ InTree → IsPickable b → 0 < (item_at b.items (place_picked b x r)).weight
unfolding place_by
tree_weighs b x r kind pickable =
    let n = length b.items in
    let few : n ≤ 64 = subst (λ k. n ≤ most_items k) kind pickable.few in
    let all : weight_between b.items 0 (2 ^ height_of n) ≡ weight_of b.items = ap weight_of (take_all (2 ^ height_of n) b.items (height_holds n pickable.some few)) in
    let draw = draw_at x (word b.id) r in
    let place = tree_place draw b.items (height_of n) 0 in
    let has : 0 < weight_between b.items place 1 = tree_some draw (λ node. hash4-lt x node r (word b.id)) b.items (height_of n) 0 (omega (arith, all, pickable.weighs)) in
    let weighs : 0 < (item_at b.items place).weight = omega (arith, has, one_weight b.items place) in
    let P : ℕ → Type 0 = λ m. 0 < (item_at b.items m).weight in
    subst P (sym (ap (λ k. place_by k b x r) kind)) weighs

-- a place that weighs something has an item
weighs_within : (items : List Item) (place : ℕ) → 0 < (item_at items place).weight → place < length items
weighs_within [] zero some = absurd (omega arith)
weighs_within [] (suc place) some = absurd (omega arith)
weighs_within (i ∷ items) zero some = omega arith
weighs_within (i ∷ items) (suc place) some = omega (arith, weighs_within items place some)

-- a pick is one of the places
pub within_by : (k : BucketKind) (b : Bucket) (x r : ℕ) → b.kind ≡ k → IsPickable b → place_by k b x r < length b.items
unfolding place_by
within_by Uniform b x r e p = uniform_place_below x (word b.id) (length b.items) r p.some
within_by InList b x r e p = subst (λ k. place_by k b x r < length b.items) e (list_wins b x r e p).within
within_by InTree b x r e p = subst (λ k. place_by k b x r < length b.items) e (weighs_within b.items _ (tree_weighs b x r e p))
within_by Straw2 b x r e p = least_below (shortfall_at x r b.items) (length b.items) p.some
