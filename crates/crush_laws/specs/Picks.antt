-- What the picks of each kind of bucket are (CRUSH paper, section 3.4).
use Rattle.std.specs.Prelude.{◌<◌, ◌≤◌, ◌≡◌, ℕ, zero, suc, ◌+◌, ◌-◌, ◌*◌, ◌/◌, ◌^◌, if◌then◌else◌, map, [], ◌∷◌, true, false, List, length, slice_index}
use Rattle.std.specs.List.{range_with_len}
use Rattle.std.specs.List.Sorted.{IsPermutation}
use Rattle.buckets.specs.declared.bucket.Item.{Item}
use Rattle.buckets.specs.declared.bucket.Bucket.{Bucket}
use Rattle.buckets.specs.declared.bucket.BucketKind.TheVariants.{Uniform, List as InList, Tree as InTree, Straw2}
use Rattle.buckets.specs.Items.{word, item_at}
use Rattle.buckets.specs.Buckets.{IsPickable}
use Rattle.buckets.specs.Uniform.{draw_order}
use Rattle.buckets.specs.Listed.{wins_at}
use Rattle.buckets.specs.Logarithm.{crush_ln}
use Rattle.buckets.specs.Straw2.{shortfall_at}
use Rattle.buckets.specs.Pick.{place_picked, pick_of}
use Rattle.buckets.specs.Tree.{weight_between, goes_left, height_of, tree_place}

-- the greatest place that wins its draw
pub record IsGreatestWinner (x id r : ℕ) (items : List Item) (place : ℕ) : Type 0 where
  pub within : place < length items
  pub wins : wins_at x id r items place ≡ true
  pub none_later : (later : ℕ) → place < later → later < length items → wins_at x id r items later ≡ false

-- a uniform bucket draws each of its places once
abbrev pub DrawsEachPlaceOnce : Type 0
DrawsEachPlaceOnce = (x id n : ℕ) → IsPermutation (draw_order x id n) (range_with_len 0 n)

-- at the replica numbers from 0 up to its number of items a uniform bucket picks each of its items once
abbrev pub UniformPicksEachOnce : Type 0
UniformPicksEachOnce = (b : Bucket) (x : ℕ) → b.kind ≡ Uniform →
    IsPermutation (map (λ r. pick_of b x r) (range_with_len 0 (length b.items))) (map (λ i. i.id) b.items)

-- a list bucket picks the greatest place that wins its draw
abbrev pub ListPicksGreatestWinner : Type 0
ListPicksGreatestWinner = (b : Bucket) (x r : ℕ) → b.kind ≡ InList → IsPickable b →
    IsGreatestWinner x (word b.id) r b.items (place_picked b x r)

-- a tree bucket picks an item that weighs something
abbrev pub TreePicksWeight : Type 0
TreePicksWeight = (b : Bucket) (x r : ℕ) → b.kind ≡ InTree → IsPickable b →
    0 < (item_at b.items (place_picked b x r)).weight

-- the first of the places with the longest straw
pub record IsFirstLongest (x r : ℕ) (items : List Item) (place : ℕ) : Type 0 where
  pub within : place < length items
  pub longest : (other : ℕ) → other < length items → shortfall_at x r items place ≤ shortfall_at x r items other
  pub first : (earlier : ℕ) → earlier < place → shortfall_at x r items place < shortfall_at x r items earlier

-- a straw2 bucket picks the first place with the longest straw
abbrev pub Straw2PicksFirstLongest : Type 0
Straw2PicksFirstLongest = (b : Bucket) (x r : ℕ) → b.kind ≡ Straw2 → IsPickable b →
    IsFirstLongest x r b.items (place_picked b x r)

-- no logarithm is above that of 1, so each straw falls short by the whole difference
abbrev pub LogarithmsAreLow : Type 0
LogarithmsAreLow = (u : ℕ) → u < 2 ^ 16 → crush_ln u ≤ 2 ^ 48

-- the weight of the places under a node of height k
abbrev pub weight_under : List Item → ℕ → ℕ → ℕ
weight_under items k node = weight_between items ((node - 2 ^ k) / 2) (2 ^ k)

-- the walk by the numbers of nodes, as Ceph has it: the children of a node of height k + 1 stand 2 ^ k before and after
-- it, and a leaf is the node that is twice its place and one more
unfoldable pub node_place : (ℕ → ℕ) → List Item → ℕ → ℕ → ℕ
node_place draw items zero node = node / 2
node_place draw items (suc k) node =
    if goes_left (draw node) (weight_under items (suc k) node) (weight_under items k (node - 2 ^ k))
    then node_place draw items k (node - 2 ^ k)
    else node_place draw items k (node + 2 ^ k)

-- the walk down a tree begins at the node of half its nodes, and goes by their numbers
abbrev pub TreesAreWalkedByNodes : Type 0
TreesAreWalkedByNodes = (draw : ℕ → ℕ) (items : List Item) →
    let height = height_of (length items) in
    tree_place draw items height 0 ≡ node_place draw items height (2 ^ height)

-- a tree of n items has this depth, this many nodes, this root and these leaves; a walk that ends at a leaf ends at its
-- place
pub record HasShape (n depth nodes root : ℕ) (leaves : List ℕ) : Type 0 where
  pub of_depth : height_of n + 1 ≡ depth
  pub of_nodes : 2 ^ depth ≡ nodes
  pub of_root : 2 ^ height_of n ≡ root
  pub of_leaves : map (λ place. 2 * place + 1) (range_with_len 0 n) ≡ leaves
  pub of_places : map (λ node. node / 2) leaves ≡ range_with_len 0 n

-- the shapes of trees of 1 to 5 items and of 64
pub record TreesHaveShapes : Type 0 where
  pub one : HasShape 1 1 2 1 (1 ∷ [])
  pub two : HasShape 2 2 4 2 (1 ∷ 3 ∷ [])
  pub three : HasShape 3 3 8 4 (1 ∷ 3 ∷ 5 ∷ [])
  pub four : HasShape 4 3 8 4 (1 ∷ 3 ∷ 5 ∷ 7 ∷ [])
  pub five : HasShape 5 4 16 8 (1 ∷ 3 ∷ 5 ∷ 7 ∷ 9 ∷ [])
  pub most : (leaves : List ℕ) × HasShape 64 7 128 64 leaves × (slice_index leaves 63 ≡ 127)
