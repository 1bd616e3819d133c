-- What a tree bucket picks: a walk down a binary tree whose leaves are the items (CRUSH paper, section 3.4.3; Ceph,
-- mapper.c, bucket_tree_choose).
use Rattle.std.specs.Prelude.{ℕ, zero, suc, ◌+◌, ◌*◌, ◌/◌, ◌^◌, Bool, List, take, drop, nat_lt, nat_le, if◌then◌else◌}
use Rattle.rjenkins.specs.Jenkins.{hash4_of}
use Rattle.buckets.specs.declared.bucket.Item.{Item}
use Rattle.buckets.specs.Items.{weight_of}

-- the weight of the places from `from` on, `len` of them; a place past the end weighs nothing
abbrev pub weight_between : List Item → ℕ → ℕ → ℕ
weight_between items from len = weight_of (take len (drop from items))

-- what is drawn at a node
abbrev pub draw_at : ℕ → ℕ → ℕ → ℕ → ℕ
draw_at x id r node = hash4_of x node r id

-- whether a draw against the weight of a node falls below the weight of its left half
unfoldable pub goes_left : ℕ → ℕ → ℕ → Bool
goes_left draw weight left = nat_lt (draw * weight / 2 ^ 32) left

-- the place to which the walk comes among the 2 ^ k places from `from` on, which are node 2 * from + 2 ^ k
unfoldable pub tree_place : (ℕ → ℕ) → List Item → ℕ → ℕ → ℕ
tree_place draw items zero from = from
tree_place draw items (suc k) from =
    let weight = weight_between items from (2 ^ suc k) in
    let left = weight_between items from (2 ^ k) in
    if goes_left (draw (2 * from + 2 ^ suc k)) weight left
    then tree_place draw items k from
    else tree_place draw items k (from + 2 ^ k)

-- the least k such that 2 ^ k places hold n items, for n up to 64
abbrev pub height_of : ℕ → ℕ
height_of n =
    if nat_le n 1 then 0 else if nat_le n 2 then 1 else if nat_le n 4 then 2 else if nat_le n 8 then 3
    else if nat_le n 16 then 4 else if nat_le n 32 then 5 else 6
