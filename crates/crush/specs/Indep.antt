-- Choosing items that keep their positions (CRUSH paper, section 3.2.2; Ceph, mapper.c, crush_choose_indep).
use Rattle.std.specs.Prelude.{ℕ, ◌+◌, ◌*◌, ℤ, Bool, true, false, not, ◌&&◌, List, length, map, replicate, slice_index_or, slice_set, ◌==◌, Option, Some, None, if◌then◌else◌}
use Rattle.std.specs.List.{range_with_len, list_any, fold}
use Rattle.std.specs.Ordering.{int_eq}
use Rattle.buckets.specs.declared.bucket.Bucket.{Bucket}
use Rattle.buckets.specs.Kinds.{stride_by}
use Rattle.crush.specs.declared.choose.Picked.{Picked}
use Rattle.crush.specs.declared.choose.Position.{Position}
use Rattle.crush.specs.declared.choose.Position.TheVariants.{Open, Hole, Filled}
use Rattle.crush.specs.Choosing.{Choosing}
use Rattle.crush.specs.World.{World, is_out}
use Rattle.crush.specs.Descent.{item_below, leaf_below}

-- the replica number of a round at a bucket, on top of `base`
unfoldable pub replica_number : ℕ → ℕ → ℕ → Bucket → ℕ
replica_number numrep base round b = base + stride_by b.kind numrep (length b.items) * round

-- the replica numbers of the rounds 0 up to n at a bucket, on top of `base`
abbrev pub replica_numbers : ℕ → ℕ → ℕ → List (Bucket → ℕ)
replica_numbers numrep base n = map (replica_number numrep base) (range_with_len 0 n)

-- whether an item stands at a position
abbrev pub holds_item : ℤ → Position → Bool
holds_item item Open = false
holds_item item Hole = false
holds_item item (Filled e) = int_eq e.item item

-- whether a position is still to be filled
abbrev pub is_open : Position → Bool
is_open Open = true
is_open Hole = false
is_open (Filled e) = false

-- whether a device is in
abbrev pub is_in : World → ℤ → Bool
is_in w device = not (is_out w device)

-- a bucket fills its position with a leaf, and leaves it open without one
abbrev pub filled_with : ℤ → Option ℤ → Position
filled_with item None = Open
filled_with item (Some leaf) = Filled (record { item = item; leaf = leaf })

-- what an item makes of position `rep`: it stays open where the item stands at some position, a device is out, or the
-- bucket has no leaf that is in. Leaves are sought for the same position, on top of the replica number with which the
-- bucket was picked
unfoldable pub position_with : Choosing → List Position → ℕ → Picked → Position
position_with k positions rep p =
    if list_any (holds_item p.item) positions then Open
    else if k.choose.to_leaf
    then filled_with p.item
    (leaf_below k.world (is_in k.world) (replica_numbers k.numrep (rep + p.r) k.tries.leaf) p.item)
    else if k.choose.level == 0 && is_out k.world p.item then Open
    else Filled (record { item = p.item; leaf = p.item })

-- a device where another type is wanted leaves a hole
abbrev pub position_at : Choosing → List Position → ℕ → Option Picked → Position
position_at k positions rep None = Hole
position_at k positions rep (Some p) = position_with k positions rep p

-- what position `rep` becomes in a round
unfoldable pub position_of : Choosing → Bucket → ℕ → List Position → ℕ → Position
position_of k start round positions rep =
    position_at k positions rep (item_below k.world (replica_number k.numrep rep round) k.choose.level start)

-- one position of a round: an open position is tried, another is left alone
abbrev pub after_position : Choosing → Bucket → ℕ → List Position → ℕ → List Position
after_position k start round positions rep =
    if is_open (slice_index_or positions rep Hole)
    then slice_set positions rep (position_of k start round positions rep)
    else positions

-- a round takes the positions in order
unfoldable pub after_round : Choosing → Bucket → List Position → ℕ → List Position
after_round k start positions round =
    fold (after_position k start round) positions (range_with_len 0 (length positions))

-- the positions after all rounds, `count` of them
unfoldable pub indep : Choosing → Bucket → ℕ → List Position
indep k start count =
    fold (after_round k start) (replicate count Open) (range_with_len 0 k.tries.total)

-- the device at a position
abbrev pub leaf_at : Position → Option ℤ
leaf_at Open = None
leaf_at Hole = None
leaf_at (Filled e) = Some e.leaf
