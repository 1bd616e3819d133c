-- The steps of the walk down a tree bucket.
use Rattle.std.specs.Prelude.{ℕ, ◌+◌, ◌-◌, List, slice_index_or, if◌then◌else◌}
use Rattle.buckets.specs.declared.bucket.Item.{Item}
use Rattle.buckets.specs.declared.pick.tree.Walk.{Walk}
use Rattle.buckets.specs.Tree.{weight_between, goes_left}

-- a walk one level on: in the half, of so many places, into which the draw falls
unfoldable pub stepped : List Item → ℕ → ℕ → Walk → Walk
stepped items draw half w =
    let left = weight_between items w.from half in
    if goes_left draw w.weight left then record { from = w.from; weight = left }
    else record { from = w.from + half; weight = w.weight - left }

-- the walk for a replica number
abbrev pub walk_at : List Walk → ℕ → Walk
walk_at walks r = slice_index_or walks r (record { from = 0; weight = 0 })
