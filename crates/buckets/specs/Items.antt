-- The items of a bucket (CRUSH paper, SC 2006, section 3.3; Ceph, crush.h).
use Rattle.std.specs.Prelude.{ℕ, ℤ, pos, List, slice_index_or}
use Rattle.std.specs.Int.{w32, cast_unsigned}
use Rattle.std.specs.List.{sum_by}
use Rattle.buckets.specs.declared.bucket.Item.{Item}

-- an id as a word that can be hashed, a negative one as its two's complement
abbrev pub word : ℤ → ℕ
word id = cast_unsigned w32 id

-- the item at a place
abbrev pub item_at : List Item → ℕ → Item
item_at items place = slice_index_or items place (record { id = pos 0; weight = 0 })

-- the weight of some items
abbrev pub weight_of : List Item → ℕ
weight_of items = sum_by (λ i. i.weight) items
