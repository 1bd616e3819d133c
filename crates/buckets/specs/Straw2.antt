-- What a straw2 bucket picks: the item that draws the longest straw (Ceph, mapper.c, bucket_straw2_choose). Its straws
-- are logarithms of fractions, so none is longer than 0, and each is known by how far it falls short of that.
use Rattle.std.specs.Prelude.{ℕ, zero, suc, ◌-◌, ◌/◌, ◌%◌, ◌^◌, List, length, nat_lt, ◌==◌, if◌then◌else◌}
use Rattle.rjenkins.specs.Jenkins.{hash3_of}
use Rattle.buckets.specs.declared.bucket.Item.{Item}
use Rattle.buckets.specs.Items.{word, item_at}
use Rattle.buckets.specs.Logarithm.{crush_ln}

-- how far a straw of this weight falls short, by the hash of its item; one without weight falls short of every other
unfoldable pub shortfall : ℕ → ℕ → ℕ
shortfall weight hash = if weight == 0 then 2 ^ 63 else (2 ^ 48 - crush_ln (hash % 2 ^ 16)) / weight

-- how far the straw of the item at a place falls short
abbrev pub shortfall_at : ℕ → ℕ → List Item → ℕ → ℕ
shortfall_at x r items place =
    let item = item_at items place in
    shortfall item.weight (hash3_of x (word item.id) r)

-- the first place below n with the least number, and place 0 for none
unfoldable pub least_place : (ℕ → ℕ) → ℕ → ℕ
least_place number zero = 0
least_place number (suc n) =
    let best = least_place number n in
    if nat_lt (number n) (number best) then n else best

-- the place that a straw2 bucket picks
abbrev pub straw2_place : ℕ → ℕ → List Item → ℕ
straw2_place x r items = least_place (shortfall_at x r items) (length items)
