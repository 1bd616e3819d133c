-- What a list bucket picks: the last of its items that wins a draw against all before it (CRUSH paper, section 3.4.2;
-- Ceph, mapper.c, bucket_list_choose).
use Rattle.std.specs.Prelude.{ℕ, zero, suc, ◌+◌, ◌*◌, ◌/◌, ◌%◌, Bool, List, length, take, nat_lt, if◌then◌else◌}
use Rattle.rjenkins.specs.Jenkins.{hash4_of}
use Rattle.buckets.specs.declared.bucket.Item.{Item}
use Rattle.buckets.specs.Items.{word, weight_of, item_at}

-- whether an item wins its draw against `upto`, the weight up to and with it
unfoldable pub wins : ℕ → ℕ → ℕ → ℕ → Item → Bool
wins x id r upto item = nat_lt (hash4_of x (word item.id) r id % 65536 * upto / 65536) item.weight

-- whether the item at a place wins its draw
abbrev pub wins_at : ℕ → ℕ → ℕ → List Item → ℕ → Bool
wins_at x id r items place = wins x id r (weight_of (take (place + 1) items)) (item_at items place)

-- the last place below n that passes, and place 0 where none does
unfoldable pub last_place : (ℕ → Bool) → ℕ → ℕ
last_place passes zero = 0
last_place passes (suc n) = if passes n then n else last_place passes n

-- the place that a list bucket picks
abbrev pub list_place : ℕ → ℕ → ℕ → List Item → ℕ
list_place x id r items = last_place (wins_at x id r items) (length items)
