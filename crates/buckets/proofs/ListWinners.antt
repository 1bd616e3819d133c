-- one item of a list bucket's walk from the end
use Rattle.std.proofs.Common.{◌≡◌, ℕ, zero, pos, suc, ◌+◌, ◌*◌, ◌/◌, ◌%◌, nat_lt, ◌≤◌, cond, Bool, true, false, List, length, take, inl, inr, refl, sym, ap, ◌∙◌, arith}
use Rattle.std.proofs.lemmas.Bool.{cases_Bool}
use Rattle.std.proofs.lemmas.List.Sums.{sum_by_more}
use Rattle.buckets.specs.declared.bucket.Item.{Item}
use Rattle.rjenkins.specs.Jenkins.{hash4_of}
use Rattle.buckets.specs.Items.{word, weight_of, item_at}
use Rattle.buckets.specs.Listed.{wins, wins_at, last_place}

-- a draw by an item's hash
by_hash : (x id r hash upto : ℕ) (item : Item) (won : Bool) → hash ≡ hash4_of x (word item.id) r id → won ≡ nat_lt (hash % 65536 * upto / 65536) item.weight → won ≡ wins x id r upto item
unfolding wins
by_hash x id r hash upto item won hashed drawn = drawn ∙ ap (λ h. nat_lt (h % 65536 * upto / 65536) item.weight) hashed

-- what a draw by the hash of the item at place m says of that place
by_hash_at : (x id r hash upto m n : ℕ) (items : List Item) (won : Bool) → n ≡ m + 1 → upto ≡ weight_of (take n items) → hash ≡ hash4_of x (word (item_at items m).id) r id → won ≡ nat_lt (hash % 65536 * upto / 65536) (item_at items m).weight → won ≡ wins_at x id r items m
by_hash_at x id r hash upto m n items won next weighed hashed drawn =
    by_hash x id r hash upto (item_at items m) won hashed drawn
    ∙ ap (λ w. wins x id r w (item_at items m)) (weighed ∙ ap (λ k. weight_of (take k items)) next)

-- the last place below n is the one before n or comes before it
at_next : (passes : ℕ → Bool) (m n : ℕ) → n ≡ m + 1 → last_place passes n ≡ cond (passes m) m (last_place passes m)
unfolding last_place
at_next passes m n next = let e : n ≡ suc m = omega arith in ap (last_place passes) e

-- the walk stops at a winner
pub place_won : (x id r hash upto m n : ℕ) (items : List Item) (won : Bool) → n ≡ m + 1 → upto ≡ weight_of (take n items) → hash ≡ hash4_of x (word (item_at items m).id) r id → won ≡ nat_lt (hash % 65536 * upto / 65536) (item_at items m).weight → won ≡ true → last_place (wins_at x id r items) n ≡ m
place_won x id r hash upto m n items won next weighed hashed drawn holds =
    let p = wins_at x id r items in
    at_next p m n next ∙ ap (λ b. cond b m (last_place p m)) (sym (by_hash_at x id r hash upto m n items won next weighed hashed drawn) ∙ holds)

-- and goes on to the place before where the item does not win
pub place_lost : (x id r hash upto m n : ℕ) (items : List Item) (won : Bool) → n ≡ m + 1 → upto ≡ weight_of (take n items) → hash ≡ hash4_of x (word (item_at items m).id) r id → won ≡ nat_lt (hash % 65536 * upto / 65536) (item_at items m).weight → won ≡ false → last_place (wins_at x id r items) n ≡ last_place (wins_at x id r items) m
place_lost x id r hash upto m n items won next weighed hashed drawn fails =
    let p = wins_at x id r items in
    at_next p m n next ∙ ap (λ b. cond b m (last_place p m)) (sym (by_hash_at x id r hash upto m n items won next weighed hashed drawn) ∙ fails)

-- the first place is picked whether it wins or not
pub place_first : (x id r n : ℕ) (items : List Item) → n ≤ 1 → last_place (wins_at x id r items) n ≡ 0
unfolding last_place
place_first x id r zero items low = refl
place_first x id r (suc zero) items low = elim (cases_Bool (wins_at x id r items 0)) [
  | inl won ↦ ap (λ b. cond b 0 0) won
  | inr lost ↦ ap (λ b. cond b 0 0) lost
]
place_first x id r (suc (suc n)) items low = absurd (omega arith)

-- the weight up to and with place m
pub weight_more : (m n : ℕ) (items : List Item) → n ≡ m + 1 → n ≤ length items → weight_of (take n items) ≡ weight_of (take m items) + (item_at items m).weight
weight_more m n items next within =
    let none : Item = record { id = pos 0; weight = 0 } in
    ap (λ k. weight_of (take k items)) next ∙ sum_by_more (λ (i : Item). i.weight) items m none (omega arith)
