-- Marking the items that were met.
use Rattle.std.proofs.Common.{◌≡◌, ◌≢◌, ℕ, zero, suc, ◌+◌, ◌<◌, ◌≤◌, Bool, true, false, cond, ◌&&◌, nat_lt, eqb, eq-eqb, replicate, Contains, List, length, get_or, set, take, find, position, w32, ℤ, pos, negsuc, refl, sym, ap, ◌∙◌, inl, inr, arith, get_or-set_same, get_or-set_other}
use Rattle.std.specs.List.{count_by, list_all, position_or_len}
use Rattle.std.specs.Option.{is_some}
use Rattle.std.specs.Int.{FitsUnsignedBits}
use Rattle.std.specs.Ordering.{int_eq}
use Rattle.std.proofs.lemmas.Bool.{and_parts, cases_Bool, cases_lt, ltb-true, both_ways}
use Rattle.std.proofs.lemmas.Bool.Decides.{nat_tests, Decides-int_eq}
use Rattle.std.proofs.lemmas.List.{get_or_default}
use Rattle.std.proofs.lemmas.List.Folds.{find_at, list_all_at}
use Rattle.std.proofs.lemmas.List.Sums.{sum_by_more, sum_by_more_le, get_or-le-sum_by, passes_at_first}
use Rattle.std.proofs.lemmas.Option.{slice_get_past}
use mir.Val.{SFits}
use Rattle.buckets.specs.declared.bucket.Bucket.{Bucket}
use Rattle.buckets.specs.declared.bucket.Item.{Item}
use Rattle.crush.specs.Forest.{bucket_at, level_of}
use Rattle.crush.specs.Slots.{slot, marks}
use Rattle.crush.specs.WellFormed.{is_known, times_in, has_items_below, has_items_once}
use Rattle.keylist.proofs.Counts.{count_by-some}
use Rattle.crush.proofs.IdSearches.{no_bucket, int_eq-yes}
use Rattle.keylist.proofs.Each.{list_all-at, list_all-from}

-- an element that was found has a place
pub found_within : {X : Type 0} (p : X → Bool) (xs : List X) → is_some (find p xs) ≡ true → position_or_len p xs < length xs
found_within p xs found = elim (cases_lt (position_or_len p xs) (length xs)) [
  | inl lt ↦ lt
  | inr past ↦ absurd (let none = find_at p xs ∙ slice_get_past xs (position_or_len p xs) past in cc)
]

-- the position of what is found
pub is_some-position : {X : Type 0} (p : X → Bool) (xs : List X) → is_some (find p xs) ≡ true → is_some (position p xs) ≡ true
is_some-position p xs found = let within = found_within p xs found in grind (arith, nat_tests)

-- an item to read past the end of a list
pub no_item : Item
no_item = record { id = pos 0; weight = 0 }

-- what an item adds to the count of an id
abbrev counts : ℤ → Item → ℕ
counts id i = cond (int_eq i.id id) 1 0

module _ (buckets : List Bucket) where
  -- the bucket at the place of a known id has that id
  id_at_place : (n : ℕ) → is_known buckets 4096 (negsuc n) ≡ true → (get_or buckets (position_or_len (λ b. int_eq b.id (negsuc n)) buckets) no_bucket).id ≡ negsuc n
  id_at_place n known =
      let p = λ (b : Bucket). int_eq b.id (negsuc n) in
      (Decides-int_eq _ (negsuc n)).0 (passes_at_first p buckets no_bucket (found_within p buckets known))

  -- known items have slots of their own
  pub slot-injective : (a b : ℤ) → is_known buckets 4096 a ≡ true → is_known buckets 4096 b ≡ true → slot buckets a ≡ slot buckets b → a ≡ b
  slot-injective (pos m) (pos n) known_a known_b same = ap pos same
  slot-injective (pos m) (negsuc n) known_a known_b same = absurd (omega (arith, ltb-true m 4096 known_a, same))
  slot-injective (negsuc m) (pos n) known_a known_b same = absurd (omega (arith, ltb-true n 4096 known_b, same))
  slot-injective (negsuc m) (negsuc n) known_a known_b same =
      let place_a = position_or_len (λ b. int_eq b.id (negsuc m)) buckets in
      let place_b = position_or_len (λ b. int_eq b.id (negsuc n)) buckets in
      let e : place_a ≡ place_b = omega (arith, same) in
      sym (id_at_place m known_a) ∙ (ap (λ k. (get_or buckets k no_bucket).id) e ∙ id_at_place n known_b)

  -- an item that is marked already stands twice
  pub marked_twice : (items : List Item) (k : ℕ) (seen : List Bool) (before : ℕ) (d : Item) (id : ℤ) → k < length items → (get_or items k d).id ≡ id → get_or seen (slot buckets id) false ≡ true → marks buckets seen id ≡ before + count_by (λ i. int_eq i.id id) (take k items) → 2 ≤ before + count_by (λ i. int_eq i.id id) items
  marked_twice items k seen before d id in_range here marked so_far =
      let one : marks buckets seen id ≡ 1 = rw marked in
      let more = sum_by_more_le (counts id) items k d in_range in
      let passes = int_eq-yes (get_or items k d).id id here in
      let counted : counts id (get_or items k d) ≡ 1 = rw passes in
      omega (arith, one, more, counted, so_far)

  -- one more item marked
  pub marked_more : (items : List Item) (k : ℕ) (seen : List Bool) (before : ℤ → ℕ) (d : Item) (item : ℤ) → length seen ≡ 8192 → slot buckets item < 8192 → k < length items → (get_or items k d).id ≡ item → is_known buckets 4096 item ≡ true → get_or seen (slot buckets item) false ≡ false → ((id : ℤ) → is_known buckets 4096 id ≡ true → marks buckets seen id ≡ before id + count_by (λ i. int_eq i.id id) (take k items)) → (id : ℤ) → is_known buckets 4096 id ≡ true → marks buckets (set seen (slot buckets item) true) id ≡ before id + count_by (λ i. int_eq i.id id) (take (k + 1) items)
  marked_more items k seen before d item room within in_range here known fresh so_far id known_id =
      let one_more = sum_by_more (counts id) items k d in_range in
      let at : slot buckets item < length seen = omega arith in
      elim (cases_Bool (int_eq (get_or items k d).id id)) [
        | inl equal ↦
            let same : item ≡ id = sym here ∙ (Decides-int_eq _ id).0 equal in
            let now : marks buckets (set seen (slot buckets item) true) id ≡ 1 = rw (← same, get_or-set_same) in
            let was : marks buckets seen id ≡ 0 = rw (← same, fresh) in
            let count : counts id (get_or items k d) ≡ 1 = rw equal in
            omega (arith, now, was, count, one_more, so_far id known_id)
        | inr differs ↦
            let apart : slot buckets id ≢ slot buckets item = λ e. absurd (both_ways _ differs (int_eq-yes (get_or items k d).id id (here ∙ sym (slot-injective id item known_id known e)))) in
            let now : marks buckets (set seen (slot buckets item) true) id ≡ marks buckets seen id = rw get_or-set_other in
            let count : counts id (get_or items k d) ≡ 0 = rw differs in
            omega (arith, now, count, one_more, so_far id known_id)
      ]

-- a known item that is no device is found
pub known-found : (buckets : List Bucket) (item : ℤ) → (FitsUnsignedBits 32 item → ⊥) → SFits w32 item → is_known buckets 4096 item ≡ true → is_some (bucket_at buckets item) ≡ true
known-found buckets (pos n) big fits known = absurd (big (omega (arith, ltb-true n 4096 known)))
known-found buckets (negsuc n) big fits known = known

-- with nothing marked
pub marks-none : (buckets : List Bucket) (n : ℕ) (id : ℤ) → marks buckets (replicate n false) id ≡ 0
marks-none buckets n id = rw (unmarked n (slot buckets id))
  where
    unmarked : (n k : ℕ) → get_or (replicate n false) k false ≡ false
    unmarked zero k = refl
    unmarked (suc n) zero = refl
    unmarked (suc n) (suc k) = unmarked n k

-- the items of a bucket of falling types are known
pub items_known : (buckets : List Bucket) (max_osd k : ℕ) (bucket : Bucket) → k < length buckets → bucket ≡ get_or buckets k bucket → has_items_below buckets max_osd ≡ true → list_all (λ i. is_known buckets max_osd i.id) bucket.items ≡ true
items_known buckets max_osd k bucket in_range here below =
    let passes = list_all-at (λ b. list_all (λ i. is_known buckets max_osd i.id && nat_lt (level_of buckets i.id) b.level) b.items) buckets k bucket in_range below in
    list_all-from _ bucket.items no_item (λ j j_in. (and_parts _ _ (list_all-at (λ i. is_known buckets max_osd i.id && nat_lt (level_of buckets i.id) bucket.level) bucket.items j no_item j_in (rw (← here) at passes))).0)

-- an item that was met twice
pub once-twice : (buckets : List Bucket) (k : ℕ) (bucket : Bucket) (i : Item) → k < length buckets → bucket ≡ get_or buckets k bucket → Contains bucket.items i → 2 ≤ times_in (take k buckets) i.id + count_by (λ j. int_eq j.id i.id) bucket.items → has_items_once buckets ≡ false
once-twice buckets k bucket i in_range here held twice =
    let more = sum_by_more_le (λ b. count_by (λ j. int_eq j.id i.id) b.items) buckets k bucket in_range in
    let two : 2 ≤ times_in buckets i.id = omega (arith, more, twice, ap (λ b. count_by (λ j. int_eq j.id i.id) b.items) here) in
    let item : eqb (times_in buckets (get_or bucket.items held.0 i).id) 1 ≡ false = rw held.2 (grind (arith, nat_tests)) in
    let inner = list_all_at (λ j. eqb (times_in buckets j.id) 1) bucket.items held.0 i held.1 item in
    list_all_at (λ b. list_all (λ j. eqb (times_in buckets j.id) 1) b.items) buckets k bucket in_range (rw (← here) inner)

-- where the marks count what was met, each item was met once
pub once-marked : (buckets : List Bucket) (seen : List Bool) → has_items_below buckets 4096 ≡ true → ((id : ℤ) → is_known buckets 4096 id ≡ true → marks buckets seen id ≡ times_in buckets id) → has_items_once buckets ≡ true
once-marked buckets seen below counted =
    list_all-from _ buckets no_bucket (λ k k_in.
    let bucket = get_or buckets k no_bucket in
    list_all-from _ bucket.items no_item (λ j j_in.
    let i = get_or bucket.items j no_item in
    let known = list_all-at (λ (h : Item). is_known buckets 4096 h.id) bucket.items j no_item j_in (items_known buckets 4096 k bucket k_in (get_or_default buckets k no_bucket bucket k_in) below) in
    let here = count_by-some (λ (h : Item). int_eq h.id i.id) bucket.items j no_item j_in (int_eq-yes i.id i.id refl) in
    let within = get_or-le-sum_by (λ b. count_by (λ h. int_eq h.id i.id) b.items) buckets k no_bucket k_in in
    let few : marks buckets seen i.id ≤ 1 = at_most_one (get_or seen (slot buckets i.id) false) in
    eq-eqb _ _ (omega (arith, here, within, few, counted i.id known))))
  where
    at_most_one : (b : Bool) → cond b 1 0 ≤ 1
    at_most_one true = omega arith
    at_most_one false = omega arith
