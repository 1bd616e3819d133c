-- The item that draws the longest straw, of a list as it is and of the same list without the items of weight 0.
use Rattle.std.proofs.Common.{◌≡◌, ℕ, zero, suc, ◌-◌, ◌/◌, ◌%◌, ◌^◌, ◌<◌, ◌≤◌, cond, nat_lt, eqb, true, false, not, Bool, List, [], ◌∷◌, length, take, get_or, Option, Some, None, inl, inr, refl, sym, ap, ◌∙◌, pos, arith, take-suc, take_all}
use Rattle.std.specs.List.{fold, filter}
use Rattle.std.proofs.lemmas.Bool.{cases_Bool}
use Rattle.std.proofs.lemmas.Bool.Decides.{nat_tests}
use Rattle.std.proofs.lemmas.List.Sums.{fold-append}
use Rattle.std.proofs.Math.Nat.{div-le_self}
use Rattle.rjenkins.specs.Jenkins.{hash3_of}
use Rattle.buckets.specs.declared.bucket.Item.{Item}
use Rattle.buckets.specs.Items.{word, item_at}
use Rattle.buckets.specs.Logarithm.{crush_ln}
use Rattle.buckets.specs.Straw2.{shortfall, shortfall_at, least_place, straw2_place}

-- an item weighs something
abbrev pub is_heavy : Item → Bool
is_heavy i = not (eqb i.weight 0)

-- how far the straw of an item falls short
abbrev pub short_of : ℕ → ℕ → Item → ℕ
short_of x r i = shortfall i.weight (hash3_of x (word i.id) r)

-- the one of two with the longer straw, the first of them where they are alike
abbrev pub longer : ℕ → ℕ → Item → Item → Item
longer x r best i = cond (nat_lt (short_of x r i) (short_of x r best)) i best

-- the best so far, after one item more
abbrev pub after_item : ℕ → ℕ → Option Item → Item → Option Item
after_item x r None i = Some i
after_item x r (Some best) i = Some (longer x r best i)

-- the first of the items with the longest straw
abbrev pub champion : ℕ → ℕ → Option Item → List Item → Option Item
champion x r best items = fold (after_item x r) best items

-- the item at the place that a straw2 bucket picks
abbrev pub straw_item : ℕ → ℕ → List Item → Item
straw_item x r items = item_at items (straw2_place x r items)

-- a choice between two places leads to the item at the one that is chosen
item_of_choice : (items : List Item) (c : Bool) (p q : ℕ) → item_at items (cond c p q) ≡ cond c (item_at items p) (item_at items q)
item_of_choice items true p q = refl
item_of_choice items false p q = refl

-- whatever the choice is between two places that are the same
either_same : (c : Bool) (n : ℕ) → cond c n n ≡ n
either_same true n = refl
either_same false n = refl

-- the champion of the first items is the one at the least place among them
first_places : (x r : ℕ) (items : List Item) (n : ℕ) → n < length items → champion x r None (take (suc n) items) ≡ Some (item_at items (least_place (shortfall_at x r items) (suc n)))
unfolding least_place
first_places x r items zero within =
    let d : Item = record { id = pos 0; weight = 0 } in
    let f = shortfall_at x r items in
    ap (champion x r None) (take-suc items 0 d within)
    ∙ ap (λ p. Some (item_at items p)) (sym (either_same (nat_lt (f 0) (f 0)) 0))
first_places x r items (suc n) within =
    let d : Item = record { id = pos 0; weight = 0 } in
    let f = shortfall_at x r items in
    let best = least_place f (suc n) in
    let last = get_or items (suc n) d in
    ap (champion x r None) (take-suc items (suc n) d within)
    ∙ fold-append (after_item x r) None (take (suc n) items) (last ∷ [])
    ∙ ap (λ o. after_item x r o last) (first_places x r items n (omega arith))
    ∙ ap Some (sym (item_of_choice items (nat_lt (f (suc n)) (f best)) (suc n) best))

-- the champion of some items is the one at the place that a straw2 bucket picks
pub champion_is : (x r : ℕ) (items : List Item) → 0 < length items → champion x r None items ≡ Some (straw_item x r items)
champion_is x r [] some = absurd (omega arith)
champion_is x r (i ∷ items) some =
    ap (champion x r None) (sym (take_all (suc (length items)) (i ∷ items) (omega arith)))
    ∙ first_places x r (i ∷ items) (length items) (omega arith)

-- an item without weight falls short by 2 ^ 63
light_short : (x r : ℕ) (i : Item) → is_heavy i ≡ false → short_of x r i ≡ 2 ^ 63
unfolding shortfall
light_short x r i light =
    let none : eqb i.weight 0 ≡ true = grind (arith, nat_tests) in
    ap (λ c. cond c (2 ^ 63) ((2 ^ 48 - crush_ln (hash3_of x (word i.id) r % 2 ^ 16)) / i.weight)) none

-- and one with weight by less
heavy_short : (x r : ℕ) (i : Item) → is_heavy i ≡ true → short_of x r i < 2 ^ 63
unfolding shortfall
heavy_short x r i heavy =
    let some : eqb i.weight 0 ≡ false = grind (arith, nat_tests) in
    let n = 2 ^ 48 - crush_ln (hash3_of x (word i.id) r % 2 ^ 16) in
    let low : n / i.weight ≤ n = div-le_self n i.weight in
    rw some (omega (arith, low))

-- an item with weight is better than one without
heavy_wins : (x r : ℕ) (best i : Item) → is_heavy best ≡ false → is_heavy i ≡ true → longer x r best i ≡ i
heavy_wins x r best i light heavy =
    let wins : nat_lt (short_of x r i) (short_of x r best) ≡ true = grind (arith, nat_tests, light_short x r best light, heavy_short x r i heavy) in
    ap (λ c. cond c i best) wins

-- one without is better than none
light_loses : (x r : ℕ) (best i : Item) → is_heavy i ≡ false → longer x r best i ≡ best
light_loses x r best i light = elim (cases_Bool (is_heavy best)) [
  | inl heavy ↦
      let loses : nat_lt (short_of x r i) (short_of x r best) ≡ false = grind (arith, nat_tests, light_short x r i light, heavy_short x r best heavy) in
      ap (λ c. cond c i best) loses
  | inr also ↦
      let loses : nat_lt (short_of x r i) (short_of x r best) ≡ false = grind (arith, nat_tests, light_short x r i light, light_short x r best also) in
      ap (λ c. cond c i best) loses
]

-- the best of all items so far and of those with weight: the same one, or one without weight, or none
AreBest : Option Item → Option Item → Type 0
AreBest None None = Unit {0}
AreBest (Some a) None = is_heavy a ≡ false
AreBest None (Some b) = ⊥
AreBest (Some a) (Some b) = (a ≡ b) × (is_heavy b ≡ true)

-- one of two items with weight has weight
longer_heavy : (x r : ℕ) (best i : Item) → is_heavy best ≡ true → is_heavy i ≡ true → is_heavy (longer x r best i) ≡ true
longer_heavy x r best i heavy also = elim (cases_Bool (nat_lt (short_of x r i) (short_of x r best))) [
  | inl won ↦ rw won also
  | inr lost ↦ rw lost heavy
]

-- they are so after an item with weight
after_heavy : (x r : ℕ) (o p : Option Item) (i : Item) → is_heavy i ≡ true → AreBest o p → AreBest (after_item x r o i) (after_item x r p i)
unfolding AreBest
after_heavy x r None None i heavy h = (refl, heavy)
after_heavy x r None (Some b) i heavy h = absurd h
after_heavy x r (Some a) None i heavy h = (heavy_wins x r a i h heavy, heavy)
after_heavy x r (Some a) (Some b) i heavy h = (ap (λ best. longer x r best i) h.0, longer_heavy x r b i h.1 heavy)

-- and after one without, which is left out of those with weight
after_light : (x r : ℕ) (o p : Option Item) (i : Item) → is_heavy i ≡ false → AreBest o p → AreBest (after_item x r o i) p
unfolding AreBest
after_light x r None None i light h = light
after_light x r None (Some b) i light h = absurd h
after_light x r (Some a) None i light h = let same = light_loses x r a i light in rw same h
after_light x r (Some a) (Some b) i light h = let same = light_loses x r a i light in (same ∙ h.0, h.1)

-- so they are in the end
both_best : (x r : ℕ) (items : List Item) (o p : Option Item) → AreBest o p → AreBest (champion x r o items) (champion x r p (filter is_heavy items))
both_best x r [] o p h = h
both_best x r (i ∷ items) o p h = elim (cases_Bool (is_heavy i)) [
  | inl heavy ↦ rw heavy (both_best x r items (after_item x r o i) (after_item x r p i) (after_heavy x r o p i heavy h))
  | inr light ↦ rw light (both_best x r items (after_item x r o i) p (after_light x r o p i light h))
]

-- the best of those with weight is the best of all
same_best : (o : Option Item) (b : Item) → AreBest o (Some b) → o ≡ Some b
unfolding AreBest
same_best None b h = absurd h
same_best (Some a) b h = ap Some h.0

-- a straw2 bucket picks the same without its items of weight 0, where some item is left
pub heavy_picks : (x r : ℕ) (items : List Item) → 0 < length (filter is_heavy items) → 0 < length items → straw_item x r items ≡ straw_item x r (filter is_heavy items)
unfolding AreBest
heavy_picks x r items some all =
    let kept = filter is_heavy items in
    let best : AreBest (champion x r None items) (champion x r None kept) = both_best x r items None None tt in
    let at_kept = champion_is x r kept some in
    let same : champion x r None items ≡ Some (straw_item x r kept) = same_best (champion x r None items) (straw_item x r kept) (rw at_kept at best) in
    let found : Some (straw_item x r items) ≡ Some (straw_item x r kept) = sym (champion_is x r items all) ∙ same in
    cc

-- where none weighs anything the first stays the best
light_first : (x r : ℕ) (best : Item) (items : List Item) → filter is_heavy items ≡ [] → champion x r (Some best) items ≡ Some best
light_first x r best [] none = refl
light_first x r best (i ∷ items) none = elim (cases_Bool (is_heavy i)) [
  | inl heavy ↦ (let kept : i ∷ filter is_heavy items ≡ [] = rw heavy at none in absurd (cc))
  | inr light ↦
      let rest : filter is_heavy items ≡ [] = rw light at none in
      ap (λ b. champion x r (Some b) items) (light_loses x r best i light) ∙ light_first x r best items rest
]

-- and a straw2 bucket picks it
pub light_picks : (x r : ℕ) (i : Item) (items : List Item) → filter is_heavy items ≡ [] → straw_item x r (i ∷ items) ≡ i
light_picks x r i items none =
    let found : Some (straw_item x r (i ∷ items)) ≡ Some i = sym (champion_is x r (i ∷ items) (omega arith)) ∙ light_first x r i items none in
    cc
