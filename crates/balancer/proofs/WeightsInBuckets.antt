-- The weights of OSDs in their buckets, entered one after another, the last first.
use Rattle.std.proofs.Common.{◌≡◌, ◌∙◌, refl, sym, ap, ℕ, ◌+◌, ◌*◌, ◌<◌, Bool, true, false, cond, List, ◌∷◌, Option, None, Some, length, get_or, drop, find, pos, inl, inr, arith}
use Rattle.std.specs.Prelude.{slice_index}
use Rattle.std.specs.List.{flat_map}
use Rattle.std.specs.Option.{option_map_or, option_or}
use Rattle.std.specs.Ordering.{int_eq}
use Rattle.std.proofs.lemmas.Bool.{cases_lt}
use Rattle.std.proofs.lemmas.List.{drop_more, get_or_past}
use Rattle.buckets.specs.declared.bucket.Bucket.{Bucket}
use Rattle.buckets.specs.declared.bucket.Item.{Item}
use Rattle.osdmap.specs.Maps.{ClusterMap, HoldsTogether}
use Rattle.balancer.specs.Shares.{AreItemWeights, item_weight, weight_in_map}
use Rattle.balancer.proofs.WeightsOfCandidates.{find_joined}

-- whether an item is an OSD
abbrev is : ℕ → Item → Bool
is osd i = int_eq i.id (pos osd)

-- the weight that some items give an OSD, else another
abbrev given : ℕ → List Item → ℕ → ℕ
given osd items other = option_map_or (λ (i : Item). i.weight) (find (is osd) items) other

-- one more item, before those that are entered
pub entered : (items : List Item) (k osd other now : ℕ) (i : Item) → k < length items → i ≡ get_or items k i
    → now ≡ cond (is osd i) i.weight (given osd (drop (k + 1) items) other) → now ≡ given osd (drop k items) other
entered items k osd other now i inside here entered_so =
    let opened : drop k items ≡ i ∷ drop (k + 1) items = drop_more items k i inside ∙ ap (λ j. j ∷ drop (k + 1) items) (sym here) in
    entered_so ∙ sym (ap (λ js. given osd js other) opened ∙ first (is osd i) refl)
  where
    first : (b : Bool) → is osd i ≡ b → given osd (i ∷ drop (k + 1) items) other ≡ cond (is osd i) i.weight (given osd (drop (k + 1) items) other)
    first true has = rw has refl
    first false lacks = rw lacks refl

-- one more bucket, before those that are entered
pub entered_bucket : (buckets : List Bucket) (k osd now before : ℕ) (b : Bucket) → k < length buckets → b ≡ get_or buckets k b
    → now ≡ given osd b.items before → before ≡ given osd (flat_map (λ (c : Bucket). c.items) (drop (k + 1) buckets)) 0
    → now ≡ given osd (flat_map (λ (c : Bucket). c.items) (drop k buckets)) 0
entered_bucket buckets k osd now before b inside here entered_so so_far =
    let rest = find (is osd) (flat_map (λ (c : Bucket). c.items) (drop (k + 1) buckets)) in
    let split = find_joined (is osd) (λ (c : Bucket). c.items) buckets k b inside here in
    entered_so ∙ ap (given osd b.items) so_far ∙ first (find (is osd) b.items) rest ∙ sym (ap (λ o. option_map_or (λ (i : Item). i.weight) o 0) split)
  where
    first : (o p : Option Item) → option_map_or (λ (i : Item). i.weight) o (option_map_or (λ (i : Item). i.weight) p 0) ≡ option_map_or (λ (i : Item). i.weight) (option_or o p) 0
    first None p = refl
    first (Some i) p = refl

-- all buckets are entered
pub all_entered : (buckets : List Bucket) (count : ℕ) (weights : List ℕ) (place : ℕ) → place ≡ 0 → length weights ≡ count
    → ((osd : ℕ) → osd < count → slice_index weights osd ≡ given osd (flat_map (λ (c : Bucket). c.items) (drop place buckets)) 0)
    → AreItemWeights buckets count weights
unfolding item_weight
all_entered buckets count weights place done long each = record {
  long = long;
  each = λ osd below. each osd below ∙ ap (λ n. given osd (flat_map (λ (c : Bucket). c.items) (drop n buckets)) 0) done;
}

-- the weight of an OSD by the list: one past the list has no reweight
pub weighed : (m : ClusterMap) (weights : List ℕ) (osd : ℕ) → HoldsTogether m → AreItemWeights m.buckets (length m.presences) weights
    → get_or weights osd 0 * slice_index m.weights osd ≡ weight_in_map m osd
unfolding weight_in_map
weighed m weights osd holds are = elim (cases_lt osd (length m.presences)) [
  | inl below ↦ ap (λ w. w * slice_index m.weights osd) (are.each osd below)
  | inr past ↦
      let none : slice_index m.weights osd ≡ 0 = get_or_past m.weights osd 0 (omega (arith, holds.osds.weighed, past)) in
      rw none (zero_times (get_or weights osd 0) ∙ sym (zero_times (item_weight m.buckets osd)))
]
  where
    zero_times : (n : ℕ) → n * 0 ≡ 0
    zero_times n = omega arith
