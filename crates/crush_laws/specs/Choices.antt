-- What choosing below a bucket leaves, packed or by positions (CRUSH paper, section 3.2).
use Rattle.std.specs.Prelude.{◌≡◌, ◌≢◌, ℕ, ◌+◌, ◌<◌, Bool, true, false, ◌||◌, List, length, slice_index_or, ◌==◌}
use Rattle.std.specs.List.{All, AllPairs, fold, range_with_len}
use Rattle.buckets.specs.declared.bucket.Bucket.{Bucket}
use Rattle.crush.specs.declared.choose.Choice.{Choice}
use Rattle.crush.specs.declared.choose.Position.{Position}
use Rattle.crush.specs.declared.choose.Position.TheVariants.{Hole, Filled}
use Rattle.crush.specs.declared.step.Choose.{Choose}
use Rattle.crush.specs.Choosing.{Choosing}
use Rattle.crush.specs.World.{World, is_out}
use Rattle.crush.specs.Firstn.{firstn}
use Rattle.crush.specs.Indep.{is_open, after_position, after_round, indep}

-- a step that takes devices: leaves, or items of type 0
abbrev pub takes_devices : Choose → Bool
takes_devices c = c.to_leaf || c.level == 0

-- choices without an item twice, without a leaf twice, and, where the step takes devices, without one that is out
pub record IsSegment (k : Choosing) (chosen : List Choice) : Type 0 where
  pub items_once : AllPairs (λ a b. a.item ≢ b.item) chosen
  pub leaves_once : AllPairs (λ a b. a.leaf ≢ b.leaf) chosen
  pub none_out : takes_devices k.choose ≡ true → All (λ e. is_out k.world e.leaf ≡ false) chosen

-- two positions do not hold the same item
abbrev pub AreApart : Position → Position → Type 0
AreApart (Filled a) (Filled b) = a.item ≢ b.item
AreApart _ _ = Unit {0}

-- where the step takes devices, none that is out stands at a position
abbrev pub HoldsNoneOut : World → Position → Type 0
HoldsNoneOut w (Filled e) = is_out w e.leaf ≡ false
HoldsNoneOut w _ = Unit {0}

-- a number of positions, no two of which hold the same item, and, where the step takes devices, none one that is out
pub record ArePositions (k : Choosing) (count : ℕ) (positions : List Position) : Type 0 where
  pub counted : length positions ≡ count
  pub items_once : AllPairs AreApart positions
  pub none_out : takes_devices k.choose ≡ true → All (HoldsNoneOut k.world) positions

-- what packing chooses is a segment
abbrev pub FirstnIsSegment : Type 0
FirstnIsSegment = (k : Choosing) (start : Bucket) (limit : ℕ) → IsSegment k (firstn k start limit)

-- choosing for positions gives positions
abbrev pub IndepIsPositions : Type 0
IndepIsPositions = (k : Choosing) (start : Bucket) (count : ℕ) → ArePositions k count (indep k start count)

-- a choosing with another number of rounds
abbrev pub in_rounds : Choosing → ℕ → Choosing
in_rounds k rounds = record k { tries = record k.tries { total = rounds } }

-- a position that is decided after some rounds is as it is after any more
abbrev pub IndepKeepsPositions : Type 0
IndepKeepsPositions = (k : Choosing) (start : Bucket) (rounds more count place : ℕ) →
    let before = indep (in_rounds k rounds) start count in
    let after = indep (in_rounds k (rounds + more)) start count in
    is_open (slice_index_or before place Hole) ≡ false →
    slice_index_or after place Hole ≡ slice_index_or before place Hole

-- the positions after the first so many of them in a round
abbrev pub after_positions : Choosing → Bucket → ℕ → List Position → ℕ → List Position
after_positions k start round positions n = fold (after_position k start round) positions (range_with_len 0 n)

-- what a round makes of a position is what its own try makes of it: it depends on no later position
abbrev pub IndepLooksBack : Type 0
IndepLooksBack = (k : Choosing) (start : Bucket) (round : ℕ) (positions : List Position) (place : ℕ) →
    place < length positions →
    slice_index_or (after_round k start positions round) place Hole
    ≡ slice_index_or (after_positions k start round positions (place + 1)) place Hole
