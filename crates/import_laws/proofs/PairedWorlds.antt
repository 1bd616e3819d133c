-- Two worlds whose buckets pick alike within a set of items place alike within it, whatever else their buckets hold.
use Rattle.std.proofs.Common.{◌≡◌, ℕ, zero, suc, ◌+◌, ◌*◌, ◌-◌, ◌&&◌, ℤ, pos, Bool, true, false, not, cond, ltb, eqb, List, [], ◌∷◌, ◌++◌, length, map, min, get_or, set, replicate, Option, Some, None, sym, ap, refl, ◌∙◌}
use Rattle.std.specs.Prelude.{unwrap_or}
use Rattle.std.specs.List.{All, find, filter_map, cons_option, list_any, fold, range_with_len}
use Rattle.std.specs.Option.{option_and_then, option_map, option_map_or}
use Rattle.std.specs.Ordering.{int_eq}
use Rattle.std.proofs.lemmas.List.Elements.{All-head, All-tail, All-map}
use Rattle.buckets.specs.declared.bucket.Bucket.{Bucket}
use Rattle.buckets.specs.Kinds.{stride_by}
use Rattle.buckets.specs.Pick.{place_picked, pick_of}
use Rattle.crush.specs.declared.choose.Attempt.{Attempt}
use Rattle.crush.specs.declared.choose.Attempt.TheVariants.{Failed}
use Rattle.crush.specs.declared.choose.Choice.{Choice}
use Rattle.crush.specs.declared.choose.Picked.{Picked}
use Rattle.crush.specs.declared.choose.Position.{Position}
use Rattle.crush.specs.declared.choose.Position.TheVariants.{Open, Hole, Filled}
use Rattle.crush.specs.declared.choose.Tries.{Tries}
use Rattle.crush.specs.declared.step.Mode.{Mode}
use Rattle.crush.specs.declared.step.Mode.TheVariants.{Firstn, Indep}
use Rattle.crush.specs.Choosing.{Choosing}
use Rattle.crush.specs.Descent.{descent, item_below, device_below, leaf_below}
use Rattle.crush.specs.Firstn.{numbers_from, is_free, leaf_number, with_leaf, attempt_with, attempt_at, attempt_of, is_failed, replica_of, with_attempt, after_replica, firstn}
use Rattle.crush.specs.Forest.{bucket_at, level_of}
use Rattle.crush.specs.Indep.{replica_number, replica_numbers, holds_item, is_open, is_in, filled_with, position_with, position_at, position_of, after_round, indep, leaf_at}
use Rattle.crush.specs.Run.{segment_by, segment_of, after_bucket, after_entry}
use Rattle.crush.specs.World.{World, world_of, is_out}
use Rattle.crush.proofs.PlacesPicked.{within_by}
use Rattle.crush.proofs.DescentsWithin.{HasIn, AreAlike, descent_in}
use Rattle.crush.proofs.RunsWithin.{IsIn}

-- ---- pairs

-- two buckets of a type that pick alike, and go by the same replica numbers where positions are kept
pub record ArePair (own made : Bucket) : Type 0 where
  pub level : own.level ≡ made.level
  pub stride : (numrep : ℕ) → stride_by own.kind numrep (length own.items) ≡ stride_by made.kind numrep (length made.items)
  pub picks : (x r : ℕ) → pick_of own x r ≡ pick_of made x r

-- two such buckets, or none
abbrev pub ArePaired : Option Bucket → Option Bucket → Type 0
ArePaired None None = Unit {0}
ArePaired None (Some made) = ⊥
ArePaired (Some own) None = ⊥
ArePaired (Some own) (Some made) = ArePair own made

-- a world with other buckets
abbrev pub beside : World → List Bucket → World
beside w bs = world_of bs w.weights w.x

-- a world stays within a set of items, each of which leads to such buckets here and beside, or to none
pub record IsBeside (R : ℤ → Type 0) (bs : List Bucket) (w : World) : Type 0 where
  pub within : AreAlike R w w.weights
  pub paired : (id : ℤ) → R id → ArePaired (bucket_at bs id) (bucket_at w.buckets id)

-- numbers that are the same at such buckets
abbrev GoesAlike : (Bucket → ℕ) → Type 0
GoesAlike r = (own made : Bucket) → ArePair own made → r own ≡ r made

-- what a bucket picks is in the set
picked_in : (R : ℤ → Type 0) (buckets : List Bucket) (b : Bucket) (x r : ℕ) → HasIn R buckets b → R (pick_of b x r)
unfolding pick_of
picked_in R buckets b x r h = h.items (place_picked b x r) (record { id = pos 0; weight = 0 }) (within_by b.kind b x r refl h.pickable)

-- such buckets are of a type
level_paired : (o p : Option Bucket) → ArePaired o p → option_map_or (λ b. b.level) p 0 ≡ option_map_or (λ b. b.level) o 0
level_paired None None h = refl
level_paired None (Some made) h = absurd h
level_paired (Some own) None h = absurd h
level_paired (Some own) (Some made) h = sym h.level

-- what is found below them is the same, where it is below each two
below_paired : {X : Type 0} (o p : Option Bucket) (f g : Bucket → Option X) → ArePaired o p → ((own made : Bucket) → p ≡ Some made → ArePair own made → f made ≡ g own) → option_and_then f p ≡ option_and_then g o
below_paired None None f g h same = refl
below_paired None (Some made) f g h same = absurd h
below_paired (Some own) None f g h same = absurd h
below_paired (Some own) (Some made) f g h same = same own made refl h

-- ---- descents

-- what a bucket's pick leads to: the pick itself, where it is of the wanted type, or what is below it
abbrev leads_to : List Bucket → ℕ → (Bucket → Option Picked) → ℤ → ℕ → Option Picked
leads_to buckets wanted below item r =
    cond (eqb (level_of buckets item) wanted) (Some (record { item = item; r = r })) (option_and_then below (bucket_at buckets item))

-- a descent is the same
descent_same : (R : ℤ → Type 0) (bs : List Bucket) (w : World) (r : Bucket → ℕ) (wanted n : ℕ) (own made : Bucket) → IsBeside R bs w → GoesAlike r → HasIn R w.buckets made → ArePair own made → descent w r wanted n made ≡ descent (beside w bs) r wanted n own
unfolding descent
descent_same R bs w r wanted zero own made s goes h pair = refl
descent_same R bs w r wanted (suc n) own made s goes h pair =
    let item = pick_of made w.x (r made) in
    let here = goes own made pair in
    let same : pick_of own w.x (r own) ≡ item = pair.picks w.x (r own) ∙ ap (pick_of made w.x) here in
    let holds = picked_in R w.buckets made w.x (r made) h in
    let paired = s.paired item holds in
    let below : Bucket → Option Picked = λ c. descent w r wanted n c in
    let own_below : Bucket → Option Picked = λ c. descent (beside w bs) r wanted n c in
    let found : Picked = record { item = item; r = r made } in
    ap (λ l. cond (eqb l wanted) (Some found) (option_and_then below (bucket_at w.buckets item))) (level_paired (bucket_at bs item) (bucket_at w.buckets item) paired)
    ∙ ap (cond (eqb (level_of bs item) wanted) (Some found)) (below_paired (bucket_at bs item) (bucket_at w.buckets item) below own_below paired (λ c d is p. descent_same R bs w r wanted n c d s goes (s.within.below item d holds is) p))
    ∙ ap (leads_to bs wanted own_below item) (sym here)
    ∙ ap (λ i. leads_to bs wanted own_below i (r own)) (sym same)

-- so is the item of a type below a bucket
item_same : (R : ℤ → Type 0) (bs : List Bucket) (w : World) (r : Bucket → ℕ) (wanted : ℕ) (own made : Bucket) → IsBeside R bs w → GoesAlike r → HasIn R w.buckets made → ArePair own made → item_below w r wanted made ≡ item_below (beside w bs) r wanted own
item_same R bs w r wanted own made s goes h pair =
    descent_same R bs w r wanted made.level own made s goes h pair
    ∙ ap (λ n. descent (beside w bs) r wanted n own) (sym pair.level)

-- and what devices are below it
devices_same : (R : ℤ → Type 0) (bs : List Bucket) (w : World) (rs : List (Bucket → ℕ)) (own made : Bucket) → IsBeside R bs w → All GoesAlike rs → HasIn R w.buckets made → ArePair own made → filter_map (device_below w made) rs ≡ filter_map (device_below (beside w bs) own) rs
devices_same R bs w [] own made s goes h pair = refl
devices_same R bs w (r ∷ rs) own made s goes h pair =
    let here = item_same R bs w r 0 own made s (All-head GoesAlike r rs goes) h pair in
    let rest = devices_same R bs w rs own made s (All-tail GoesAlike r rs goes) h pair in
    ap (λ o. cons_option (option_map (λ (p : Picked). p.item) o) (filter_map (device_below w made) rs)) here
    ∙ ap (cons_option (device_below (beside w bs) own r)) rest

-- and the leaf below an item
leaf_same : (R : ℤ → Type 0) (bs : List Bucket) (w : World) (accepts : ℤ → Bool) (rs : List (Bucket → ℕ)) (item : ℤ) → IsBeside R bs w → All GoesAlike rs → R item → leaf_below w accepts rs item ≡ leaf_below (beside w bs) accepts rs item
unfolding leaf_below
leaf_same R bs w accepts rs item s goes holds =
    below_paired (bucket_at bs item) (bucket_at w.buckets item) _ _ (s.paired item holds) (λ own made is pair. ap (find accepts) (devices_same R bs w rs own made s goes (s.within.below item made holds is) pair))

-- ---- choices

-- the same step in the other world, with another count, and other ways to seek leaves
abbrev pub own_of : Choosing → List Bucket → ℕ → ℕ → ℕ → Choosing
own_of k bs count vary stable = record {
  world = beside k.world bs;
  choose = record k.choose { count = count };
  tries = record k.tries { vary = vary; stable = stable };
  numrep = k.numrep;
}

-- where a step chooses leaves it seeks them by these
abbrev SeeksBy : Choosing → ℕ → ℕ → Type 0
SeeksBy k vary stable = k.choose.to_leaf ≡ true → (k.tries.vary ≡ vary) × (k.tries.stable ≡ stable)

-- what counts only where a test passes
where_it_counts : {X : Type 0} (c : Bool) (x x' y : X) → (c ≡ true → x ≡ x') → cond c x y ≡ cond c x' y
where_it_counts true x x' y same = same refl
where_it_counts false x x' y same = refl

-- numbers that are the same at all buckets
constant : (r n : ℕ) → All GoesAlike (numbers_from r n)
constant r n = All-map GoesAlike (λ m _. m) (range_with_len r n) (λ k d within own made pair. refl)

-- an item comes to the same
attempt_same : (R : ℤ → Type 0) (k : Choosing) (bs : List Bucket) (count vary stable : ℕ) (chosen : List Choice) (r : ℕ) (item : ℤ) → IsBeside R bs k.world → SeeksBy k vary stable → R item → attempt_with k chosen r item ≡ attempt_with (own_of k bs count vary stable) chosen r item
unfolding attempt_with leaf_number is_out
attempt_same R k bs count vary stable chosen r item s seeks holds =
    let own = own_of k bs count vary stable in
    let number : Tries → ℕ = λ t. leaf_number t (length chosen) r in
    let from : ℕ → Option ℤ = λ n. leaf_below own.world (is_free own.world chosen) (numbers_from n k.tries.leaf) item in
    let leaf = leaf_same R bs k.world (is_free k.world chosen) (numbers_from (number k.tries) k.tries.leaf) item s (constant (number k.tries) k.tries.leaf) holds in
    ap (cond (list_any (λ (e : Choice). int_eq e.item item) chosen) Failed)
    (where_it_counts k.choose.to_leaf _ _ _ (λ leafy.
    let by = seeks leafy in
    ap (with_leaf item) (leaf
    ∙ ap (λ v. from (leaf_number (record k.tries { vary = v }) (length chosen) r)) by.0
    ∙ ap (λ v. from (leaf_number (record k.tries { vary = vary; stable = v }) (length chosen) r)) by.1)))

-- so does what a descent found
attempt_at_same : (R : ℤ → Type 0) (k : Choosing) (bs : List Bucket) (count vary stable : ℕ) (chosen : List Choice) (r : ℕ) (found : Option Picked) → IsBeside R bs k.world → SeeksBy k vary stable → ((p : Picked) → found ≡ Some p → R p.item) → attempt_at k chosen r found ≡ attempt_at (own_of k bs count vary stable) chosen r found
attempt_at_same R k bs count vary stable chosen r None s seeks holds = refl
attempt_at_same R k bs count vary stable chosen r (Some p) s seeks holds = attempt_same R k bs count vary stable chosen r p.item s seeks (holds p refl)

-- so does a try
attempt_of_same : (R : ℤ → Type 0) (k : Choosing) (bs : List Bucket) (count vary stable : ℕ) (chosen : List Choice) (own made : Bucket) (r : ℕ) → IsBeside R bs k.world → SeeksBy k vary stable → HasIn R k.world.buckets made → ArePair own made → attempt_of k chosen made r ≡ attempt_of (own_of k bs count vary stable) chosen own r
unfolding attempt_of
attempt_of_same R k bs count vary stable chosen own made r s seeks h pair =
    let j = own_of k bs count vary stable in
    let number : Bucket → ℕ = λ _. r in
    attempt_at_same R k bs count vary stable chosen r (item_below k.world number k.choose.level made) s seeks (λ p is. descent_in R k.world k.world.weights number k.choose.level made.level made p s.within h is)
    ∙ ap (attempt_at j chosen r) (item_same R bs k.world number k.choose.level own made s (λ c d p. refl) h pair)

-- so does a replica
replica_same : (R : ℤ → Type 0) (k : Choosing) (bs : List Bucket) (count vary stable : ℕ) (chosen : List Choice) (own made : Bucket) (n r : ℕ) → IsBeside R bs k.world → SeeksBy k vary stable → HasIn R k.world.buckets made → ArePair own made → replica_of k chosen made n r ≡ replica_of (own_of k bs count vary stable) chosen own n r
unfolding replica_of
replica_same R k bs count vary stable chosen own made n r s seeks h pair =
    let each : attempt_of k chosen made ≡ attempt_of (own_of k bs count vary stable) chosen own = λ i r. attempt_of_same R k bs count vary stable chosen own made r s seeks h pair i in
    ap (λ (f : ℕ → Attempt). unwrap_or (find (λ a. not (is_failed a)) (map f (range_with_len r n))) Failed) each

-- so does packing
firstn_same : (R : ℤ → Type 0) (k : Choosing) (bs : List Bucket) (count vary stable : ℕ) (own made : Bucket) (limit : ℕ) → IsBeside R bs k.world → SeeksBy k vary stable → HasIn R k.world.buckets made → ArePair own made → firstn k made limit ≡ firstn (own_of k bs count vary stable) own limit
unfolding firstn
firstn_same R k bs count vary stable own made limit s seeks h pair =
    let after : after_replica k made limit ≡ after_replica (own_of k bs count vary stable) own limit = λ i chosen rep. cond (ltb (length chosen) limit) (with_attempt chosen (replica_same R k bs count vary stable chosen own made k.tries.total rep s seeks h pair i)) chosen in
    ap (λ (f : List Choice → ℕ → List Choice). fold f [] (range_with_len 0 k.numrep)) after

-- ---- positions

-- the replica numbers of rounds are the same
rounds_same : (numrep base round : ℕ) → GoesAlike (replica_number numrep base round)
unfolding replica_number
rounds_same numrep base round own made pair = ap (λ s. base + s * round) (pair.stride numrep)

-- an item makes the same of a position
position_same : (R : ℤ → Type 0) (k : Choosing) (bs : List Bucket) (count vary stable : ℕ) (positions : List Position) (rep : ℕ) (p : Picked) → IsBeside R bs k.world → R p.item → position_with k positions rep p ≡ position_with (own_of k bs count vary stable) positions rep p
unfolding position_with is_out
position_same R k bs count vary stable positions rep p s holds =
    let base = rep + p.r in
    let goes : All GoesAlike (replica_numbers k.numrep base k.tries.leaf) = All-map GoesAlike (replica_number k.numrep base) (range_with_len 0 k.tries.leaf) (λ i d within. rounds_same k.numrep base (get_or (range_with_len 0 k.tries.leaf) i d)) in
    let leaf = leaf_same R bs k.world (is_in k.world) (replica_numbers k.numrep base k.tries.leaf) p.item s goes holds in
    ap (λ l. cond (list_any (holds_item p.item) positions) Open (cond k.choose.to_leaf (filled_with p.item l) (cond (eqb k.choose.level 0 && is_out k.world p.item) Open (Filled (record { item = p.item; leaf = p.item }))))) leaf

-- so does what a descent found
position_at_same : (R : ℤ → Type 0) (k : Choosing) (bs : List Bucket) (count vary stable : ℕ) (positions : List Position) (rep : ℕ) (found : Option Picked) → IsBeside R bs k.world → ((p : Picked) → found ≡ Some p → R p.item) → position_at k positions rep found ≡ position_at (own_of k bs count vary stable) positions rep found
position_at_same R k bs count vary stable positions rep None s holds = refl
position_at_same R k bs count vary stable positions rep (Some p) s holds = position_same R k bs count vary stable positions rep p s (holds p refl)

-- a position becomes the same in a round
position_of_same : (R : ℤ → Type 0) (k : Choosing) (bs : List Bucket) (count vary stable : ℕ) (own made : Bucket) (round : ℕ) (positions : List Position) (rep : ℕ) → IsBeside R bs k.world → HasIn R k.world.buckets made → ArePair own made → position_of k made round positions rep ≡ position_of (own_of k bs count vary stable) own round positions rep
unfolding position_of
position_of_same R k bs count vary stable own made round positions rep s h pair =
    let j = own_of k bs count vary stable in
    let r = replica_number k.numrep rep round in
    position_at_same R k bs count vary stable positions rep (item_below k.world r k.choose.level made) s (λ p is. descent_in R k.world k.world.weights r k.choose.level made.level made p s.within h is)
    ∙ ap (position_at j positions rep) (item_same R bs k.world r k.choose.level own made s (rounds_same k.numrep rep round) h pair)

-- so do all positions in all rounds
indep_same : (R : ℤ → Type 0) (k : Choosing) (bs : List Bucket) (count vary stable : ℕ) (own made : Bucket) (places : ℕ) → IsBeside R bs k.world → HasIn R k.world.buckets made → ArePair own made → indep k made places ≡ indep (own_of k bs count vary stable) own places
unfolding indep after_round
indep_same R k bs count vary stable own made places s h pair =
    let round : after_round k made ≡ after_round (own_of k bs count vary stable) own = λ i positions round. fold (λ ps rep. cond (is_open (get_or ps rep Hole)) (set ps rep (position_of_same R k bs count vary stable own made round ps rep s h pair i)) ps) positions (range_with_len 0 (length positions)) in
    ap (λ (f : List Position → ℕ → List Position). fold f (replicate places Open) (range_with_len 0 k.tries.total)) round

-- ---- runs

-- where a step packs leaves it seeks them by these
abbrev pub PacksBy : Choosing → ℕ → ℕ → Type 0
PacksBy k vary stable = k.choose.mode ≡ Firstn → SeeksBy k vary stable

-- what a step chooses below a bucket is the same
segment_same : (R : ℤ → Type 0) (mode : Mode) (k : Choosing) (bs : List Bucket) (count vary stable : ℕ) (own made : Bucket) (room : ℕ) → IsBeside R bs k.world → (mode ≡ Firstn → SeeksBy k vary stable) → HasIn R k.world.buckets made → ArePair own made → segment_by mode k made room ≡ segment_by mode (own_of k bs count vary stable) own room
segment_same R Firstn k bs count vary stable own made room s seeks h pair = ap (map (λ (e : Choice). Some e.leaf)) (firstn_same R k bs count vary stable own made room s (seeks refl) h pair)
segment_same R Indep k bs count vary stable own made room s seeks h pair = ap (map leaf_at) (indep_same R k bs count vary stable own made (min k.numrep room) s h pair)

-- so is what a bucket of the working list adds
bucket_same : (R : ℤ → Type 0) (k : Choosing) (bs : List Bucket) (count vary stable : ℕ) (size : ℕ) (found : List (Option ℤ)) (o p : Option Bucket) → IsBeside R bs k.world → PacksBy k vary stable → ((b : Bucket) → p ≡ Some b → HasIn R k.world.buckets b) → ArePaired o p → after_bucket k size found p ≡ after_bucket (own_of k bs count vary stable) size found o
unfolding segment_of
bucket_same R k bs count vary stable size found None None s packs h pair = refl
bucket_same R k bs count vary stable size found None (Some made) s packs h pair = absurd pair
bucket_same R k bs count vary stable size found (Some own) None s packs h pair = absurd pair
bucket_same R k bs count vary stable size found (Some own) (Some made) s packs h pair = ap (λ ys. found ++ ys) (segment_same R k.choose.mode k bs count vary stable own made (size - length found) s packs (h made refl) pair)

-- so is what an entry of it adds
entry_same : (R : ℤ → Type 0) (k : Choosing) (bs : List Bucket) (count vary stable : ℕ) (size : ℕ) (found : List (Option ℤ)) (entry : Option ℤ) → IsBeside R bs k.world → PacksBy k vary stable → IsIn R entry → after_entry k size found entry ≡ after_entry (own_of k bs count vary stable) size found entry
entry_same R k bs count vary stable size found None s packs holds = refl
entry_same R k bs count vary stable size found (Some item) s packs holds = bucket_same R k bs count vary stable size found (bucket_at bs item) (bucket_at k.world.buckets item) s packs (λ b is. s.within.below item b holds is) (s.paired item holds)

-- so is all that a step makes of a working list
pub working_same : (R : ℤ → Type 0) (k : Choosing) (bs : List Bucket) (count vary stable : ℕ) (size : ℕ) (found working : List (Option ℤ)) → IsBeside R bs k.world → PacksBy k vary stable → All (IsIn R) working → fold (after_entry k size) found working ≡ fold (after_entry (own_of k bs count vary stable) size) found working
working_same R k bs count vary stable size found [] s packs all = refl
working_same R k bs count vary stable size found (entry ∷ working) s packs all =
    ap (λ ys. fold (after_entry k size) ys working) (entry_same R k bs count vary stable size found entry s packs (All-head (IsIn R) entry working all))
    ∙ working_same R k bs count vary stable size (after_entry (own_of k bs count vary stable) size found entry) working s packs (All-tail (IsIn R) entry working all)
