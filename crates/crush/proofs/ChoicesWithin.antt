-- two lists of reweights that agree on the devices of a set place alike within it: what packing and what choosing for
-- positions gives
use Rattle.std.proofs.Common.{◌≡◌, ℕ, zero, suc, ◌+◌, ℤ, Bool, true, false, not, cond, ◌||◌, ◌&&◌, ltb, eqb, List, [], length, map, get_or, set, replicate, Option, Some, None, inl, inr, sym, ap, refl, ◌∙◌, subst, arith}
use Rattle.std.specs.Prelude.{unwrap_or}
use Rattle.std.specs.List.{All, find, list_any, fold, range_with_len}
use Rattle.std.specs.Ordering.{int_eq}
use Rattle.std.proofs.lemmas.Bool.{cases_Bool, cases_eq, ne_eqb}
use Rattle.std.proofs.lemmas.List.Elements.{All-push, All-set, All-replicate}
use Rattle.buckets.specs.declared.bucket.Bucket.{Bucket}
use Rattle.crush.specs.declared.choose.Attempt.{Attempt}
use Rattle.crush.specs.declared.choose.Attempt.TheVariants.{Abandoned, Failed, Chosen}
use Rattle.crush.specs.declared.choose.Choice.{Choice}
use Rattle.crush.specs.declared.choose.Picked.{Picked}
use Rattle.crush.specs.declared.choose.Position.{Position}
use Rattle.crush.specs.declared.choose.Position.TheVariants.{Open, Hole, Filled}
use Rattle.crush.specs.Choosing.{Choosing}
use Rattle.crush.specs.World.{World, is_out}
use Rattle.crush.specs.Descent.{item_below, leaf_below}
use Rattle.crush.specs.Firstn.{numbers_from, is_free, leaf_number, attempt_with, attempt_at, attempt_of, is_failed, replica_of, with_attempt, after_replica, firstn}
use Rattle.crush.specs.Indep.{replica_number, replica_numbers, holds_item, is_open, position_with, position_at, position_of, after_position, after_round, indep}
use Rattle.crush.proofs.Folds.{fold_keeps}
use Rattle.crush.proofs.ItemTries.{attempt_by, chosen_by, first_of, position_by, filled_by}
use Rattle.crush.proofs.DescentsWithin.{other, IsDevice, HasIn, AreAlike, descent_same, descent_in, descent_device, leaf_same, leaf_in}

-- whether a device is out matters only where type 0 is wanted
barred_same : (R : ℤ → Type 0) (w : World) (vs : List ℕ) (level : ℕ) (item : ℤ) → AreAlike R w vs → R item → (level ≡ 0 → IsDevice item) → (eqb level 0 && is_out w item) ≡ (eqb level 0 && is_out (other w vs) item)
barred_same R w vs level item s holds device = elim (cases_eq level 0) [
  | inl e ↦ ap (λ o. eqb level 0 && o) (s.alike item holds (device e))
  | inr ne ↦ ap (λ b. b && is_out w item) (ne_eqb _ _ ne) ∙ sym (ap (λ b. b && is_out (other w vs) item) (ne_eqb _ _ ne))
]

-- a descent to type 0 ends at a device
device_at : (R : ℤ → Type 0) (w : World) (vs : List ℕ) (r : Bucket → ℕ) (level : ℕ) (start : Bucket) (p : Picked) → AreAlike R w vs → HasIn R w.buckets start → item_below w r level start ≡ Some p → level ≡ 0 → IsDevice p.item
device_at R w vs r level start p s h is e = descent_device R w vs r start.level start p s h (sym (ap (λ m. item_below w r m start) e) ∙ is)

-- the same step with other reweights
abbrev pub other_step : Choosing → List ℕ → Choosing
other_step k vs = record k { world = other k.world vs }

-- what the items below a bucket lead to: leaves in a set, and items in it where the step takes no leaves
pub record LeadsIn (D : ℤ → Type 0) (k : Choosing) (start : Bucket) : Type 0 where
  pub leaf : (r : Bucket → ℕ) (p : Picked) (accepts : ℤ → Bool) (rs : List (Bucket → ℕ)) (leaf : ℤ) → item_below k.world r k.choose.level start ≡ Some p → leaf_below k.world accepts rs p.item ≡ Some leaf → D leaf
  pub bare : (r : Bucket → ℕ) (p : Picked) → item_below k.world r k.choose.level start ≡ Some p → k.choose.to_leaf ≡ false → D p.item

-- a set that holds, with each bucket, all items of that bucket
pub leads_in : (R : ℤ → Type 0) (k : Choosing) (vs : List ℕ) (start : Bucket) → AreAlike R k.world vs → HasIn R k.world.buckets start → LeadsIn R k start
leads_in R k vs start s h = record {
  leaf = λ r p accepts rs leaf is e. leaf_in R k.world vs accepts rs p.item leaf s (descent_in R k.world vs r k.choose.level start.level start p s h is) e;
  bare = λ r p is none. descent_in R k.world vs r k.choose.level start.level start p s h is;
}

-- ---- packing

-- an item comes to the same under both lists
attempt_same : (R : ℤ → Type 0) (k : Choosing) (vs : List ℕ) (chosen : List Choice) (r : ℕ) (item : ℤ) → AreAlike R k.world vs → R item → (k.choose.level ≡ 0 → IsDevice item) → attempt_with k chosen r item ≡ attempt_with (other_step k vs) chosen r item
unfolding attempt_with attempt_by
attempt_same R k vs chosen r item s holds device =
    let v = other k.world vs in
    let held = list_any (λ (o : Choice). int_eq o.item item) chosen in
    let free : (d : ℤ) → R d → IsDevice d → is_free k.world chosen d ≡ is_free v chosen d = λ d h q. ap (λ o. not (o || list_any (λ (e : Choice). int_eq e.leaf d) chosen)) (s.alike d h q) in
    let leaf = leaf_same R k.world vs (is_free k.world chosen) (is_free v chosen) (numbers_from (leaf_number k.tries (length chosen) r) k.tries.leaf) item s holds free in
    ap (λ l. attempt_by held k.choose.to_leaf (eqb k.choose.level 0 && is_out k.world item) l item) leaf
    ∙ ap (λ b. attempt_by held k.choose.to_leaf b (leaf_below v (is_free v chosen) (numbers_from (leaf_number k.tries (length chosen) r) k.tries.leaf) item) item) (barred_same R k.world vs k.choose.level item s holds device)

-- the leaf of a chosen item is in a set of leaves
attempt_in : (D : ℤ → Type 0) (k : Choosing) (chosen : List Choice) (r : ℕ) (item : ℤ) (e : Choice) → ((accepts : ℤ → Bool) (rs : List (Bucket → ℕ)) (leaf : ℤ) → leaf_below k.world accepts rs item ≡ Some leaf → D leaf) → (k.choose.to_leaf ≡ false → D item) → attempt_with k chosen r item ≡ Chosen e → D e.leaf
unfolding attempt_with attempt_by
attempt_in D k chosen r item e leaves bare h =
    let rs = numbers_from (leaf_number k.tries (length chosen) r) k.tries.leaf in
    let is = chosen_by (list_any (λ o. int_eq o.item item) chosen) k.choose.to_leaf (eqb k.choose.level 0 && is_out k.world item) (leaf_below k.world (is_free k.world chosen) rs item) item e h in
    elim (cases_Bool k.choose.to_leaf) [
      | inl leafy ↦ leaves (is_free k.world chosen) rs e.leaf (is.taken leafy)
      | inr none ↦ subst D (is.item_is ∙ sym (is.itself none).0) (bare none)
    ]

-- so does what a descent found
attempt_at_same : (R : ℤ → Type 0) (k : Choosing) (vs : List ℕ) (chosen : List Choice) (r : ℕ) (found : Option Picked) → AreAlike R k.world vs → ((p : Picked) → found ≡ Some p → R p.item) → ((p : Picked) → found ≡ Some p → k.choose.level ≡ 0 → IsDevice p.item) → attempt_at k chosen r found ≡ attempt_at (other_step k vs) chosen r found
attempt_at_same R k vs chosen r None s h q = refl
attempt_at_same R k vs chosen r (Some p) s h q = attempt_same R k vs chosen r p.item s (h p refl) (q p refl)

-- so is that of what a descent found
attempt_at_in : (D : ℤ → Type 0) (k : Choosing) (chosen : List Choice) (r : ℕ) (found : Option Picked) (e : Choice) → ((p : Picked) (accepts : ℤ → Bool) (rs : List (Bucket → ℕ)) (leaf : ℤ) → found ≡ Some p → leaf_below k.world accepts rs p.item ≡ Some leaf → D leaf) → ((p : Picked) → found ≡ Some p → k.choose.to_leaf ≡ false → D p.item) → attempt_at k chosen r found ≡ Chosen e → D e.leaf
attempt_at_in D k chosen r None e leaves bare is = absurd (cc)
attempt_at_in D k chosen r (Some p) e leaves bare is = attempt_in D k chosen r p.item e (λ accepts rs leaf. leaves p accepts rs leaf refl) (bare p refl) is

-- so does a try
attempt_of_same : (R : ℤ → Type 0) (k : Choosing) (vs : List ℕ) (chosen : List Choice) (start : Bucket) (r : ℕ) → AreAlike R k.world vs → HasIn R k.world.buckets start → attempt_of k chosen start r ≡ attempt_of (other_step k vs) chosen start r
unfolding attempt_of
attempt_of_same R k vs chosen start r s h =
    attempt_at_same R k vs chosen r (item_below k.world (λ _. r) k.choose.level start) s (λ p is. descent_in R k.world vs (λ _. r) k.choose.level start.level start p s h is) (λ p is e. device_at R k.world vs (λ _. r) k.choose.level start p s h is e)
    ∙ ap (attempt_at (other_step k vs) chosen r) (descent_same k.world vs (λ _. r) k.choose.level start.level start)

-- and of what a try chose
attempt_of_in : (D : ℤ → Type 0) (k : Choosing) (chosen : List Choice) (start : Bucket) (r : ℕ) (e : Choice) → LeadsIn D k start → attempt_of k chosen start r ≡ Chosen e → D e.leaf
unfolding attempt_of
attempt_of_in D k chosen start r e s is =
    attempt_at_in D k chosen r (item_below k.world (λ _. r) k.choose.level start) e (λ p accepts rs leaf. s.leaf (λ _. r) p accepts rs leaf) (λ p. s.bare (λ _. r) p) is

-- so does a replica
replica_same : (R : ℤ → Type 0) (k : Choosing) (vs : List ℕ) (chosen : List Choice) (start : Bucket) (n r : ℕ) → AreAlike R k.world vs → HasIn R k.world.buckets start → replica_of k chosen start n r ≡ replica_of (other_step k vs) chosen start n r
unfolding replica_of
replica_same R k vs chosen start n r s h =
    let each : attempt_of k chosen start ≡ attempt_of (other_step k vs) chosen start = λ i r. attempt_of_same R k vs chosen start r s h i in
    ap (λ (f : ℕ → Attempt). unwrap_or (find (λ a. not (is_failed a)) (map f (range_with_len r n))) Failed) each

-- and of a replica
replica_in : (D : ℤ → Type 0) (k : Choosing) (chosen : List Choice) (start : Bucket) (n r : ℕ) (e : Choice) → LeadsIn D k start → replica_of k chosen start n r ≡ Chosen e → D e.leaf
unfolding replica_of
replica_in D k chosen start zero r e s is = absurd (cc)
replica_in D k chosen start (suc n) r e s is = elim (first_of (attempt_of k chosen start r) (find (λ a. not (is_failed a)) (map (attempt_of k chosen start) (range_with_len (r + 1) n))) e is) [
  | inl here ↦ attempt_of_in D k chosen start r e s here
  | inr later ↦ replica_in D k chosen start n (r + 1) e s later
]

-- one replica more
after_same : (R : ℤ → Type 0) (k : Choosing) (vs : List ℕ) (start : Bucket) (limit : ℕ) → AreAlike R k.world vs → HasIn R k.world.buckets start → after_replica k start limit ≡ after_replica (other_step k vs) start limit
after_same R k vs start limit s h = λ i chosen rep. cond (ltb (length chosen) limit) (with_attempt chosen (replica_same R k vs chosen start k.tries.total rep s h i)) chosen

-- packing gives the same under both lists
pub firstn_same : (R : ℤ → Type 0) (k : Choosing) (vs : List ℕ) (start : Bucket) (limit : ℕ) → AreAlike R k.world vs → HasIn R k.world.buckets start → firstn k start limit ≡ firstn (other_step k vs) start limit
unfolding firstn
firstn_same R k vs start limit s h =
    ap (λ (f : List Choice → ℕ → List Choice). fold f [] (range_with_len 0 k.numrep)) (after_same R k vs start limit s h)

-- a choice in the set joins others in it
with_in : (R : ℤ → Type 0) (chosen : List Choice) (a : Attempt) → All (λ e. R e.leaf) chosen → ((e : Choice) → a ≡ Chosen e → R e.leaf) → All (λ e. R e.leaf) (with_attempt chosen a)
with_in R chosen Abandoned all h = all
with_in R chosen Failed all h = all
with_in R chosen (Chosen e) all h = All-push (λ (o : Choice). R o.leaf) chosen e all (h e refl)

-- two lists in the set, and a test between them
either_in : (R : ℤ → Type 0) (more : Bool) (xs ys : List Choice) → All (λ e. R e.leaf) xs → All (λ e. R e.leaf) ys → All (λ e. R e.leaf) (cond more xs ys)
either_in R true xs ys p q = p
either_in R false xs ys p q = q

-- so the leaves of all that is packed are in the set
pub firstn_in : (D : ℤ → Type 0) (k : Choosing) (start : Bucket) (limit : ℕ) → LeadsIn D k start → All (λ e. D e.leaf) (firstn k start limit)
unfolding firstn
firstn_in D k start limit s =
    fold_keeps (All (λ e. D e.leaf)) (after_replica k start limit)
    (λ chosen rep all. either_in D (ltb (length chosen) limit) _ chosen (with_in D chosen (replica_of k chosen start k.tries.total rep) all (λ e is. replica_in D k chosen start k.tries.total rep e s is)) all)
    [] (range_with_len 0 k.numrep) (λ i d within. absurd (omega arith))

-- ---- choosing for positions

-- a position that holds nothing outside the set
abbrev pub HoldsIn : (ℤ → Type 0) → Position → Type 0
HoldsIn R Open = Unit {0}
HoldsIn R Hole = Unit {0}
HoldsIn R (Filled e) = R e.leaf

-- an item makes the same of a position under both lists
position_same : (R : ℤ → Type 0) (k : Choosing) (vs : List ℕ) (positions : List Position) (rep : ℕ) (p : Picked) → AreAlike R k.world vs → R p.item → (k.choose.level ≡ 0 → IsDevice p.item) → position_with k positions rep p ≡ position_with (other_step k vs) positions rep p
unfolding position_with position_by
position_same R k vs positions rep p s holds device =
    let v = other k.world vs in
    let held = list_any (holds_item p.item) positions in
    let rs = replica_numbers k.numrep (rep + p.r) k.tries.leaf in
    let accepts : World → ℤ → Bool = λ u d. not (is_out u d) in
    let leaf = leaf_same R k.world vs (accepts k.world) (accepts v) rs p.item s holds (λ d h q. ap not (s.alike d h q)) in
    ap (λ l. position_by held k.choose.to_leaf (eqb k.choose.level 0 && is_out k.world p.item) l p.item) leaf
    ∙ ap (λ b. position_by held k.choose.to_leaf b (leaf_below v (accepts v) rs p.item) p.item) (barred_same R k.world vs k.choose.level p.item s holds device)

-- the leaf of an item that fills a position is in a set of leaves
filled_in : (D : ℤ → Type 0) (k : Choosing) (positions : List Position) (rep : ℕ) (p : Picked) (e : Choice) → ((accepts : ℤ → Bool) (rs : List (Bucket → ℕ)) (leaf : ℤ) → leaf_below k.world accepts rs p.item ≡ Some leaf → D leaf) → (k.choose.to_leaf ≡ false → D p.item) → position_with k positions rep p ≡ Filled e → D e.leaf
unfolding position_with position_by
filled_in D k positions rep p e leaves bare h =
    let accepts : ℤ → Bool = λ d. not (is_out k.world d) in
    let rs = replica_numbers k.numrep (rep + p.r) k.tries.leaf in
    let is = filled_by (list_any (holds_item p.item) positions) k.choose.to_leaf (eqb k.choose.level 0 && is_out k.world p.item) (leaf_below k.world accepts rs p.item) p.item e h in
    elim (cases_Bool k.choose.to_leaf) [
      | inl leafy ↦ leaves accepts rs e.leaf (is.taken leafy)
      | inr none ↦ subst D (sym (is.itself none).0) (bare none)
    ]

-- so does what a descent found
position_at_same : (R : ℤ → Type 0) (k : Choosing) (vs : List ℕ) (positions : List Position) (rep : ℕ) (found : Option Picked) → AreAlike R k.world vs → ((p : Picked) → found ≡ Some p → R p.item) → ((p : Picked) → found ≡ Some p → k.choose.level ≡ 0 → IsDevice p.item) → position_at k positions rep found ≡ position_at (other_step k vs) positions rep found
position_at_same R k vs positions rep None s h q = refl
position_at_same R k vs positions rep (Some p) s h q = position_same R k vs positions rep p s (h p refl) (q p refl)

-- so is that of what a descent found
position_at_in : (D : ℤ → Type 0) (k : Choosing) (positions : List Position) (rep : ℕ) (found : Option Picked) (e : Choice) → ((p : Picked) (accepts : ℤ → Bool) (rs : List (Bucket → ℕ)) (leaf : ℤ) → found ≡ Some p → leaf_below k.world accepts rs p.item ≡ Some leaf → D leaf) → ((p : Picked) → found ≡ Some p → k.choose.to_leaf ≡ false → D p.item) → position_at k positions rep found ≡ Filled e → D e.leaf
position_at_in D k positions rep None e leaves bare is = absurd (cc)
position_at_in D k positions rep (Some p) e leaves bare is = filled_in D k positions rep p e (λ accepts rs leaf. leaves p accepts rs leaf refl) (bare p refl) is

-- a position becomes the same in a round
position_of_same : (R : ℤ → Type 0) (k : Choosing) (vs : List ℕ) (start : Bucket) (round : ℕ) (positions : List Position) (rep : ℕ) → AreAlike R k.world vs → HasIn R k.world.buckets start → position_of k start round positions rep ≡ position_of (other_step k vs) start round positions rep
unfolding position_of
position_of_same R k vs start round positions rep s h =
    let r = replica_number k.numrep rep round in
    position_at_same R k vs positions rep (item_below k.world r k.choose.level start) s (λ p is. descent_in R k.world vs r k.choose.level start.level start p s h is) (λ p is e. device_at R k.world vs r k.choose.level start p s h is e)
    ∙ ap (position_at (other_step k vs) positions rep) (descent_same k.world vs r k.choose.level start.level start)

-- a position that is filled from the set holds nothing outside it
held_in : (R : ℤ → Type 0) (p : Position) → ((e : Choice) → p ≡ Filled e → R e.leaf) → HoldsIn R p
held_in R Open h = tt
held_in R Hole h = tt
held_in R (Filled e) h = h e refl

-- and what a position becomes in a round
position_of_in : (D : ℤ → Type 0) (k : Choosing) (start : Bucket) (round : ℕ) (positions : List Position) (rep : ℕ) → LeadsIn D k start → HoldsIn D (position_of k start round positions rep)
unfolding position_of
position_of_in D k start round positions rep s =
    let r = replica_number k.numrep rep round in
    held_in D _ (λ e is. position_at_in D k positions rep (item_below k.world r k.choose.level start) e (λ p accepts rs leaf. s.leaf r p accepts rs leaf) (λ p. s.bare r p) is)

-- a round is the same
round_same : (R : ℤ → Type 0) (k : Choosing) (vs : List ℕ) (start : Bucket) → AreAlike R k.world vs → HasIn R k.world.buckets start → after_round k start ≡ after_round (other_step k vs) start
unfolding after_round
round_same R k vs start s h = λ i positions round. fold (λ ps rep. cond (is_open (get_or ps rep Hole)) (set ps rep (position_of_same R k vs start round ps rep s h i)) ps) positions (range_with_len 0 (length positions))

-- choosing for positions gives the same under both lists
pub indep_same : (R : ℤ → Type 0) (k : Choosing) (vs : List ℕ) (start : Bucket) (count : ℕ) → AreAlike R k.world vs → HasIn R k.world.buckets start → indep k start count ≡ indep (other_step k vs) start count
unfolding indep
indep_same R k vs start count s h =
    ap (λ (f : List Position → ℕ → List Position). fold f (replicate count Open) (range_with_len 0 k.tries.total)) (round_same R k vs start s h)

-- a step writes nothing from outside the set
position_in : (R : ℤ → Type 0) (ps : List Position) (rep : ℕ) (p : Position) (undecided : Bool) → HoldsIn R p → All (HoldsIn R) ps → All (HoldsIn R) (cond undecided (set ps rep p) ps)
position_in R ps rep p true holds all = All-set (HoldsIn R) ps rep p holds all
position_in R ps rep p false holds all = all

-- nor does a round
round_in : (D : ℤ → Type 0) (k : Choosing) (start : Bucket) (positions : List Position) (round : ℕ) → LeadsIn D k start → All (HoldsIn D) positions → All (HoldsIn D) (after_round k start positions round)
unfolding after_round
round_in D k start positions round s all =
    fold_keeps (All (HoldsIn D)) (after_position k start round) (λ ps rep q. position_in D ps rep _ (is_open (get_or ps rep Hole)) (position_of_in D k start round ps rep s) q) positions (range_with_len 0 (length positions)) all

-- so the leaves of all positions are in the set
pub indep_in : (D : ℤ → Type 0) (k : Choosing) (start : Bucket) (count : ℕ) → LeadsIn D k start → All (HoldsIn D) (indep k start count)
unfolding indep
indep_in D k start count s =
    fold_keeps (All (HoldsIn D)) (after_round k start) (λ ps round q. round_in D k start ps round s q) (replicate count Open) (range_with_len 0 k.tries.total) (All-replicate (HoldsIn D) count Open tt)
