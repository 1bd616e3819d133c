-- what packing chooses has no item twice, no leaf twice and nothing that is out
use Rattle.std.proofs.Common.{◌≡◌, ◌≢◌, ℕ, suc, zero, ◌+◌, ◌<◌, ℤ, Bool, true, false, not, cond, ◌&&◌, ltb, eqb, List, [], ◌∷◌, ◌++◌, length, map, get_or, Option, Some, None, inl, inr, sym, ap, refl, ◌∙◌, arith}
use Rattle.std.specs.List.{All, find, range_with_len, list_any}
use Rattle.std.specs.Ordering.{int_eq}
use Rattle.std.proofs.lemmas.Bool.{cases_Bool}
use Rattle.std.proofs.lemmas.List.Elements.{All-push}
use Rattle.std.proofs.lemmas.List.Quantifiers.{all_pairs_push}
use Rattle.buckets.specs.declared.bucket.Bucket.{Bucket}
use Rattle.crush.specs.declared.choose.Attempt.{Attempt}
use Rattle.crush.specs.declared.choose.Attempt.TheVariants.{Abandoned, Failed, Chosen}
use Rattle.crush.specs.declared.choose.Choice.{Choice}
use Rattle.crush.specs.declared.choose.Picked.{Picked}
use Rattle.crush.specs.Choosing.{Choosing}
use Rattle.crush.specs.World.{is_out}
use Rattle.crush.specs.Descent.{leaf_below, item_below}
use Rattle.crush.specs.Firstn.{numbers_from, is_free, leaf_number, attempt_with, attempt_at, attempt_of, is_failed, replica_of, with_attempt, after_replica, firstn}
use Rattle.crush_laws.specs.Choices.{takes_devices, IsSegment, FirstnIsSegment}
use Rattle.crush.proofs.Folds.{fold_keeps}
use Rattle.crush.proofs.ItemTries.{attempt_by, chosen_by, first_of}
use Rattle.crush_laws.proofs.LeafSearches.{leaf_accepted, neither, other_holds, no_device, other_key}

-- a choice that may join those chosen so far
record IsFresh (k : Choosing) (chosen : List Choice) (e : Choice) : Type 0 where
  item : list_any (λ o. int_eq o.item e.item) chosen ≡ false
  leaf : k.choose.to_leaf ≡ true → list_any (λ o. int_eq o.leaf e.leaf) chosen ≡ false
  itself : k.choose.to_leaf ≡ false → e.leaf ≡ e.item
  inside : takes_devices k.choose ≡ true → is_out k.world e.leaf ≡ false

-- an item that is chosen may join
fresh_with : (k : Choosing) (chosen : List Choice) (r : ℕ) (item : ℤ) (e : Choice) → attempt_with k chosen r item ≡ Chosen e → IsFresh k chosen e
unfolding attempt_with attempt_by
fresh_with k chosen r item e h =
    let found = leaf_below k.world (is_free k.world chosen) (numbers_from (leaf_number k.tries (length chosen) r) k.tries.leaf) item in
    let is = chosen_by (list_any (λ o. int_eq o.item item) chosen) k.choose.to_leaf (eqb k.choose.level 0 && is_out k.world item) found item e h in
    let free : k.choose.to_leaf ≡ true → (is_out k.world e.leaf ≡ false) × (list_any (λ o. int_eq o.leaf e.leaf) chosen ≡ false) =
    λ leafy. neither _ _ (leaf_accepted k.world (is_free k.world chosen) (numbers_from (leaf_number k.tries (length chosen) r) k.tries.leaf) item e.leaf (is.taken leafy)) in
    record {
      item = ap (λ i. list_any (λ (o : Choice). int_eq o.item i) chosen) (sym is.item_is) ∙ is.apart;
      leaf = λ leafy. (free leafy).1;
      itself = λ bare. (is.itself bare).0;
      inside = λ takes. elim (cases_Bool k.choose.to_leaf) [
        | inl leafy ↦ (free leafy).0
        | inr bare ↦ ap (is_out k.world) ((is.itself bare).0 ∙ sym is.item_is) ∙ no_device _ _ (is.itself bare).1 (other_holds _ _ takes bare)
      ];
    }

-- so may what a descent found
fresh_at : (k : Choosing) (chosen : List Choice) (r : ℕ) (found : Option Picked) (e : Choice) → attempt_at k chosen r found ≡ Chosen e → IsFresh k chosen e
fresh_at k chosen r None e h = absurd (cc)
fresh_at k chosen r (Some p) e h = fresh_with k chosen r p.item e h

-- and what a try chose
fresh_of : (k : Choosing) (chosen : List Choice) (start : Bucket) (r : ℕ) (e : Choice) → attempt_of k chosen start r ≡ Chosen e → IsFresh k chosen e
unfolding attempt_of
fresh_of k chosen start r e h = fresh_at k chosen r (item_below k.world (λ _. r) k.choose.level start) e h

-- what a replica chooses is fresh
fresh_replica : (k : Choosing) (chosen : List Choice) (start : Bucket) (n r : ℕ) (e : Choice) → replica_of k chosen start n r ≡ Chosen e → IsFresh k chosen e
unfolding replica_of
fresh_replica k chosen start zero r e h = absurd (cc)
fresh_replica k chosen start (suc n) r e h = elim (first_of (attempt_of k chosen start r) (find (λ a. not (is_failed a)) (map (attempt_of k chosen start) (range_with_len (r + 1) n))) e h) [
  | inl here ↦ fresh_of k chosen start r e here
  | inr later ↦ fresh_replica k chosen start n (r + 1) e later
]

-- a segment whose leaves are the items where the step takes no leaves
record IsPacked (k : Choosing) (chosen : List Choice) : Type 0 where
  segment : IsSegment k chosen
  themselves : k.choose.to_leaf ≡ false → All (λ e. e.leaf ≡ e.item) chosen

-- a choice that may join keeps the segment
packed_push : (k : Choosing) (chosen : List Choice) (e : Choice) → IsPacked k chosen → IsFresh k chosen e → IsPacked k (chosen ++ e ∷ [])
packed_push k chosen e s f =
    let items : (i : ℕ) (d : Choice) → i < length chosen → (get_or chosen i d).item ≢ e.item = other_key (λ (o : Choice). o.item) chosen e.item f.item in
    let leaves : (i : ℕ) (d : Choice) → i < length chosen → (get_or chosen i d).leaf ≢ e.leaf =
    λ i d within. elim (cases_Bool k.choose.to_leaf) [
      | inl leafy ↦ other_key (λ (o : Choice). o.leaf) chosen e.leaf (f.leaf leafy) i d within
      | inr bare ↦ λ same. items i d within (sym (s.themselves bare i d within) ∙ same ∙ f.itself bare)
    ] in
    record {
      segment = record {
        items_once = all_pairs_push (λ (a b : Choice). a.item ≢ b.item) chosen e s.segment.items_once items;
        leaves_once = all_pairs_push (λ (a b : Choice). a.leaf ≢ b.leaf) chosen e s.segment.leaves_once leaves;
        none_out = λ takes. All-push (λ (o : Choice). is_out k.world o.leaf ≡ false) chosen e (s.segment.none_out takes) (f.inside takes);
      };
      themselves = λ no. All-push (λ (o : Choice). o.leaf ≡ o.item) chosen e (s.themselves no) (f.itself no);
    }

-- so does what an attempt adds
packed_with : (k : Choosing) (chosen : List Choice) (a : Attempt) → IsPacked k chosen → ((e : Choice) → a ≡ Chosen e → IsFresh k chosen e) → IsPacked k (with_attempt chosen a)
packed_with k chosen Abandoned s f = s
packed_with k chosen Failed s f = s
packed_with k chosen (Chosen e) s f = packed_push k chosen e s (f e refl)

-- two segments, and a test between them
either_packed : (k : Choosing) (goes : Bool) (xs ys : List Choice) → IsPacked k xs → IsPacked k ys → IsPacked k (cond goes xs ys)
either_packed k true xs ys p q = p
either_packed k false xs ys p q = q

-- one replica more
packed_replica : (k : Choosing) (start : Bucket) (limit : ℕ) (chosen : List Choice) (rep : ℕ) → IsPacked k chosen → IsPacked k (after_replica k start limit chosen rep)
packed_replica k start limit chosen rep s =
    let a = replica_of k chosen start k.tries.total rep in
    either_packed k (ltb (length chosen) limit) _ chosen (packed_with k chosen a s (fresh_replica k chosen start k.tries.total rep)) s

-- no choice is a segment
packed_none : (k : Choosing) → IsPacked k []
packed_none k = record {
  segment = record { items_once = λ i j d lt within. absurd (omega arith); leaves_once = λ i j d lt within. absurd (omega arith); none_out = λ takes. λ i d within. absurd (omega arith) };
  themselves = λ bare. λ i d within. absurd (omega arith);
}

-- so what packing chooses is a segment
pub firstn_is_segment : FirstnIsSegment
unfolding firstn
firstn_is_segment k start limit =
    (fold_keeps (IsPacked k) (after_replica k start limit) (λ chosen rep s. packed_replica k start limit chosen rep s) [] (range_with_len 0 k.numrep) (packed_none k)).segment
