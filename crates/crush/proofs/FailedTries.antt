-- What failed beside some choices fails beside more.
use Rattle.std.proofs.Common.{◌≡◌, ℕ, zero, suc, ◌+◌, ◌-◌, ◌≤◌, ℤ, Bool, true, false, cond, not, ◌||◌, List, [], ◌∷◌, ◌++◌, length, Option, Some, None, inl, inr, refl, sym, ap, ◌∙◌, arith}
use Rattle.std.specs.List.{find, filter_map, list_any}
use Rattle.std.specs.Option.{option_and_then}
use Rattle.std.specs.Ordering.{int_eq}
use Rattle.std.proofs.lemmas.Bool.{cases_lt, ne_eqb}
use Rattle.std.proofs.lemmas.List.Folds.{list_any-append}
use Rattle.std.proofs.lemmas.Option.{none-some}
use Rattle.buckets.specs.declared.bucket.Bucket.{Bucket}
use Rattle.crush.specs.declared.choose.Attempt.{Attempt}
use Rattle.crush.specs.declared.choose.Attempt.TheVariants.{Abandoned, Failed, Chosen}
use Rattle.crush.specs.declared.choose.Choice.{Choice}
use Rattle.crush.specs.declared.choose.Picked.{Picked}
use Rattle.crush.specs.declared.choose.Tries.{Tries}
use Rattle.crush.specs.Choosing.{Choosing}
use Rattle.crush.specs.Descent.{item_below, device_below, leaf_below}
use Rattle.crush.specs.Firstn.{numbers_from, is_free, with_leaf, settled_by, varied_by, leaf_number, attempt_with, attempt_at, attempt_of, is_failed, replica_of, with_attempt}
use Rattle.crush.specs.Forest.{bucket_at}
use Rattle.crush.specs.Tried.{HaveFailed}
use Rattle.crush.specs.World.{World, is_out}
use Rattle.crush.proofs.ReplicaTries.{replica_failed, replica_over}

-- a test of more choices
narrower : (o a b : Bool) → not (o || (a || b)) ≡ true → not (o || a) ≡ true
narrower true a b h = h
narrower false true b h = h
narrower false false b h = refl

-- what is free beside one choice more is free without it
free_before : (w : World) (chosen : List Choice) (e : Choice) (d : ℤ) → is_free w (chosen ++ e ∷ []) d ≡ true → is_free w chosen d ≡ true
free_before w chosen e d h =
    let p = λ (c : Choice). int_eq c.leaf d in
    narrower (is_out w d) (list_any p chosen) (list_any p (e ∷ [])) (ap (λ b. not (is_out w d || b)) (sym (list_any-append p chosen (e ∷ []))) ∙ h)

-- one element of a search by a narrower test
narrowed : {X : Type 0} (a b : Bool) (x : X) (m n : Option X) → (b ≡ true → a ≡ true) → (m ≡ None → n ≡ None) → cond a (Some x) m ≡ None → cond b (Some x) n ≡ None
narrowed true b x m n h g e = absurd (none-some x (sym e))
narrowed false true x m n h g e = absurd (let no : false ≡ true = h refl in cc)
narrowed false false x m n h g e = g e

-- a narrower test finds nothing where a wider one does not
find_narrower : {X : Type 0} (p q : X → Bool) → ((x : X) → q x ≡ true → p x ≡ true) → (xs : List X) → find p xs ≡ None → find q xs ≡ None
find_narrower p q h [] e = refl
find_narrower p q h (x ∷ xs) e = narrowed (p x) (q x) x (find p xs) (find q xs) (h x) (find_narrower p q h xs) e

-- the same below a bucket, if there is one
below_narrower : (p q : ℤ → Bool) → ((d : ℤ) → q d ≡ true → p d ≡ true) → (devices : Bucket → List ℤ) (o : Option Bucket) → option_and_then (λ b. find p (devices b)) o ≡ None → option_and_then (λ b. find q (devices b)) o ≡ None
below_narrower p q h devices None e = refl
below_narrower p q h devices (Some b) e = find_narrower p q h (devices b) e

-- where there is no leaf there is none beside one choice more
leaf_none : (w : World) (chosen : List Choice) (e : Choice) (rs : List (Bucket → ℕ)) (item : ℤ) → leaf_below w (is_free w chosen) rs item ≡ None → leaf_below w (is_free w (chosen ++ e ∷ [])) rs item ≡ None
unfolding leaf_below
leaf_none w chosen e rs item none =
    below_narrower (is_free w chosen) (is_free w (chosen ++ e ∷ [])) (free_before w chosen e) (λ b. filter_map (device_below w b) rs) (bucket_at w.buckets item) none

-- a bucket fails for want of a leaf
leafless : (item : ℤ) (leaf : Option ℤ) → with_leaf item leaf ≡ Failed → leaf ≡ None
leafless item None e = refl
leafless item (Some leaf) e = absurd (let no : false ≡ true = ap is_failed e in cc)

-- an item fails where it is chosen, or has no leaf
failed : (a b t : Bool) (item : ℤ) (m n : Option ℤ) (rest : Attempt) → (a ≡ true → b ≡ true) → (m ≡ None → n ≡ None) → cond a Failed (cond t (with_leaf item m) rest) ≡ Failed → cond b Failed (cond t (with_leaf item n) rest) ≡ Failed
failed a true t item m n rest h g e = refl
failed true false t item m n rest h g e = absurd (let no : false ≡ true = h refl in cc)
failed false false true item m n rest h g e = ap (with_leaf item) (g (leafless item m e))
failed false false false item m n rest h g e = e

-- unless leaves are sought by how many are chosen, that does not matter
settled : (stable m n : ℕ) → (stable ≡ 0 → ⊥) → settled_by stable m ≡ settled_by stable n
settled stable m n h = ap (λ b. cond b m 0) (ne_eqb stable 0 h) ∙ sym (ap (λ b. cond b n 0) (ne_eqb stable 0 h))

-- so a leaf is sought from the same number on
same_number : (t : Tries) (m n r : ℕ) → (t.stable ≡ 0 → ⊥) → leaf_number t m r ≡ leaf_number t n r
unfolding leaf_number
same_number t m n r h = ap (λ s. s + varied_by t.vary r) (settled t.stable m n h)

-- an item that fails does so beside one choice more, unless leaves are sought by how many are chosen
with_failed : (k : Choosing) (chosen : List Choice) (e : Choice) (r : ℕ) (item : ℤ) → (k.tries.stable ≡ 0 → ⊥) → attempt_with k chosen r item ≡ Failed → attempt_with k (chosen ++ e ∷ []) r item ≡ Failed
unfolding attempt_with
with_failed k chosen e r item steady h =
    let p = λ (c : Choice). int_eq c.item item in
    let w = k.world in
    let more = chosen ++ e ∷ [] in
    let below = λ (n : ℕ). leaf_below w (is_free w more) (numbers_from n k.tries.leaf) item in
    let n = leaf_number k.tries (length chosen) r in
    failed (list_any p chosen) (list_any p more) k.choose.to_leaf item (leaf_below w (is_free w chosen) (numbers_from n k.tries.leaf) item) (below (leaf_number k.tries (length more) r)) _
    (λ yes. list_any-append p chosen (e ∷ []) ∙ ap (λ b. b || list_any p (e ∷ [])) yes)
    (λ none. ap below (same_number k.tries (length more) (length chosen) r steady) ∙ leaf_none w chosen e (numbers_from n k.tries.leaf) item none)
    h

-- so does a try
at_failed : (k : Choosing) (chosen : List Choice) (e : Choice) (r : ℕ) (found : Option Picked) → (k.tries.stable ≡ 0 → ⊥) → attempt_at k chosen r found ≡ Failed → attempt_at k (chosen ++ e ∷ []) r found ≡ Failed
at_failed k chosen e r None steady h = h
at_failed k chosen e r (Some p) steady h = with_failed k chosen e r p.item steady h

-- and a try from a bucket
try_failed : (k : Choosing) (chosen : List Choice) (e : Choice) (start : Bucket) (r : ℕ) → (k.tries.stable ≡ 0 → ⊥) → attempt_of k chosen start r ≡ Failed → attempt_of k (chosen ++ e ∷ []) start r ≡ Failed
unfolding attempt_of
try_failed k chosen e start r steady h = at_failed k chosen e r (item_below k.world (λ _. r) k.choose.level start) steady h

-- the tries that failed fail beside one attempt more: of those that are still known, which are none where leaves are
-- sought by how many are chosen
pub fails_after : (k : Choosing) (chosen : List Choice) (start : Bucket) (a : Attempt) (from known still : ℕ) → HaveFailed k chosen start from (from + known) → still ≤ known → (k.tries.stable ≡ 0 → still ≡ 0) → HaveFailed k (with_attempt chosen a) start from (from + still)
unfolding HaveFailed
fails_after k chosen start Abandoned from known still h few none = λ r past below. h r past (omega arith)
fails_after k chosen start Failed from known still h few none = λ r past below. h r past (omega arith)
fails_after k chosen start (Chosen e) from known still h few none = λ r past below. try_failed k chosen e start r (λ no. let empty = none no in absurd (omega arith)) (h r past (omega arith))

-- one try more that fails
pub fails_more : (k : Choosing) (chosen : List Choice) (start : Bucket) (rep f : ℕ) → HaveFailed k chosen start rep (rep + f) → attempt_of k chosen start (rep + f) ≡ Failed → HaveFailed k chosen start rep (rep + (f + 1))
unfolding HaveFailed
fails_more k chosen start rep f h e r past below = elim (cases_lt r (rep + f)) [
  | inl before ↦ h r past before
  | inr on ↦ let same : r ≡ rep + f = omega arith in ap (attempt_of k chosen start) same ∙ e
]

-- no try has failed
pub fails_none : (k : Choosing) (chosen : List Choice) (start : Bucket) (from end : ℕ) → end ≤ from → HaveFailed k chosen start from end
unfolding HaveFailed
fails_none k chosen start from end none r past below = absurd (omega arith)

-- of the tries of a replica that failed, all but the first are tries of the next
pub fails_next : (k : Choosing) (chosen : List Choice) (start : Bucket) (rep f g : ℕ) → HaveFailed k chosen start rep (rep + f) → g ≤ f - 1 → HaveFailed k chosen start (rep + 1) (rep + 1 + g)
unfolding HaveFailed
fails_next k chosen start rep f g h few r past below = h r (omega arith) (omega arith)

-- the tries that fail can be left out
pub fails_skipped : (k : Choosing) (n rep f : ℕ) (chosen : List Choice) (start : Bucket) → HaveFailed k chosen start rep (rep + f) → replica_of k chosen start (n - f) (rep + f) ≡ replica_of k chosen start n rep
unfolding HaveFailed
fails_skipped k n rep zero chosen start h =
    let all : n - zero ≡ n = omega arith in
    let here : rep + zero ≡ rep = omega arith in
    ap (λ m. replica_of k chosen start m (rep + zero)) all ∙ ap (replica_of k chosen start n) here
fails_skipped k n rep (suc f) chosen start h =
    let one : suc f ≡ f + 1 = omega arith in
    let more : replica_of k chosen start (n - f) (rep + f) ≡ replica_of k chosen start (n - (f + 1)) (rep + (f + 1)) = elim (cases_lt f n) [
      | inl within ↦ replica_failed k n rep f chosen start within (sym (h (rep + f) (omega arith) (omega arith)))
      | inr past ↦ replica_over k n rep f chosen start past ∙ sym (replica_over k n rep (f + 1) chosen start (omega arith))
    ] in
    ap (λ m. replica_of k chosen start (n - m) (rep + m)) one
    ∙ sym more
    ∙ fails_skipped k n rep f chosen start (λ r past below. h r past (omega arith))
