-- The tries of one replica, and the replicas one after another.
use Rattle.std.proofs.Common.{◌≡◌, ℕ, zero, suc, ◌+◌, ◌-◌, ◌<◌, ◌≤◌, not, cond, List, [], ◌∷◌, map, length, length-append, Some, true, refl, sym, ap, ◌∙◌, arith}
use Rattle.std.specs.List.{find, range_with_len}
use Rattle.std.specs.Prelude.{unwrap_or}
use Rattle.std.proofs.lemmas.Bool.{lt-ltb, le-ltb}
use Rattle.buckets.specs.declared.bucket.Bucket.{Bucket}
use Rattle.crush.specs.declared.choose.Attempt.{Attempt}
use Rattle.crush.specs.declared.choose.Attempt.TheVariants.{Abandoned, Failed, Chosen}
use Rattle.crush.specs.declared.choose.Choice.{Choice}
use Rattle.crush.specs.Choosing.{Choosing}
use Rattle.crush.specs.Firstn.{attempt_of, is_failed, replica_of, with_attempt, after_replica}

-- an attempt that is no failure passes the test
not_failed : (a : Attempt) → (a ≡ Failed → ⊥) → not (is_failed a) ≡ true
not_failed Abandoned h = refl
not_failed Failed h = absurd (h refl)
not_failed (Chosen e) h = refl

-- one more try
opened : (k : Choosing) (n r : ℕ) (chosen : List Choice) (start : Bucket) (a : Attempt) → a ≡ attempt_of k chosen start r → replica_of k chosen start (suc n) r ≡ unwrap_or (cond (not (is_failed a)) (Some a) (find (λ a. not (is_failed a)) (map (attempt_of k chosen start) (range_with_len (r + 1) n)))) Failed
unfolding replica_of
opened k n r chosen start a e = ap (λ (a : Attempt). unwrap_or (cond (not (is_failed a)) (Some a) (find (λ a. not (is_failed a)) (map (attempt_of k chosen start) (range_with_len (r + 1) n)))) Failed) (sym e)

-- the loop ends at the first try that is no failure
pub replica_decided : (k : Choosing) (n rep f : ℕ) (chosen : List Choice) (start : Bucket) (a : Attempt) → f < n → a ≡ attempt_of k chosen start (rep + f) → (a ≡ Failed → ⊥) → replica_of k chosen start (n - f) (rep + f) ≡ a
replica_decided k n rep f chosen start a lt e h =
    let m = n - (f + 1) in
    let more : n - f ≡ suc m = omega arith in
    ap (λ m. replica_of k chosen start m (rep + f)) more
    ∙ opened k m (rep + f) chosen start a e
    ∙ ap (λ b. unwrap_or (cond b (Some a) (find (λ a. not (is_failed a)) (map (attempt_of k chosen start) (range_with_len ((rep + f) + 1) m)))) Failed) (not_failed a h)

-- the loop goes on after a failure
pub replica_failed : (k : Choosing) (n rep f : ℕ) (chosen : List Choice) (start : Bucket) → f < n → Failed ≡ attempt_of k chosen start (rep + f) → replica_of k chosen start (n - f) (rep + f) ≡ replica_of k chosen start (n - (f + 1)) (rep + (f + 1))
unfolding replica_of
replica_failed k n rep f chosen start lt e =
    let m = n - (f + 1) in
    let more : n - f ≡ suc m = omega arith in
    let next : (rep + f) + 1 ≡ rep + (f + 1) = omega arith in
    ap (λ m. replica_of k chosen start m (rep + f)) more
    ∙ opened k m (rep + f) chosen start Failed e
    ∙ ap (replica_of k chosen start m) next

-- the loop ends where no try is left
pub replica_over : (k : Choosing) (n rep f : ℕ) (chosen : List Choice) (start : Bucket) → n ≤ f → replica_of k chosen start (n - f) (rep + f) ≡ Failed
unfolding replica_of
replica_over k n rep f chosen start past = let none : n - f ≡ zero = omega arith in ap (λ m. replica_of k chosen start m (rep + f)) none

-- an attempt without an item adds nothing
pub with_other : (chosen : List Choice) (a : Attempt) → ((e : Choice) → a ≡ Chosen e → ⊥) → with_attempt chosen a ≡ chosen
with_other chosen Abandoned h = refl
with_other chosen Failed h = refl
with_other chosen (Chosen e) h = absurd (h e refl)

-- an attempt adds one item at most
pub with_one : (chosen : List Choice) (a : Attempt) → length (with_attempt chosen a) ≤ length chosen + 1
with_one chosen Abandoned = omega arith
with_one chosen Failed = omega arith
with_one chosen (Chosen e) = omega (arith, length-append chosen (e ∷ []))

-- what the loop over the replicas does for one of them
pub replica_taken : (k : Choosing) (start : Bucket) (limit : ℕ) (chosen seen new : List Choice) (a : Attempt) (rep : ℕ) → length chosen < limit → seen ≡ chosen → a ≡ replica_of k seen start k.tries.total rep → new ≡ with_attempt chosen a → new ≡ after_replica k start limit chosen rep
replica_taken k start limit chosen seen new a rep room is e n =
    n
    ∙ ap (with_attempt chosen) (e ∙ ap (λ (ys : List Choice). replica_of k ys start k.tries.total rep) is)
    ∙ sym (ap (λ b. cond b (with_attempt chosen (replica_of k chosen start k.tries.total rep)) chosen) (lt-ltb _ _ room))

-- where the limit is reached, further replicas change nothing
pub replica_full : (k : Choosing) (start : Bucket) (limit : ℕ) (chosen : List Choice) (rep : ℕ) → limit ≤ length chosen → after_replica k start limit chosen rep ≡ chosen
replica_full k start limit chosen rep full = ap (λ b. cond b (with_attempt chosen (replica_of k chosen start k.tries.total rep)) chosen) (le-ltb _ _ full)
