-- Choosing items that are packed (CRUSH paper, section 3.2; Ceph, mapper.c, crush_choose_firstn).
use Rattle.std.specs.Prelude.{ℕ, ◌+◌, ◌-◌, ◌/◌, ◌^◌, ℤ, Bool, true, false, not, ◌&&◌, ◌||◌, List, [], ◌∷◌, ◌++◌, length, map, nat_lt, ◌==◌, Option, Some, None, unwrap_or, if◌then◌else◌}
use Rattle.std.specs.List.{range_with_len, find, fold, list_any}
use Rattle.std.specs.Ordering.{int_eq}
use Rattle.buckets.specs.declared.bucket.Bucket.{Bucket}
use Rattle.crush.specs.declared.choose.Attempt.{Attempt}
use Rattle.crush.specs.declared.choose.Attempt.TheVariants.{Abandoned, Failed, Chosen}
use Rattle.crush.specs.declared.choose.Choice.{Choice}
use Rattle.crush.specs.declared.choose.Picked.{Picked}
use Rattle.crush.specs.declared.choose.Tries.{Tries}
use Rattle.crush.specs.Choosing.{Choosing}
use Rattle.crush.specs.World.{World, is_out}
use Rattle.crush.specs.Descent.{item_below, leaf_below}

-- a descent with one replica number throughout, for each of n numbers from r on
abbrev pub numbers_from : ℕ → ℕ → List (Bucket → ℕ)
numbers_from r n = map (λ r' _. r') (range_with_len r n)

-- whether a device is in, and no leaf yet
abbrev pub is_free : World → List Choice → ℤ → Bool
is_free w chosen device = not (is_out w device || list_any (λ e. int_eq e.leaf device) chosen)

-- a bucket is chosen with a leaf, and fails without one
abbrev pub with_leaf : ℤ → Option ℤ → Attempt
with_leaf item None = Failed
with_leaf item (Some leaf) = Chosen (record { item = item; leaf = leaf })

-- what the replica number of a bucket adds to that of its leaf (chooseleaf_vary_r): nothing, the number itself, or the
-- number halved so often
abbrev pub varied_by : ℕ → ℕ → ℕ
varied_by vary r = if vary == 0 then 0 else r / 2 ^ (vary - 1)

-- what the number of items that are chosen already adds to it (chooseleaf_stable): all of it, or nothing
abbrev pub settled_by : ℕ → ℕ → ℕ
settled_by stable count = if stable == 0 then count else 0

-- the replica number from which on the leaf below a bucket is sought that was picked with replica number r, where so
-- many items are chosen already
unfoldable pub leaf_number : Tries → ℕ → ℕ → ℕ
leaf_number t count r = settled_by t.stable count + varied_by t.vary r

-- what an item comes to beside those chosen so far: one that is chosen already, a device that is out, and a bucket
-- without an acceptable leaf are failures
unfoldable pub attempt_with : Choosing → List Choice → ℕ → ℤ → Attempt
attempt_with k chosen r item =
    if list_any (λ e. int_eq e.item item) chosen then Failed
    else if k.choose.to_leaf
    then with_leaf item (leaf_below k.world (is_free k.world chosen)
    (numbers_from (leaf_number k.tries (length chosen) r) k.tries.leaf) item)
    else if k.choose.level == 0 && is_out k.world item then Failed
    else Chosen (record { item = item; leaf = item })

-- a device where another type is wanted abandons the replica
abbrev pub attempt_at : Choosing → List Choice → ℕ → Option Picked → Attempt
attempt_at k chosen r None = Abandoned
attempt_at k chosen r (Some p) = attempt_with k chosen r p.item

-- what a try with replica number r comes to
unfoldable pub attempt_of : Choosing → List Choice → Bucket → ℕ → Attempt
attempt_of k chosen start r = attempt_at k chosen r (item_below k.world (λ _. r) k.choose.level start)

-- whether another try may do better
abbrev pub is_failed : Attempt → Bool
is_failed Abandoned = false
is_failed Failed = true
is_failed (Chosen e) = false

-- a replica: the first of n tries that is no failure, from replica number r on
unfoldable pub replica_of : Choosing → List Choice → Bucket → ℕ → ℕ → Attempt
replica_of k chosen start n r =
    unwrap_or (find (λ a. not (is_failed a)) (map (attempt_of k chosen start) (range_with_len r n))) Failed

-- a chosen item is appended, anything else skips the replica
abbrev pub with_attempt : List Choice → Attempt → List Choice
with_attempt chosen Abandoned = chosen
with_attempt chosen Failed = chosen
with_attempt chosen (Chosen e) = chosen ++ e ∷ []

-- the choices after one replica more, while there are fewer than `limit`
abbrev pub after_replica : Choosing → Bucket → ℕ → List Choice → ℕ → List Choice
after_replica k start limit chosen rep =
    if nat_lt (length chosen) limit then with_attempt chosen (replica_of k chosen start k.tries.total rep) else chosen

-- the choices below a bucket for all replicas, in order, while there are fewer than `limit`
unfoldable pub firstn : Choosing → Bucket → ℕ → List Choice
firstn k start limit = fold (after_replica k start limit) [] (range_with_len 0 k.numrep)
