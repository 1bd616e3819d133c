-- The descent from a bucket to an item of a type (Ceph, mapper.c, the inner loops of crush_choose_firstn and
-- crush_choose_indep).
use Rattle.std.specs.Prelude.{ℕ, zero, suc, ℤ, Bool, List, ◌==◌, Option, Some, None, option_and_then, option_map, if◌then◌else◌}
use Rattle.std.specs.List.{find, filter_map}
use Rattle.buckets.specs.declared.bucket.Bucket.{Bucket}
use Rattle.crush.specs.declared.choose.Picked.{Picked}
use Rattle.crush.specs.Forest.{bucket_at, level_of}
use Rattle.buckets.specs.Pick.{pick_of}
use Rattle.crush.specs.World.{World}

-- the item of the wanted type to which the picks lead from bucket b, and the replica number with which it was picked,
-- where `r b` is that number at bucket b: none where the picks lead to a device of another type. Types fall, so n need
-- be no more than b's type
unfoldable pub descent : World → (Bucket → ℕ) → ℕ → ℕ → Bucket → Option Picked
descent w r wanted zero b = None
descent w r wanted (suc n) b =
    let item = pick_of b w.x (r b) in
    if level_of w.buckets item == wanted then Some (record { item = item; r = r b })
    else option_and_then (λ below. descent w r wanted n below) (bucket_at w.buckets item)

-- the item of the wanted type below a bucket
abbrev pub item_below : World → (Bucket → ℕ) → ℕ → Bucket → Option Picked
item_below w r wanted b = descent w r wanted b.level b

-- the device below a bucket
abbrev pub device_below : World → Bucket → (Bucket → ℕ) → Option ℤ
device_below w b r = option_map (λ p. p.item) (item_below w r 0 b)

-- the leaf below a chosen bucket: of the devices that are reached with the given replica numbers, in this order, the
-- first that is acceptable
unfoldable pub leaf_below : World → (ℤ → Bool) → List (Bucket → ℕ) → ℤ → Option ℤ
leaf_below w accepts rs item =
    option_and_then (λ b. find accepts (filter_map (device_below w b) rs)) (bucket_at w.buckets item)
