-- What a placement goes by, and which devices are out (Ceph, mapper.c, is_out).
use Rattle.std.specs.Prelude.{ℕ, ◌%◌, ℤ, Bool, ◌&&◌, List, slice_index, nat_lt, nat_le}
use Rattle.rjenkins.specs.Jenkins.{hash2_of}
use Rattle.buckets.specs.declared.bucket.Bucket.{Bucket}
use Rattle.buckets.specs.Items.{word}
use Rattle.crush.specs.Limits.{full_weight}

-- the buckets, the reweights of the devices by number, and the input
pub record World : Type 0 where
  pub buckets : List Bucket
  pub weights : List ℕ
  pub x : ℕ

-- the world of these
abbrev pub world_of : List Bucket → List ℕ → ℕ → World
world_of buckets weights x = record { buckets = buckets; weights = weights; x = x }

-- a device is in at its full reweight and above, out at 0, and else in exactly where its hash is below the reweight; a
-- device without a reweight has 0
unfoldable pub is_out : World → ℤ → Bool
is_out w device =
    let weight = slice_index w.weights (word device) in
    nat_lt weight full_weight && nat_le weight (hash2_of w.x (word device) % full_weight)
