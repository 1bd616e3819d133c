-- The tries of a replica that are known to fail.
use Rattle.std.specs.Prelude.{◌≡◌, ℕ, ◌<◌, ◌≤◌, List}
use Rattle.buckets.specs.declared.bucket.Bucket.{Bucket}
use Rattle.crush.specs.declared.choose.Attempt.TheVariants.{Failed}
use Rattle.crush.specs.declared.choose.Choice.{Choice}
use Rattle.crush.specs.Choosing.{Choosing}
use Rattle.crush.specs.Firstn.{attempt_of}

-- the tries with the replica numbers from `from` up to below `end` fail
unfoldable pub HaveFailed : Choosing → List Choice → Bucket → ℕ → ℕ → Type 0
HaveFailed k chosen start from end = (r : ℕ) → from ≤ r → r < end → attempt_of k chosen start r ≡ Failed
