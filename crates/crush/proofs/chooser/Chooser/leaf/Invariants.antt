use Rattle.std.proofs.Common.{◌≡◌, ◌+◌, ◌-◌, ℕ}
use Rattle.buckets.specs.declared.bucket.Bucket.{Bucket}
use Rattle.crush.specs.Placed.{world}
use Rattle.crush.specs.Firstn.{is_free}
use Rattle.crush.proofs.LeafTries.{first_leaf}
use Rattle.crush.specs.Remembered.{Remembers}
use Rattle.crush.proofs.chooser.Chooser.leaf.Given as goal

abbrev pub invariant-loop-failures : goal.invariant-loop-failures
invariant-loop-failures l =
    let w = world l.self.placement in
    let F : ℕ → Bucket → ℕ = λ r b. r in
    record {
      done : first_leaf w (is_free w l.chosen) l.below.bucket.now F (l.r + l.failures) (l.self.tries.leaf - l.failures) ≡ first_leaf w (is_free w l.chosen) l.below.bucket.now F l.r l.self.tries.leaf;
      picks : Remembers w l.picks;
    }
