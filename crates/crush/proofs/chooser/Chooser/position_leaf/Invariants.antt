use Rattle.std.proofs.Common.{◌≡◌, ◌+◌, ◌-◌, ℕ, not}
use Rattle.buckets.specs.declared.bucket.Bucket.{Bucket}
use Rattle.crush.specs.World.{is_out}
use Rattle.crush.specs.Placed.{world}
use Rattle.crush.specs.Indep.{replica_number}
use Rattle.crush.proofs.LeafTries.{first_leaf}
use Rattle.crush.specs.Remembered.{Remembers}
use Rattle.crush.proofs.chooser.Chooser.position_leaf.Given as goal

abbrev pub invariant-loop-round : goal.invariant-loop-round
invariant-loop-round l =
    let w = world l.self.placement in
    let F : ℕ → Bucket → ℕ = replica_number l.self.numrep l.base in
    record {
      done : first_leaf w (λ d. not (is_out w d)) l.below.bucket.now F (0 + l.round) (l.self.tries.leaf - l.round) ≡ first_leaf w (λ d. not (is_out w d)) l.below.bucket.now F 0 l.self.tries.leaf;
      picks : Remembers w l.picks;
    }
