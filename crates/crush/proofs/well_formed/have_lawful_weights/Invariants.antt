use Rattle.std.proofs.Common.{take, IsTrue}
use Rattle.std.specs.List.{list_all}
use Rattle.buckets.specs.Buckets.{weights_ok}
use Rattle.crush.proofs.well_formed.have_lawful_weights.Given as goal

-- the weights of the buckets so far are lawful
abbrev pub invariant-loop-bucket : goal.invariant-loop-bucket
invariant-loop-bucket l = IsTrue (list_all (λ b. weights_ok b.kind b.items) (take l.bucket-index l.buckets))
