-- The segment that a choose step gives below one bucket.
use Rattle.std.proofs.Common.{◌≡◌, ℕ, ◌-◌, List, ◌++◌, map, length, min, Option, Some, ℤ, sym, ap, ◌∙◌}
use Rattle.buckets.specs.declared.bucket.Bucket.{Bucket}
use Rattle.crush.specs.declared.choose.Choice.{Choice}
use Rattle.crush.specs.declared.choose.Position.{Position}
use Rattle.crush.specs.declared.step.Mode.TheVariants.{Firstn, Indep}
use Rattle.crush.specs.Choosing.{Choosing}
use Rattle.crush.specs.Firstn.{firstn}
use Rattle.crush.specs.Indep.{indep, leaf_at}
use Rattle.crush.specs.Run.{segment_by, segment_of}

-- the leaves of what was packed are the segment of a step that packs
pub packed_is : (k : Choosing) (start : Bucket) (size room : ℕ) (found : List (Option ℤ)) (items : List Choice) → k.choose.mode ≡ Firstn → room ≡ size - length found → items ≡ firstn k start room → found ++ map (λ (e : Choice). Some e.leaf) items ≡ found ++ segment_of k start (size - length found)
unfolding segment_of
packed_is k start size room found items packed r e =
    ap (λ (ys : List Choice). found ++ map (λ (e : Choice). Some e.leaf) ys) (e ∙ ap (firstn k start) r)
    ∙ sym (ap (λ m. found ++ segment_by m k start (size - length found)) packed)

-- the leaves at the positions are the segment of a step that keeps them
pub positions_is : (k : Choosing) (start : Bucket) (size count : ℕ) (found : List (Option ℤ)) (items : List Position) → k.choose.mode ≡ Indep → count ≡ min k.numrep (size - length found) → items ≡ indep k start count → found ++ map leaf_at items ≡ found ++ segment_of k start (size - length found)
unfolding segment_of
positions_is k start size count found items kept r e =
    ap (λ (ys : List Position). found ++ map leaf_at ys) (e ∙ ap (indep k start) r)
    ∙ sym (ap (λ m. found ++ segment_by m k start (size - length found)) kept)
