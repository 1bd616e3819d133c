-- What the kinds of buckets differ in, beside what they pick.
use Rattle.std.specs.Prelude.{ℕ, ◌+◌, ◌%◌, ◌==◌, if◌then◌else◌}
use Rattle.buckets.specs.declared.bucket.BucketKind.{BucketKind}
use Rattle.buckets.specs.declared.bucket.BucketKind.TheVariants.{Uniform, List as InList, Tree as InTree, Straw2}
use Rattle.buckets.specs.Limits.{max_items, max_straws}

-- the most items of a bucket of a kind
abbrev pub most_items : BucketKind → ℕ
most_items Uniform = max_items
most_items InList = max_items
most_items InTree = max_items
most_items Straw2 = max_straws

-- how far the replica number goes on each round of a step that keeps positions: numrep, and one more inside a uniform
-- bucket whose size numrep divides, so that the rounds meet each place (Ceph, mapper.c, crush_choose_indep)
abbrev pub stride_by : BucketKind → ℕ → ℕ → ℕ
stride_by Uniform numrep size = if size % numrep == 0 then numrep + 1 else numrep
stride_by InList numrep size = numrep
stride_by InTree numrep size = numrep
stride_by Straw2 numrep size = numrep
