-- The order of a forest's buckets: by id, from -1 downwards.
use Rattle.std.specs.Prelude.{int_lt, List, [], ◌∷◌, if◌then◌else◌}
use Rattle.buckets.specs.declared.bucket.Bucket.{Bucket}

-- a bucket put before the first that has a lower id
abbrev pub put_by_id : Bucket → List Bucket → List Bucket
put_by_id b [] = b ∷ []
put_by_id b (c ∷ rest) = if int_lt c.id b.id then b ∷ c ∷ rest else c ∷ put_by_id b rest

-- the buckets by id
abbrev pub by_id : List Bucket → List Bucket
by_id [] = []
by_id (b ∷ rest) = put_by_id b (by_id rest)
