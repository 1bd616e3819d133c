-- Which buckets are in use: those that rules take, and those below them. Shadows of buckets, and trees that no rule
-- takes, are not.
use Rattle.std.specs.Prelude.{ℕ, zero, suc, ℤ, Bool, ◌&&◌, ◌||◌, List, map}
use Rattle.std.specs.Ordering.{int_eq}
use Rattle.std.specs.List.{list_any, filter}
use Rattle.buckets.specs.Limits.{max_level}
use Rattle.cephmap.specs.declared.map.CephMap.{CephMap}
use Rattle.mapparts.specs.declared.parts.BucketPart.{BucketPart}
use Rattle.mapparts.specs.declared.parts.ItemPart.{ItemPart}
use Rattle.cephimport.specs.Uses.{is_taken}

-- an id is among some
abbrev pub is_one_of : List ℤ → ℤ → Bool
is_one_of ids id = list_any (λ own. int_eq own id) ids

-- a bucket has an item
abbrev pub lists_item : BucketPart → ℤ → Bool
lists_item b id = list_any (λ i. int_eq i.id id) b.items

-- an item stands in a bucket that is among some
abbrev pub stands_below : List BucketPart → List ℤ → ℤ → Bool
stands_below all ids id = list_any (λ b. lists_item b id && is_one_of ids b.id) all

-- a bucket is among some, or stands in one of them
abbrev pub is_reached : List BucketPart → List ℤ → BucketPart → Bool
is_reached all ids b = is_one_of ids b.id || stands_below all ids b.id

-- the buckets that are among some, or stand in one of them
unfoldable pub next_round : List BucketPart → List ℤ → List ℤ
next_round all ids = map (λ b. b.id) (filter (is_reached all ids) all)

-- the same, so many times
unfoldable pub reach : ℕ → List BucketPart → List ℤ → List ℤ
reach zero all ids = ids
reach (suc n) all ids = reach n all (next_round all ids)

-- the buckets that the rules in use take
unfoldable pub roots : CephMap → List BucketPart → List ℤ
roots m all = map (λ b. b.id) (filter (λ b. is_taken m b.id) all)

-- the buckets in use: as deep below what rules take as there are types, since types fall
unfoldable pub in_use : CephMap → List BucketPart → List ℤ
in_use m all = reach max_level all (roots m all)

-- the buckets that are in use
unfoldable pub kept : CephMap → List BucketPart → List BucketPart
kept m all = filter (λ b. is_one_of (in_use m all) b.id) all
