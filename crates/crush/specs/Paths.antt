-- What stands above what in a forest: chains of buckets, each an item of the one before (CRUSH paper, SC 2006,
-- section 3.3).
use Rattle.std.specs.Prelude.{◌≡◌, ◌==◌, ℕ, zero, suc, Bool, false, ◌&&◌, ℤ, List, [], ◌∷◌, map, Option, IsTrue}
use Rattle.std.specs.List.{list_any, find, flat_map}
use Rattle.std.specs.Option.{option_map, option_map_or}
use Rattle.std.specs.Ordering.{int_eq}
use Rattle.buckets.specs.declared.bucket.Bucket.{Bucket}
use Rattle.crush.specs.declared.step.Step.{Step}
use Rattle.crush.specs.declared.step.Step.TheVariants as step
use Rattle.crush.specs.Forest.{bucket_at, level_of}
use Rattle.buckets.specs.Limits.{max_level}

-- whether a bucket has an item
abbrev pub has_item : ℤ → Bucket → Bool
has_item item b = list_any (λ i. int_eq i.id item) b.items

-- whether an item is one of the bucket of an id
abbrev pub is_item_of : List Bucket → ℤ → ℤ → Bool
is_item_of buckets bucket item = option_map_or (has_item item) (bucket_at buckets bucket) false

-- whether a path leads from a bucket down to an item, through the buckets between
abbrev pub is_path : List Bucket → ℤ → List ℤ → ℤ → Bool
is_path buckets top [] item = is_item_of buckets top item
is_path buckets top (next ∷ between) item = is_item_of buckets top next && is_path buckets next between item

-- all lists of at most n ids of buckets
unfoldable pub chains : List Bucket → ℕ → List (List ℤ)
chains buckets zero = [] ∷ []
chains buckets (suc n) = [] ∷ flat_map (λ b. map (λ rest. b.id ∷ rest) (chains buckets n)) buckets

-- whether some path leads from a bucket down to an item; types fall along it, so that it has no more buckets than there
-- are types
abbrev pub is_above : List Bucket → ℤ → ℤ → Bool
is_above buckets top item = list_any (λ between. is_path buckets top between item) (chains buckets max_level)

-- a bucket of a type above an item
pub record IsAncestor (buckets : List Bucket) (item : ℤ) (level : ℕ) (bucket : ℤ) : Type 0 where
  pub above : IsTrue (is_above buckets bucket item)
  pub of_level : level_of buckets bucket ≡ level

-- whether a bucket is of a type, and above an item
abbrev pub is_ancestor : List Bucket → ℤ → ℕ → Bucket → Bool
is_ancestor buckets item level b = (level_of buckets b.id == level) && is_above buckets b.id item

-- the bucket of a type above an item, if there is one
unfoldable pub ancestor_of : List Bucket → ℤ → ℕ → Option ℤ
ancestor_of buckets item level = option_map (λ b. b.id) (find (is_ancestor buckets item level) buckets)

-- whether a step takes a bucket above a device
abbrev pub takes_above : List Bucket → ℤ → Step → Bool
takes_above buckets osd (step.Take bucket) = is_above buckets bucket osd
takes_above buckets osd (step.SetChooseTries _) = false
takes_above buckets osd (step.SetChooseleafTries _) = false
takes_above buckets osd (step.SetChooseleafVaryR _) = false
takes_above buckets osd (step.SetChooseleafStable _) = false
takes_above buckets osd (step.Choose _) = false
takes_above buckets osd step.Emit = false

-- whether a rule of these steps reaches a device: it is under one of the buckets that they take
abbrev pub reaches : List Bucket → List Step → ℤ → Bool
reaches buckets steps osd = list_any (takes_above buckets osd) steps
