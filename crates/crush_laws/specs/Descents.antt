-- Where a descent through a forest ends.
use Rattle.std.specs.Prelude.{◌≡◌, ◌≢◌, ℕ, ℤ, [], ◌∷◌, MatchOption, true, List, pos, Some}
use Rattle.buckets.specs.declared.bucket.Bucket.{Bucket}
use Rattle.crush.specs.Forest.{bucket_at, level_of}
use Rattle.buckets.specs.Limits.{max_devices}
use Rattle.buckets.specs.Pick.{pick_of}
use Rattle.crush.specs.World.{World}
use Rattle.crush.specs.Descent.{item_below}
use Rattle.crush.specs.WellFormed.{is_known, IsForest}

-- the picks lead from a bucket, through the buckets between, to an item
abbrev pub ArePicks : World → (Bucket → ℕ) → Bucket → List Bucket → ℤ → Type 0
ArePicks w r b [] item = pick_of b w.x (r b) ≡ item
ArePicks w r b (next ∷ between) item =
    (bucket_at w.buckets (pick_of b w.x (r b)) ≡ Some next) × ArePicks w r next between item

-- some picks lead from a bucket to an item
pub record PicksLeadTo (w : World) (r : Bucket → ℕ) (b : Bucket) (item : ℤ) : Type 0 where
  pub between : List Bucket
  pub picks : ArePicks w r b between item

-- the picks from a bucket lead to a device, where another type is wanted
pub record LeadsAstray (w : World) (r : Bucket → ℕ) (wanted : ℕ) (b : Bucket) : Type 0 where
  pub osd : ℕ
  pub other : wanted ≢ 0
  pub leads : PicksLeadTo w r b (pos osd)

-- the picks from a bucket lead to an item of the forest of the wanted type
pub record LeadsToWanted (w : World) (r : Bucket → ℕ) (wanted : ℕ) (b : Bucket) (item : ℤ) : Type 0 where
  pub of_type : level_of w.buckets item ≡ wanted
  pub known : is_known w.buckets max_devices item ≡ true
  pub leads : PicksLeadTo w r b item

-- in a forest a descent comes to an item of the wanted type, unless a device of another type stops it: never to an
-- unknown item, and never to an end for want of levels
abbrev pub DescentEnds : Type 0
DescentEnds = (w : World) (r : Bucket → ℕ) (wanted : ℕ) (b : Bucket) →
    IsForest w.buckets → bucket_at w.buckets b.id ≡ Some b →
    MatchOption (item_below w r wanted b) (LeadsAstray w r wanted b) (λ p. LeadsToWanted w r wanted b p.item)
