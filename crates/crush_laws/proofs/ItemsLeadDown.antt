-- What stands in a bucket of a forest: devices, and buckets of lower types.
use Rattle.std.proofs.Common.{◌≡◌, ℕ, ◌<◌, true, ◌&&◌, nat_lt, List, get_or, Option, Some, None, ℤ, pos, negsuc, MatchOption, refl}
use Rattle.std.specs.List.{list_all}
use Rattle.std.specs.Option.{option_map_or}
use Rattle.std.specs.Ordering.{int_eq}
use Rattle.std.proofs.lemmas.Bool.{and_parts, false≢true, ltb-true}
use Rattle.buckets.specs.declared.bucket.Bucket.{Bucket}
use Rattle.crush_laws.specs.Forests.{IsDeviceNumber, LeadsDown, BucketsLeadDown}
use Rattle.crush.specs.Forest.{bucket_at, level_of}
use Rattle.crush.specs.WellFormed.{is_known, IsForest}
use Rattle.keylist.proofs.Counts.{find-place}
use Rattle.keylist.proofs.Each.{list_all-at}

module _ (buckets : List Bucket) where
  -- an item that is known and of a lower type
  lower : (id : ℤ) (level : ℕ) (o : Option Bucket) → bucket_at buckets id ≡ o → is_known buckets 4096 id ≡ true → nat_lt (option_map_or (λ b. b.level) o 0) level ≡ true → MatchOption o (IsDeviceNumber id) (λ b. b.level < level)
  lower (pos n) level None e known low = ltb-true n 4096 known
  lower (negsuc n) level None e known low = absurd (false≢true (rw e at known))
  lower id level (Some b) e known low = ltb-true b.level level low

  -- each item of a bucket that a look-up finds
  leads-down : IsForest buckets → (id : ℤ) (b : Bucket) → bucket_at buckets id ≡ Some b → LeadsDown buckets b
  leads-down forest id b found j d j_in =
      let at = find-place (λ c. int_eq c.id id) buckets b found in
      let below = (and_parts _ _ (and_parts _ _ (and_parts _ _ forest.lawful).0).0).1 in
      let inner = rw at.2 at (list_all-at (λ c. list_all (λ i. is_known buckets 4096 i.id && nat_lt (level_of buckets i.id) c.level) c.items) buckets at.0 b at.1 below) in
      let item = get_or b.items j d in
      let both = and_parts (is_known buckets 4096 item.id) (nat_lt (level_of buckets item.id) b.level) (list_all-at (λ i. is_known buckets 4096 i.id && nat_lt (level_of buckets i.id) b.level) b.items j d j_in inner) in
      lower item.id b.level (bucket_at buckets item.id) refl both.0 both.1

-- the law
pub buckets_lead_down : BucketsLeadDown
buckets_lead_down buckets id b forest found = leads-down buckets forest id b found
