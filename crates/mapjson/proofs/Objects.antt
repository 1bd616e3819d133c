-- The objects of a map: their members, their tokens, and what they are read as.
use Rattle.std.proofs.Common.{◌≡◌, ℕ, List, [], ◌∷◌, ◌++◌, codes, refl}
use Rattle.json.specs.Token.{Token, begin_object, end_object}
use Rattle.serde_json.specs.Data.{Data, boolean, string}
use Rattle.mapparts.specs.declared.parts.MapParts.{MapParts}
use Rattle.mapparts.specs.declared.parts.BucketPart.{BucketPart}
use Rattle.mapparts.specs.declared.parts.RulePart.{RulePart}
use Rattle.mapparts.specs.declared.parts.PoolPart.{PoolPart}
use Rattle.mapparts.specs.declared.parts.OsdPart.{OsdPart}
use Rattle.mapparts.specs.declared.parts.CrushParts.{CrushParts}
use Rattle.mapjson.specs.Written.{number_data, list_data, kind_word, item_data, bucket_data, use_word, step_data, rule_data, pool_data, osd_data, pair_data, exception_data, map_data}
use Rattle.mapjson.specs.WrittenChanges.{crush_data}
use Rattle.mapjson.specs.Pieces.{tokens_of, IsReadBack, AreReadBack}
use Rattle.mapjson.proofs.Pieces.{put_all, object_tokens, object_read}

-- the members of a bucket
abbrev pub bucket_members : BucketPart → List (List ℕ × Data)
bucket_members b =
    (codes "id", number_data b.id)
    ∷ (codes "items", list_data item_data b.items)
    ∷ (codes "kind", string (kind_word b.kind))
    ∷ (codes "type", number_data b.level)
    ∷ []

-- their tokens between braces are those of a bucket
pub bucket_tokens : (b : BucketPart) (ts : List Token) → put_all (ts ++ begin_object ∷ []) (bucket_members b) ++ end_object ∷ [] ≡ ts ++ tokens_of (bucket_data b)
unfolding bucket_data
bucket_tokens b ts = object_tokens ts (bucket_members b)

-- where each member is read as itself, so is a bucket
pub bucket_read : (b : BucketPart) → AreReadBack (bucket_members b) → IsReadBack (bucket_data b)
unfolding bucket_data
bucket_read b each = object_read (bucket_members b) each refl

-- the members of a rule
abbrev pub rule_members : RulePart → List (List ℕ × Data)
rule_members r =
    (codes "id", number_data r.id)
    ∷ (codes "kind", string (use_word r.kind))
    ∷ (codes "steps", list_data step_data r.steps)
    ∷ []

-- their tokens between braces are those of a rule
pub rule_tokens : (r : RulePart) (ts : List Token) → put_all (ts ++ begin_object ∷ []) (rule_members r) ++ end_object ∷ [] ≡ ts ++ tokens_of (rule_data r)
unfolding rule_data
rule_tokens r ts = object_tokens ts (rule_members r)

-- where each member is read as itself, so is a rule
pub rule_read : (r : RulePart) → AreReadBack (rule_members r) → IsReadBack (rule_data r)
unfolding rule_data
rule_read r each = object_read (rule_members r) each refl

-- the members of a pool
abbrev pub pool_members : PoolPart → List (List ℕ × Data)
pool_members p =
    (codes "id", number_data p.id)
    ∷ (codes "kind", string (use_word p.kind))
    ∷ (codes "pg_num", number_data p.pg_num)
    ∷ (codes "pgp_num", number_data p.pgp_num)
    ∷ (codes "rule", number_data p.rule)
    ∷ (codes "size", number_data p.size)
    ∷ []

-- their tokens between braces are those of a pool
pub pool_tokens : (p : PoolPart) (ts : List Token) → put_all (ts ++ begin_object ∷ []) (pool_members p) ++ end_object ∷ [] ≡ ts ++ tokens_of (pool_data p)
unfolding pool_data
pool_tokens p ts = object_tokens ts (pool_members p)

-- where each member is read as itself, so is a pool
pub pool_read : (p : PoolPart) → AreReadBack (pool_members p) → IsReadBack (pool_data p)
unfolding pool_data
pool_read p each = object_read (pool_members p) each refl

-- the members of an OSD
abbrev pub osd_members : OsdPart → List (List ℕ × Data)
osd_members o =
    (codes "exists", boolean o.exists)
    ∷ (codes "id", number_data o.id)
    ∷ (codes "up", boolean o.up)
    ∷ (codes "weight", number_data o.weight)
    ∷ []

-- their tokens between braces are those of an OSD
pub osd_tokens : (o : OsdPart) (ts : List Token) → put_all (ts ++ begin_object ∷ []) (osd_members o) ++ end_object ∷ [] ≡ ts ++ tokens_of (osd_data o)
unfolding osd_data
osd_tokens o ts = object_tokens ts (osd_members o)

-- where each member is read as itself, so is an OSD
pub osd_read : (o : OsdPart) → AreReadBack (osd_members o) → IsReadBack (osd_data o)
unfolding osd_data
osd_read o each = object_read (osd_members o) each refl

-- the members of a CRUSH map
abbrev pub crush_members : CrushParts → List (List ℕ × Data)
crush_members k =
    (codes "buckets", list_data bucket_data k.buckets)
    ∷ (codes "rules", list_data rule_data k.rules)
    ∷ []

-- their tokens between braces are those of a CRUSH map
pub crush_tokens : (k : CrushParts) (ts : List Token) → put_all (ts ++ begin_object ∷ []) (crush_members k) ++ end_object ∷ [] ≡ ts ++ tokens_of (crush_data k)
unfolding crush_data
crush_tokens k ts = object_tokens ts (crush_members k)

-- where each member is read as itself, so is a CRUSH map
pub crush_read : (k : CrushParts) → AreReadBack (crush_members k) → IsReadBack (crush_data k)
unfolding crush_data
crush_read k each = object_read (crush_members k) each refl

-- the members of a map
abbrev pub map_members : MapParts → List (List ℕ × Data)
map_members m =
    (codes "buckets", list_data bucket_data m.buckets)
    ∷ (codes "epoch", number_data m.epoch)
    ∷ (codes "max_osd", number_data m.max_osd)
    ∷ (codes "osds", list_data osd_data m.osds)
    ∷ (codes "pg_upmap", list_data (exception_data number_data) m.pg_upmap)
    ∷ (codes "pg_upmap_items", list_data (exception_data pair_data) m.pg_upmap_items)
    ∷ (codes "pools", list_data pool_data m.pools)
    ∷ (codes "rules", list_data rule_data m.rules)
    ∷ (codes "version", number_data m.version)
    ∷ []

-- their tokens between braces are those of a map
pub map_tokens : (m : MapParts) (ts : List Token) → put_all (ts ++ begin_object ∷ []) (map_members m) ++ end_object ∷ [] ≡ ts ++ tokens_of (map_data m)
unfolding map_data
map_tokens m ts = object_tokens ts (map_members m)

-- where each member is read as itself, so is a map
pub map_read : (m : MapParts) → AreReadBack (map_members m) → IsReadBack (map_data m)
unfolding map_data
map_read m each = object_read (map_members m) each refl
