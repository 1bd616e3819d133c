-- What is written of a change: its parts as a JSON value (RFC 8259), with each list, in compact text.
use Rattle.std.specs.Prelude.{ℕ, ◌&&◌, Bool, List, [], ◌∷◌, ◌++◌, codes, Option, Some, None, option_map}
use Rattle.std.specs.List.{All}
use Rattle.serde_json.specs.Data.{Data, Members, put}
use Rattle.serde_json.specs.Written.{compact_text}
use Rattle.mapparts.specs.declared.parts.GrowPart.{GrowPart}
use Rattle.mapparts.specs.declared.parts.CrushParts.{CrushParts}
use Rattle.mapparts.specs.declared.parts.ExceptionPart.{ExceptionPart}
use Rattle.mapparts.specs.declared.pg_parts.PgParts.{PgParts}
use Rattle.mapparts.specs.declared.change.ExceptionChanges.{ExceptionChanges}
use Rattle.maptypes.specs.declared.change.ChangeParts.{ChangeParts}
use Rattle.mapparts.specs.declared.change.RawChange.{RawChange}
use Rattle.mapparts.specs.declared.change.ReweightPart.{ReweightPart}
use Rattle.mapparts.specs.declared.profile.Profile.{Profile}
use Rattle.mapparts.specs.Profiles.{limits_of}
use Rattle.partjson.specs.Profiles.{brings_kinds}
use Rattle.mapparts.specs.Changes.{change_fits_in}
use Rattle.mapjson.specs.PartsOfChange.{crush_parts, change_parts}
use Rattle.mapjson.specs.Written.{number_data, list_data, object_of, bucket_data, rule_data, pool_data, IsNamed, AreNamed, group_data, pair_data, exception_data}

-- an OSD and its new reweight: [osd, reweight]
abbrev pub reweight_data : ReweightPart → Data
reweight_data w = list_data number_data (w.osd ∷ w.weight ∷ [])

-- a pool and its new numbers of groups: [pool, pg_num, pgp_num]
abbrev pub growth_data : GrowPart → Data
growth_data g = list_data number_data (g.pool ∷ g.pg_num ∷ g.pgp_num ∷ [])

-- a CRUSH map of a change, its keys in order
unfoldable pub crush_data : CrushParts → Data
crush_data k = object_of (
    (codes "buckets", list_data bucket_data k.buckets)
    ∷ (codes "rules", list_data rule_data k.rules)
    ∷ [])

-- the member of a CRUSH map, which is left out where there is none
abbrev pub crush_member : Option CrushParts → List (List ℕ × Data)
crush_member None = []
crush_member (Some k) = (codes "new_crush", crush_data k) ∷ []

-- members with that of a CRUSH map, where there is one
abbrev pub with_crush : Option CrushParts → Members → Members
with_crush None ms = ms
with_crush (Some k) ms = put (codes "new_crush") (crush_data k) ms

-- the members before and behind it
abbrev pub first_members : RawChange → List (List ℕ × Data)
first_members c =
    (codes "base", number_data c.base)
    ∷ (codes "down", list_data number_data c.osds.down)
    ∷ (codes "grow_pool", list_data growth_data c.pools.grow)
    ∷ []

-- the members of a change behind its CRUSH map
abbrev pub last_members : RawChange → List (List ℕ × Data)
last_members c =
    (codes "new_items", list_data (exception_data pair_data) c.items.come)
    ∷ (codes "new_pools", list_data pool_data c.pools.come)
    ∷ (codes "new_upmap", list_data (exception_data number_data) c.explicit.come)
    ∷ (codes "old_items", list_data group_data c.items.gone)
    ∷ (codes "old_pools", list_data number_data c.pools.gone)
    ∷ (codes "old_upmap", list_data group_data c.explicit.gone)
    ∷ (codes "up", list_data number_data c.osds.up)
    ∷ (codes "weight", list_data reweight_data c.weights)
    ∷ []

-- a change, its keys in order
unfoldable pub change_data : RawChange → Data
change_data c = object_of (first_members c ++ (crush_member c.crush ++ last_members c))

-- the text of each group whose exceptions of one kind go or come states that group
pub record HasNamedGroups {P : Type 0} (c : ExceptionChanges PgParts (ExceptionPart P)) : Type 0 where
  pub gone : All IsNamed c.gone
  pub come : AreNamed c.come

-- the text of each group of a change does
pub record HasNamed (c : RawChange) : Type 0 where
  pub explicit : HasNamedGroups c.explicit
  pub items : HasNamedGroups c.items

-- the text of a change with its base: pools, growths and OSDs by id upwards, groups and exceptions by group upwards
unfoldable pub written_change : ℕ → ChangeParts → List ℕ
written_change base c = compact_text (change_data (change_parts base c))

-- a change that a text may state by a profile, whatever its base: each number and each length is within the limits of
-- that profile, which has the kinds of all new buckets
unfoldable pub fits_text : Profile → ChangeParts → Bool
fits_text profile c =
    brings_kinds profile (option_map crush_parts c.crush) && change_fits_in (limits_of profile) (change_parts 0 c)
