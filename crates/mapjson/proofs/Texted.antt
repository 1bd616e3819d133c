-- The text that is written of a map, and what it is read as.
use Rattle.std.proofs.Common.{◌≡◌, ℕ, ◌≤◌, List, Some, Ok, Err, sym, ap, subst, ◌∙◌, arith}
use Rattle.std.specs.Option.{option_map_or}
use Rattle.std.specs.Str.{IsUtf8}
use Rattle.json.specs.Print.{print}
use Rattle.json.specs.Token.{Token}
use Rattle.serde_json.specs.Data.{Data, depth}
use Rattle.serde_json.specs.Read.{read, max_depth}
use Rattle.serde_json.proofs.Texts.{print-outline}
use Rattle.mapparts.specs.declared.parts.MapParts.{MapParts}
use Rattle.refusal.specs.declared.refused.Refusal.TheVariants.{BadJson, BadField}
use Rattle.osdmap.specs.Maps.{ClusterMap}
use Rattle.osdmap.specs.PartsOf.{parts_of}
use Rattle.jsonstream.specs.Json.{stated_by}
use Rattle.partjson.specs.StatedMaps.{in_its_version, stated_map}
use Rattle.mapjson.specs.Written.{AreNamed, map_data, written}
use Rattle.mapjson.specs.Pieces.{tokens_of}
use Rattle.jsonstream.proofs.Texts.{json_of_some}
use Rattle.mapjson.proofs.Shallow.{map_flat}
use Rattle.mapjson.proofs.ReadBack.{map_back}

-- the tokens of a map's parts make the map's text
pub is_written : (m : ClusterMap) (bytes : List ℕ) (ts : List Token) → bytes ≡ print ts → ts ≡ tokens_of (map_data (parts_of m)) → bytes ≡ written m
unfolding written
is_written m bytes ts text same = text ∙ ap print same ∙ print-outline (map_data (parts_of m))

-- a text that is read as the value of some parts states them, where their groups are read back
pub states_parts : (p : MapParts) (d : Data) (bytes : List ℕ) → AreNamed p.pg_upmap → AreNamed p.pg_upmap_items → in_its_version p ≡ Some p → d ≡ map_data p → IsUtf8 bytes → (depth d ≤ max_depth → read bytes ≡ Some d) → stated_by stated_map bytes ≡ Ok p
states_parts p d bytes explicit items version is utf8 reads =
    let shallow : depth d ≤ max_depth = subst (λ v. depth v ≤ max_depth) (sym is) (omega (arith, map_flat p)) in
    ap (λ o. option_map_or (λ v. option_map_or (λ x. Ok x) (stated_map v) (Err BadField)) o (Err BadJson)) (json_of_some bytes d utf8 (reads shallow))
    ∙ ap (λ o. option_map_or (λ x. Ok x) o (Err BadField)) (ap stated_map is ∙ map_back p explicit items version)
