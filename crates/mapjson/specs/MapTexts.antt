-- The map that a JSON text (RFC 8259) states, and why a text is refused as one.
use Rattle.std.specs.Prelude.{ℕ, List, Option, Some, Result, Ok, Err, IfOk, if◌then◌else◌}
use Rattle.mapparts.specs.declared.parts.MapParts.{MapParts}
use Rattle.refusal.specs.declared.refused.Refusal.{Refusal}
use Rattle.osdmap.specs.Maps.{ClusterMap}
use Rattle.osdmap.specs.Stated.{map_fault, plain_map_fault, IsStated}
use Rattle.jsonstream.specs.Json.{stated_by}
use Rattle.mapparts.specs.declared.profile.Profile.{Profile}
use Rattle.mapparts.specs.Profiles.{is_stock}
use Rattle.partjson.specs.Profiles.{map_in}

-- what is wrong with parts by the limits of a profile
abbrev pub map_fault_in : Profile → MapParts → Option Refusal
map_fault_in profile p = if is_stock profile then map_fault p else plain_map_fault p

-- a text that states no map, or a map with a fault
abbrev pub fault_of_stated : Profile → Result MapParts Refusal → Option Refusal
fault_of_stated profile (Ok parts) = map_fault_in profile parts
fault_of_stated profile (Err refusal) = Some refusal

-- why a text is refused as a map, by the kinds of buckets that it may state and the limits
abbrev pub map_text_fault : Profile → List ℕ → Option Refusal
map_text_fault profile bytes = fault_of_stated profile (stated_by (map_in profile) bytes)

-- the map is the one that a text states
abbrev pub StatesMap : Profile → List ℕ → ClusterMap → Type 0
StatesMap profile bytes m = IfOk (stated_by (map_in profile) bytes) (λ parts. IsStated parts m)
