-- The text of the map that a cluster's own map is, or why there is none.
use Rattle.std.specs.Prelude.{◌≡◌, ℕ, List, Some, Result, Ok, Err}
use Rattle.refusal.specs.declared.refused.Refusal.{Refusal}
use Rattle.refusal.specs.declared.refused.Refusal.TheVariants.{Memory as OutOfMemory}
use Rattle.mapparts.specs.declared.parts.MapParts.{MapParts}
use Rattle.osdmap.specs.Maps.{ClusterMap}
use Rattle.osdmap.specs.Stated.{IsStated}
use Rattle.mapjson.specs.MapTexts.{map_fault_in}
use Rattle.mapjson.specs.Written.{written}
use Rattle.cephimport.specs.declared.why.StaysOut.{StaysOut}
use Rattle.cephimport.specs.declared.why.ImportError.{ImportError}
use Rattle.cephimport.specs.declared.why.ImportError.TheVariants as errors
use Rattle.cephimport.specs.Whole.{profile_of}
use Rattle.readmap.specs.declared.text.Untold.{Untold}
use Rattle.readmap.specs.declared.text.Untold.TheVariants as reasons

-- why no map is told, by what ended an import
abbrev pub untold_by_import : ImportError → Untold
untold_by_import errors.Memory = reasons.Memory
untold_by_import (errors.StaysOut why) = reasons.StaysOut why

-- why no map is told, by a refusal
abbrev pub untold_by : Refusal → Untold
untold_by OutOfMemory = reasons.Memory
untold_by refusal = reasons.Refused refusal

-- a refusal is that of parts that come in, by the limits of their profile
abbrev pub IsNoMap : MapParts → Untold → Type 0
IsNoMap parts reasons.Memory = Unit {0}
IsNoMap parts (reasons.StaysOut why) = ⊥
IsNoMap parts (reasons.Refused refusal) =
    map_fault_in (profile_of parts.buckets parts.rules) parts ≡ Some refusal

-- a text is that of the map which the parts state that come in
abbrev pub TellsMap : Result MapParts StaysOut → List ℕ → Type 0
TellsMap (Ok parts) text = (m : ClusterMap) × IsStated parts m × (text ≡ written m)
TellsMap (Err why) text = ⊥

-- there is none as memory ran out, as the map stays out, or as the parts that come in are those of no map
abbrev pub TellsWhy : Result MapParts StaysOut → Untold → Type 0
TellsWhy wanted reasons.Memory = Unit {0}
TellsWhy wanted (reasons.StaysOut why) = wanted ≡ Err why
TellsWhy wanted (reasons.Refused refusal) =
    (parts : MapParts) × (wanted ≡ Ok parts) × IsNoMap parts (reasons.Refused refusal)
