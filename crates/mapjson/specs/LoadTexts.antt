-- What OSDs carry beside a pool, as a JSON text (RFC 8259) states it.
use Rattle.std.specs.Prelude.{◌≡◌, ℕ, ℤ, pos, negsuc, int_lt, nat_abs, ◌&&◌, Bool, List, map, Option, Some, Result, Ok, Err, IfOk}
use Rattle.std.specs.List.{list_all, range_with_len}
use Rattle.std.specs.Option.{option_map_or}
use Rattle.refusal.specs.declared.refused.Refusal.{Refusal}
use Rattle.refusal.specs.declared.refused.Refusal.TheVariants.{BadField}
use Rattle.refusal.specs.Outcomes.{refused_unless}
use Rattle.keylist.specs.Keys.{is_distinct, entry_at}
use Rattle.mapparts.specs.Parts.{is_between}
use Rattle.partjson.specs.declared.loads.RawLoad.{RawLoad}
use Rattle.partjson.specs.StatedLoads.{stated_loads}
use Rattle.jsonstream.specs.Json.{stated_by}
use Rattle.mapjson.specs.declared.loads.Load.{Load}

-- an OSD below so many, and a number of 32 bits
unfoldable pub load_fits : ℕ → RawLoad → Bool
load_fits most l =
    is_between (pos 0) (pos 4294967295) l.osd && int_lt l.osd (pos most)
    && is_between (negsuc 2147483647) (pos 2147483647) l.carried

-- a load that fits
abbrev pub load_within : RawLoad → Load
load_within l = record { osd = nat_abs l.osd; carried = l.carried }

-- what an OSD carries: the number that stands beside it, else 0
abbrev pub carried_of : List Load → ℕ → ℤ
carried_of loads osd = option_map_or (λ l. l.carried) (entry_at (λ l. l.osd) loads osd) (pos 0)

-- what so many OSDs carry, by number
abbrev pub carried_list : ℕ → List Load → List ℤ
carried_list most loads = map (carried_of loads) (range_with_len 0 most)

-- one of them does not fit, or an OSD stands there twice
abbrev pub loads_fault : ℕ → List RawLoad → Option Refusal
loads_fault most loads =
    refused_unless (list_all (load_fits most) loads && is_distinct (map (λ l. l.osd) (map load_within loads))) BadField

-- a text that states no loads, or some with a fault
abbrev pub fault_of_stated_loads : ℕ → Result (List RawLoad) Refusal → Option Refusal
fault_of_stated_loads most (Ok loads) = loads_fault most loads
fault_of_stated_loads most (Err refusal) = Some BadField

-- why a text is refused as what so many OSDs carry
abbrev pub load_text_fault : ℕ → List ℕ → Option Refusal
load_text_fault most bytes = fault_of_stated_loads most (stated_by stated_loads bytes)

-- the numbers are those that a text states
abbrev pub StatesLoads : ℕ → List ℕ → List ℤ → Type 0
StatesLoads most bytes carried =
    IfOk (stated_by stated_loads bytes) (λ loads. carried ≡ carried_list most (map load_within loads))
