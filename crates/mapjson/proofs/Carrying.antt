-- What OSDs carry, in whatever order it is stated.
use Rattle.std.proofs.Common.{◌≡◌, ◌∙◌, refl, sym, ℕ, true, pos, List, map, None}
use Rattle.std.specs.List.{list_all, range_with_len}
use Rattle.std.specs.Option.{option_map_or}
use Rattle.keylist.specs.Keys.{is_distinct}
use Rattle.keylist.specs.Order.{Rises}
use Rattle.keylist.proofs.Distinct.{distinct-moved, find-moved, rising_distinct}
use Rattle.partjson.specs.declared.loads.RawLoad.{RawLoad}
use Rattle.mapjson.specs.declared.loads.Load.{Load}
use Rattle.mapjson.specs.LoadTexts.{load_fits, load_within, carried_list, loads_fault}

-- no OSD stands twice among loads that can be put in rising order
pub no_double : (given sorted : List Load) → Rises (λ (l : Load). l.osd) given sorted → is_distinct (map (λ (l : Load). l.osd) given) ≡ true
no_double given sorted r =
    sym (distinct-moved (λ (l : Load). l.osd) given sorted r.same) ∙ rising_distinct (λ (l : Load). l.osd) sorted r.rising

-- what OSDs carry does not hang on the order
pub carried_moved : (most : ℕ) (given sorted : List Load) → Rises (λ (l : Load). l.osd) given sorted → carried_list most sorted ≡ carried_list most given
carried_moved most given sorted r = λ i.
    map (λ osd. option_map_or (λ (l : Load). l.carried) (find-moved (λ (l : Load). l.osd) given sorted r.same (no_double given sorted r) osd i) (pos 0)) (range_with_len 0 most)

-- loads that fit and can be put in rising order have no fault
pub faultless : (most : ℕ) (loads : List RawLoad) (sorted : List Load) → list_all (load_fits most) loads ≡ true
    → Rises (λ (l : Load). l.osd) (map load_within loads) sorted → loads_fault most loads ≡ None
faultless most loads sorted fit r = rw (fit, no_double (map load_within loads) sorted r) refl
