-- Which OSDs stand in an up set.
use Rattle.std.proofs.Common.{◌≡◌, ◌∙◌, refl, ap, ℕ, Bool, true, false, ◌&&◌, ◌||◌, eqb, List, [], ◌∷◌, map, Option, Some, None, inl, inr}
use Rattle.std.specs.Prelude.{option_and_then, if◌then◌else◌}
use Rattle.std.proofs.lemmas.Bool.{cases_Bool, eqb-true}
use Rattle.std.proofs.lemmas.List.Folds.{list_any-append}
use Rattle.std.proofs.lemmas.List.Concat.{flat_map-cons}
use Rattle.crush.specs.declared.step.RuleKind.{RuleKind}
use Rattle.crush.specs.declared.step.RuleKind.TheVariants.{Replicated, Erasure}
use Rattle.osdmap.specs.Maps.{ClusterMap, osd_is_up}
use Rattle.maptypes.specs.Sets.{is_of, stands, kept_places, kept_in}
use Rattle.osdmap.specs.Placement.{up_osd, mapped_set, up_set}
use Rattle.maptypes.specs.Pools.{PoolFacts}

-- or with false is the first
or_none : (a : Bool) → (a || false) ≡ a
or_none true = refl
or_none false = refl

-- and with false is false
and_none : (a : Bool) → (a && false) ≡ false
and_none true = refl
and_none false = refl

-- a condition on either of two is on both
spread : (a b u : Bool) → ((a && u) || (b && u)) ≡ ((a || b) && u)
spread true true true = refl
spread true true false = refl
spread true false true = refl
spread true false false = refl
spread false b u = refl

-- an OSD stands in what is kept of a place where it has the place
kept_place : (osd : ℕ) (kind : RuleKind) (place : Option ℕ) → stands osd (kept_in kind place) ≡ is_of osd place
kept_place osd Replicated None = refl
kept_place osd Replicated (Some o) = or_none (eqb o osd)
kept_place osd Erasure place = or_none (is_of osd place)

-- a place keeps its OSD where that is up
upward_place : (m : ClusterMap) (osd : ℕ) (place : Option ℕ) → is_of osd (option_and_then (up_osd m) place) ≡ (is_of osd place && osd_is_up m osd)
upward_place m osd None = refl
upward_place m osd (Some o) = by_up (osd_is_up m o) refl
  where
    by_up : (b : Bool) → osd_is_up m o ≡ b → is_of osd (if b then Some o else None) ≡ (eqb o osd && osd_is_up m osd)
    by_up true up = elim (cases_Bool (eqb o osd)) [
      | inl same ↦ rw (same, ← eqb-true o osd same, up) refl
      | inr other ↦ rw other refl
    ]
    by_up false down = elim (cases_Bool (eqb o osd)) [
      | inl same ↦ rw (same, ← eqb-true o osd same, down) refl
      | inr other ↦ rw other refl
    ]

-- an OSD stands in what is left of a list without those that are down exactly where it stands in the list and is up
pub stands_up : (m : ClusterMap) (kind : RuleKind) (osd : ℕ) (places : List (Option ℕ)) → stands osd (kept_places kind (map (option_and_then (up_osd m)) places)) ≡ (stands osd places && osd_is_up m osd)
stands_up m kind osd [] = refl
stands_up m kind osd (place ∷ places) =
    let first = option_and_then (up_osd m) place in
    let rest = map (option_and_then (up_osd m)) places in
    let split = ap (stands osd) (flat_map-cons (kept_in kind) first rest) ∙ list_any-append (is_of osd) (kept_in kind first) (kept_places kind rest) in
    split ∙ rw (kept_place osd kind first, upward_place m osd place, stands_up m kind osd places) (spread (is_of osd place) (stands osd places) (osd_is_up m osd))

-- an OSD stands in the up set exactly where it stands in the mapped set and is up
pub up_are_mapped_and_up : (m : ClusterMap) (p : PoolFacts) (n osd : ℕ) → stands osd (up_set m p n) ≡ (stands osd (mapped_set m p n) && osd_is_up m osd)
unfolding up_set
up_are_mapped_and_up m p n osd = stands_up m p.kind osd (mapped_set m p n)
