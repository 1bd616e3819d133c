-- The set of a group of placement: the OSDs that store it, by their places (Ceph, OSDMap: raw, upmap and up sets).
use Rattle.std.specs.Prelude.{ℕ, Bool, false, ◌==◌, List, [], ◌∷◌, Option, Some, None, if◌then◌else◌}
use Rattle.std.specs.List.{list_any, flat_map}
use Rattle.std.specs.Option.{option_map_or}
use Rattle.crush.specs.declared.step.RuleKind.{RuleKind}
use Rattle.crush.specs.declared.step.RuleKind.TheVariants.{Replicated, Erasure}
use Rattle.maptypes.specs.declared.exception.Pair.{Pair}

-- at each place an OSD, or a hole
abbrev pub Places : Type 0
Places = List (Option ℕ)

-- whether a place has the OSD
abbrev pub is_of : ℕ → Option ℕ → Bool
is_of osd place = option_map_or (λ o. o == osd) place false

-- whether the OSD stands in a set
abbrev pub stands : ℕ → Places → Bool
stands osd set = list_any (is_of osd) set

-- the primary: the first place that has an OSD
abbrev pub primary_of : List (Option ℕ) → Option ℕ
primary_of [] = None
primary_of (None ∷ places) = primary_of places
primary_of (Some osd ∷ places) = Some osd

-- what is kept of a place: copies may change their places, so that one without an OSD is left out; coded parts keep
-- theirs
abbrev pub kept_in : RuleKind → Option ℕ → List (Option ℕ)
kept_in Replicated None = []
kept_in Replicated (Some osd) = Some osd ∷ []
kept_in Erasure place = place ∷ []

-- what is kept of some places
abbrev pub kept_places : RuleKind → List (Option ℕ) → List (Option ℕ)
kept_places kind places = flat_map (kept_in kind) places

-- one OSD goes to another where it first stands
unfoldable pub replace : Pair → List (Option ℕ) → List (Option ℕ)
replace pair [] = []
replace pair (place ∷ places) = if is_of pair.from place then Some pair.to ∷ places else place ∷ replace pair places
