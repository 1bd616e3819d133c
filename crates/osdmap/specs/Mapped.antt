-- What exceptions make of the set of a group (Ceph, OSDMap.cc: _apply_upmap).
use Rattle.std.specs.Prelude.{ℕ, ◌==◌, Bool, ◌||◌, List, map, Option, Some, None, slice_index, if◌then◌else◌}
use Rattle.std.specs.List.{list_any, fold}
use Rattle.maptypes.specs.declared.exception.Pair.{Pair}
use Rattle.maptypes.specs.Sets.{is_of, replace}

-- whether an OSD is out: its reweight is 0
abbrev pub is_weightless : List ℕ → ℕ → Bool
is_weightless weights osd = slice_index weights osd == 0

-- a pair acts only where the OSD that it brings stands nowhere, and is not out
unfoldable pub with_pair : List ℕ → List (Option ℕ) → Pair → List (Option ℕ)
with_pair weights places pair =
    if list_any (is_of pair.to) places || is_weightless weights pair.to then places else replace pair places

-- the pairs act in order
abbrev pub with_items : List ℕ → List (Option ℕ) → Option (List Pair) → List (Option ℕ)
with_items weights places None = places
with_items weights places (Some pairs) = fold (with_pair weights) places pairs

-- the explicit set stands in place of the raw one, and the pairs act on it; but where one of its OSDs is out,
-- neither does
unfoldable pub with_exceptions : List ℕ → Option (List ℕ) → Option (List Pair) → List (Option ℕ) → List (Option ℕ)
with_exceptions weights None items raw = with_items weights raw items
with_exceptions weights (Some osds) items raw =
    if list_any (is_weightless weights) osds then raw else with_items weights (map (λ osd. Some osd) osds) items
