-- What is answered of a map by its table: the same under any lock, at any epoch.
use Rattle.std.specs.Prelude.{◌≡◌, ℕ, List, Option, Some, Result}
use Rattle.refusal.specs.declared.refused.Refusal.{Refusal}
use Rattle.refusal.specs.declared.refused.Refusal.TheVariants.{UnknownOsd}
use Rattle.refusal.specs.Outcomes.{refused_unless, Judges, Gives}
use Rattle.maptypes.specs.declared.pg.Pg.{Pg}
use Rattle.osdmap.specs.Maps.{ClusterMap, osd_exists}
use Rattle.osdmap.specs.Placement.{group_fault}
use Rattle.pgtable.specs.Index.{up_at, count_of, index_of}

-- what refuses a question about an OSD
abbrev pub osd_fault : ClusterMap → ℕ → Option Refusal
osd_fault m osd = refused_unless (osd_exists m osd) UnknownOsd

-- the epoch, and the up set of a group
abbrev pub FindsUp : ClusterMap → Pg → Result (ℕ × List (Option ℕ)) Refusal → Type 0
FindsUp m pg r = Judges r (group_fault m pg) (λ answer. (answer.0 ≡ m.epoch) × (Some answer.1 ≡ up_at m pg))

-- the epoch, and in how many groups' up sets an OSD stands
abbrev pub FindsCount : ClusterMap → ℕ → Result (ℕ × ℕ) Refusal → Type 0
FindsCount m osd r = Judges r (osd_fault m osd) (λ answer. (answer.0 ≡ m.epoch) × (answer.1 ≡ count_of m osd))

-- the epoch, and these groups, in a list of any form
abbrev pub FindsGroups : {X : Type 0} → (X → List Pg) → ClusterMap → ℕ → Result (ℕ × X) Refusal → Type 0
FindsGroups listed m osd r =
    Gives r (osd_fault m osd) (λ answer. (answer.0 ≡ m.epoch) × (listed answer.1 ≡ index_of m osd))
