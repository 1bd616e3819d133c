-- What a run tells, as the law over events has it told (monitor_laws).
use Rattle.std.specs.Prelude.{◌≡◌, List, [], ◌∷◌, Some, None, All}
use Rattle.maptypes.specs.Ordered.{IsChange}
use Rattle.maptypes.specs.Incrementals.{Step}
use Rattle.osdmap.specs.Maps.{ClusterMap, HoldsTogether}
use Rattle.osdmap.specs.Changes.{IsLawful}
use Rattle.epochlog.specs.Epochs.{Line}
use Rattle.monitor_laws.specs.World.{Told, look, change}
use Rattle.monitor_laws.specs.Law.{IsOneHistory}
use Rattle.server_laws.specs.Visits.{Visit, IsExecution}

-- a visit is told as a look at a state after what it has found, or as a change that stands behind that
abbrev pub IsToldAs : Visit Step → Told → Type 0
IsToldAs v (look seat k t) = (seat ≡ v.by) × (k.pass.history ≡ v.found) × (v.made ≡ None)
IsToldAs v (change seat before s) = (seat ≡ v.by) × (before ≡ v.found) × (v.made ≡ Some s)

-- each of some visits is told so
abbrev pub AreToldAs : List (Visit Step) → List Told → Type 0
AreToldAs [] told = told ≡ []
AreToldAs (v ∷ visits) [] = ⊥
AreToldAs (v ∷ visits) (t ∷ told) = IsToldAs v t × AreToldAs visits told

-- the parts of each step are those of a change, as the type of a change keeps them
abbrev pub AreChanges : List Step → Type 0
AreChanges steps = All (λ step. IsChange step.change) steps

-- The law: where visits have made a lawful history from a map that holds together, what they were told is what the law
-- over events says of all looks and changes: each look was at a state of the first map whose journal is as long as the
-- history then was, with its table, and each change stands in it once, with the next epoch
abbrev pub TellsAsLaw : Type 0
TellsAsLaw = (m : ClusterMap) (row : Line) (all : List Step) (visits : List (Visit Step))
    → HoldsTogether m → AreChanges all → row.first ≡ m.epoch → IsLawful m all → IsExecution all visits
    → (told : List Told) × AreToldAs visits told × IsOneHistory m all told
