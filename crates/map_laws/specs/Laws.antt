-- What follows from the definitions of maps and changes.
use Rattle.std.specs.Prelude.{◌≡◌, ◌≤◌, ℕ, true, false, List, None}
use Rattle.std.specs.List.{fold, All}
use Rattle.mapparts.specs.declared.parts.MapParts.{MapParts}
use Rattle.maptypes.specs.Ordered.{IsChange}
use Rattle.keylist.specs.Keys.{has_key}
use Rattle.osdmap.specs.Maps.{ClusterMap, osd_exists, osd_is_up}
use Rattle.maptypes.specs.declared.change.ChangeParts.{ChangeParts}
use Rattle.osdmap.specs.Stated.{map_fault, IsStated}
use Rattle.osdmap.specs.PartsOf.{parts_of}
use Rattle.maptypes.specs.Incrementals.{Step}
use Rattle.osdmap.specs.Changes.{change_fault, apply, with_up, after, IsLawful}

-- ---- the order of parts

-- the map after what goes down and what comes up the other way round
abbrev pub turned_round : ClusterMap → Step → ClusterMap
turned_round m step =
    record m {
      presences = fold (with_up false) (fold (with_up true) m.presences step.change.osds.up) step.change.osds.down;
    }

-- an OSD is up after a change, and down after its parts the other way round
pub record EndsUp (m : ClusterMap) (step : Step) (osd : ℕ) : Type 0 where
  pub in_order : osd_is_up (apply m step) osd ≡ true
  pub other_way : osd_is_up (turned_round m step) osd ≡ false

-- so is an OSD that goes down and comes up
abbrev pub UpAfterDown : Type 0
UpAfterDown = (m : ClusterMap) (step : Step) (osd : ℕ) → osd_exists m osd ≡ true →
    has_key (λ n. n) step.change.osds.down osd ≡ true → has_key (λ n. n) step.change.osds.up osd ≡ true →
    EndsUp m step osd

-- ---- maps and their own parts

-- an epoch that the text of a map may have
abbrev pub IsTextEpoch : ℕ → Type 0
IsTextEpoch epoch = (1 ≤ epoch) × (epoch ≤ 2147483648)

-- parts with which nothing is wrong, and the map that they state
pub record IsAccepted (p : MapParts) (m : ClusterMap) : Type 0 where
  pub faultless : map_fault p ≡ None
  pub stated : IsStated p m

-- parts state one map: two that the same parts state are equal
abbrev pub StatesOneMap : Type 0
StatesOneMap = (p : MapParts) (m n : ClusterMap) → IsStated p m → IsStated p n → m ≡ n

-- a map's own parts are such
abbrev pub StatesItself : ClusterMap → Type 0
StatesItself m = IsAccepted (parts_of m) m

-- the parts of each step of a journal are those of a change: in order, with pools and growths within their limits
abbrev pub AreChanges : List Step → Type 0
AreChanges journal = All (λ step. IsChange step.change) journal

-- the same map at another epoch
abbrev pub at_epoch : ClusterMap → ℕ → ClusterMap
at_epoch m epoch = record m { epoch = epoch }

-- a lawful journal of a map that was accepted, however long, leads to one that would be at each epoch of a text
abbrev pub JournalsKeepMaps : Type 0
JournalsKeepMaps =
    (p : MapParts) (m : ClusterMap) (journal : List Step) → IsAccepted p m → AreChanges journal → IsLawful m journal
    → (epoch : ℕ) → IsTextEpoch epoch → StatesItself (at_epoch (after m journal) epoch)

-- a change that is not refused leads to a map that states itself, whatever epoch of a text it is given
abbrev pub LeadsToAMap : ClusterMap → ChangeParts → Type 0
LeadsToAMap m c = change_fault m c ≡ None → (epoch : ℕ) → IsTextEpoch epoch →
    StatesItself (apply m (record { epoch = epoch; change = c }))
