-- Where no group may go, as far as it is known: for each OSD that a group would leave, by number, and each failure
-- domain that it would come to. Domains are numbered, and of each an OSD is known.
use Rattle.std.specs.Prelude.{◌≡◌, ℕ, ◌<◌, Bool, true, false, List, [], length, Option, All, slice_set, slice_index_or}
use Rattle.maptypes.specs.Pools.{PoolFacts}
use Rattle.maptypes.specs.Sets.{is_of}
use Rattle.osdmap.specs.Maps.{ClusterMap}
use Rattle.osdmap.specs.Placement.{steps_of}
use Rattle.balancer.specs.declared.group.Group.{Group}
use Rattle.balancer.specs.declared.marks.Marks.{Marks}
use Rattle.balancer.specs.Moves.{last_level, levels_of, domain_of}
use Rattle.balancer.specs.Boards.{may_go}

-- ---- numbered domains

-- the number of the failure domain of an OSD
abbrev pub domain_number : List ℕ → ℕ → ℕ
domain_number numbers osd = slice_index_or numbers osd 0

-- the first so many OSDs have numbers: those of one number are of one failure domain, and of each number an OSD is
-- known
pub record AreNumbered (m : ClusterMap) (p : PoolFacts) (count : ℕ) (numbers firsts : List ℕ) : Type 0 where
  pub long : length numbers ≡ count
  pub alike : (a b : ℕ) → a < count → b < count → domain_number numbers a ≡ domain_number numbers b
      → domain_of m (last_level (levels_of (steps_of m p))) a ≡ domain_of m (last_level (levels_of (steps_of m p))) b
  pub within : (a : ℕ) → a < count → domain_number numbers a < length firsts
  pub each_first : (d : ℕ) → d < length firsts
      → (slice_index_or firsts d 0 < count) × (domain_number numbers (slice_index_or firsts d 0) ≡ d)

-- ---- marks

-- whether it is known that no group may go from an OSD to a failure domain
abbrev pub is_shut_at : List (List Bool) → ℕ → ℕ → Bool
is_shut_at rows from domain = slice_index_or (slice_index_or rows from []) domain false

-- whether it is known that none may go from one OSD to another
abbrev pub is_shut : Marks → ℕ → ℕ → Bool
is_shut marks from to = is_shut_at marks.rows.items from (domain_number marks.numbers.items to)

-- what is known once none may go from an OSD to a failure domain
abbrev pub shut_in : List (List Bool) → ℕ → ℕ → List (List Bool)
shut_in rows from domain = slice_set rows from (slice_set (slice_index_or rows from []) domain true)

-- what is known once it is not any longer that none may go from an OSD to a failure domain
abbrev pub open_in : List (List Bool) → ℕ → ℕ → List (List Bool)
open_in rows from domain = slice_set rows from (slice_set (slice_index_or rows from []) domain false)

-- none of some groups may go from one OSD to another
abbrev pub NoneGoes : ClusterMap → PoolFacts → List Group → ℕ → ℕ → Type 0
NoneGoes m p gs from to = All (λ g. may_go m p from to g ≡ false) gs

-- what is known is so
pub record IsMarked (m : ClusterMap) (p : PoolFacts) (gs : List Group) (marks : Marks) : Type 0 where
  pub numbered : AreNumbered m p (length m.presences) marks.numbers.items marks.firsts.items
  pub known : (from to : ℕ) → to < length m.presences → is_shut marks from to ≡ true → NoneGoes m p gs from to

-- two marks number the domains in one way
pub record NumberAlike (a b : Marks) : Type 0 where
  pub numbers : a.numbers.items ≡ b.numbers.items
  pub firsts : a.firsts.items ≡ b.firsts.items

-- what is known once it was looked at again for the OSD of a place and a group on it: nothing more than before, and
-- none of it is wrong of that group
pub record IsLookedAt (m : ClusterMap) (p : PoolFacts) (place : Option ℕ) (group : Group) (before now : Marks) :
    Type 0 where
  pub alike : NumberAlike now before
  pub known : (from to : ℕ) → to < length m.presences → is_shut now from to ≡ true
      → (is_shut before from to ≡ true) × (is_of from place ≡ true → may_go m p from to group ≡ false)
