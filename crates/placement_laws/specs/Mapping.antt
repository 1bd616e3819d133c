-- What the mapped set of a group goes by.
use Rattle.std.specs.Prelude.{◌≡◌, ℕ, List, [], ◌++◌, Option, unwrap_or, slice_index}
use Rattle.std.specs.List.{All, flat_map}
use Rattle.maptypes.specs.declared.exception.Pair.{Pair}
use Rattle.maptypes.specs.Pools.{PoolFacts}
use Rattle.maptypes.specs.Exceptions.{said_of, sides}
use Rattle.osdmap.specs.Maps.{ClusterMap}
use Rattle.osdmap.specs.Mapped.{with_exceptions}
use Rattle.osdmap.specs.Placement.{group_of, raw_set, mapped_set}

-- the OSDs that an explicit set and pairs name
abbrev pub named : Option (List ℕ) → Option (List Pair) → List ℕ
named explicit items = unwrap_or explicit [] ++ flat_map sides (unwrap_or items [])

-- two lists of reweights agree on some OSDs
abbrev pub Agree : List ℕ → List ℕ → List ℕ → Type 0
Agree weights others osds = All (λ osd. slice_index weights osd ≡ slice_index others osd) osds

-- two lists of reweights that agree on the OSDs that the exceptions name give the same mapped set
abbrev pub MappedReadsNamed : Type 0
MappedReadsNamed =
    (weights others : List ℕ) (explicit : Option (List ℕ)) (items : Option (List Pair)) (raw : List (Option ℕ)) →
    Agree weights others (named explicit items) →
    with_exceptions weights explicit items raw ≡ with_exceptions others explicit items raw

-- group i of a pool of one map and of a pool of another have the same raw set, the same exceptions, and the same
-- reweights of the OSDs that these name
pub record AreAlike (m n : ClusterMap) (p q : PoolFacts) (i : ℕ) : Type 0 where
  pub raw : raw_set m p i ≡ raw_set n q i
  pub explicit : said_of m.explicit (group_of p i) ≡ said_of n.explicit (group_of q i)
  pub items : said_of m.items (group_of p i) ≡ said_of n.items (group_of q i)
  pub weights : Agree m.weights n.weights (named (said_of m.explicit (group_of p i)) (said_of m.items (group_of p i)))

-- such groups have the same mapped set
abbrev pub AlikeMapAlike : Type 0
AlikeMapAlike = (m n : ClusterMap) (p q : PoolFacts) (i : ℕ) → AreAlike m n p q i → mapped_set m p i ≡ mapped_set n q i
