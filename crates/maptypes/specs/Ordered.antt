-- What holds in every change: its parts are in ascending order of their keys, its pools and growths within their
-- limits, and its CRUSH map one.
use Rattle.std.specs.Prelude.{◌≡◌, ℕ, IfSome}
use Rattle.std.specs.List.{All}
use Rattle.std.specs.List.Sorted.{IsNonDecreasing, IsNonDecreasingBy}
use Rattle.mapparts.specs.declared.change.PoolChanges.{PoolChanges}
use Rattle.mapparts.specs.declared.change.OsdChanges.{OsdChanges}
use Rattle.mapparts.specs.declared.change.ExceptionChanges.{ExceptionChanges}
use Rattle.maptypes.specs.declared.change.ChangeParts.{ChangeParts}
use Rattle.maptypes.specs.declared.exception.Exception.{Exception}
use Rattle.maptypes.specs.declared.pg.Pg.{Pg}
use Rattle.maptypes.specs.Exceptions.{pg_key, key_of}
use Rattle.keylist.specs.Order.{SortsBy}
use Rattle.maptypes.specs.CrushMaps.{IsCrushMap}
use Rattle.maptypes.specs.Growth.{Growth, IsGrowth}
use Rattle.maptypes.specs.Pools.{PoolFacts, IsWithinLimits}

-- ---- each family

-- what a change does with pools, by id upwards
pub record PoolsInOrder (c : PoolChanges ℕ PoolFacts Growth) : Type 0 where
  pub gone : IsNonDecreasing c.gone
  pub come : IsNonDecreasingBy (λ p. p.id) c.come
  pub grow : IsNonDecreasingBy (λ g. g.pool) c.grow

-- what it does with OSDs, by number upwards
pub record OsdsInOrder (c : OsdChanges ℕ) : Type 0 where
  pub down : IsNonDecreasing c.down
  pub up : IsNonDecreasing c.up

-- what it does with exceptions of one kind, by group upwards
pub record ExceptionsInOrder {E : Type 0} (c : ExceptionChanges Pg (Exception E)) : Type 0 where
  pub gone : IsNonDecreasingBy pg_key c.gone
  pub come : IsNonDecreasingBy key_of c.come

-- each list is put in order, entries of one key in theirs
pub record OrdersPools (given ordered : PoolChanges ℕ PoolFacts Growth) : Type 0 where
  pub gone : SortsBy (λ id. id) given.gone ordered.gone
  pub come : SortsBy (λ p. p.id) given.come ordered.come
  pub grow : SortsBy (λ g. g.pool) given.grow ordered.grow

-- each list of OSDs is put in order
pub record OrdersOsds (given ordered : OsdChanges ℕ) : Type 0 where
  pub down : SortsBy (λ osd. osd) given.down ordered.down
  pub up : SortsBy (λ osd. osd) given.up ordered.up

-- each list of exceptions is put in order by their groups
pub record OrdersExceptions {E : Type 0} (given ordered : ExceptionChanges Pg (Exception E)) : Type 0 where
  pub gone : SortsBy pg_key given.gone ordered.gone
  pub come : SortsBy key_of given.come ordered.come

-- ---- a change

-- its parts are in ascending order: pools and OSDs by id, groups by place
pub record IsInOrder (c : ChangeParts) : Type 0 where
  pub pools : PoolsInOrder c.pools
  pub osds : OsdsInOrder c.osds
  pub weights : IsNonDecreasingBy (λ w. w.osd) c.weights
  pub explicit : ExceptionsInOrder c.explicit
  pub items : ExceptionsInOrder c.items

-- what holds in every change
pub record IsChange (c : ChangeParts) : Type 0 where
  pub in_order : IsInOrder c
  pub pools_within : All IsWithinLimits c.pools.come
  pub growths_within : All IsGrowth c.pools.grow
  pub crush_map : IfSome c.crush IsCrushMap

-- each part is put in order
pub record IsOrdered (given ordered : ChangeParts) : Type 0 where
  pub profile : ordered.profile ≡ given.profile
  pub pools : OrdersPools given.pools ordered.pools
  pub crush : ordered.crush ≡ given.crush
  pub osds : OrdersOsds given.osds ordered.osds
  pub weights : SortsBy (λ w. w.osd) given.weights ordered.weights
  pub explicit : OrdersExceptions given.explicit ordered.explicit
  pub items : OrdersExceptions given.items ordered.items
