-- Incrementals: what makes the next map of a map (Ceph, OSDMap.h: OSDMap::Incremental).
use Rattle.std.specs.Prelude.{ℕ}
use Rattle.maptypes.specs.declared.change.ChangeParts.{ChangeParts}

-- an incremental: a change, and the epoch of the map after it
pub record Step : Type 0 where
  pub epoch : ℕ
  pub change : ChangeParts
