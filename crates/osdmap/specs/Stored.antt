-- A map as it is stored: what it says, and the room that its lists have for a change that is made where it stands.
use Rattle.std.specs.Prelude.{◌≡◌, ℕ, ◌+◌, ◌≤◌, length, Option}
use Rattle.maptypes.specs.CrushMaps.{CrushFacts}
use Rattle.maptypes.specs.declared.change.ChangeParts.{ChangeParts}
use Rattle.osdmap.specs.Maps.{ClusterMap}

-- how many pools, explicit sets and pairs of groups there is room for, and the forest and rules that lie ready
pub record Room : Type 0 where
  pub pools : ℕ
  pub explicit : ℕ
  pub items : ℕ
  pub crush : Option CrushFacts

-- a map with its room
pub record StoredMap : Type 0 where
  pub map : ClusterMap
  pub room : Room

-- there is room for what comes with a change, and a copy of its forest and rules lies ready
pub record HasRoomFor (c : ChangeParts) (m : StoredMap) : Type 0 where
  pub pools : length m.map.pools + length c.pools.come ≤ m.room.pools
  pub explicit : length m.map.explicit + length c.explicit.come ≤ m.room.explicit
  pub items : length m.map.items + length c.items.come ≤ m.room.items
  pub crush : m.room.crush ≡ c.crush
