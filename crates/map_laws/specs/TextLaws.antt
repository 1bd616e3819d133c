-- The text of a map, read back.
use Rattle.std.specs.Prelude.{◌≡◌, ℕ, List, None}
use Rattle.osdmap.specs.Maps.{ClusterMap}
use Rattle.map_laws.specs.Laws.{IsTextEpoch}
use Rattle.mapparts.specs.declared.profile.Profile.TheVariants.{Stock}
use Rattle.mapjson.specs.MapTexts.{map_text_fault, StatesMap}
use Rattle.mapjson.specs.Written.{written}

-- a text without a fault that states this map, and no other, where it may state each kind of bucket
pub record IsTextOf (text : List ℕ) (m : ClusterMap) : Type 0 where
  pub faultless : map_text_fault Stock text ≡ None
  pub states : StatesMap Stock text m
  pub alone : (n : ClusterMap) → StatesMap Stock text n → n ≡ m

-- what is written of a map whose epoch a text may have is a text of that map, so that whoever reads it has that map
abbrev pub IsThereAndBack : ClusterMap → Type 0
IsThereAndBack m = IsTextEpoch m.epoch → IsTextOf (written m) m
