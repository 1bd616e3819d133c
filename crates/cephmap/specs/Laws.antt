-- What a map that is taken says of its bytes.
use Rattle.std.specs.Prelude.{◌≡◌, ℕ, List, ◌++◌, length, Ok}
use Rattle.cephbytes.specs.Crc.{crc32c_of}
use Rattle.cephbytes.specs.Encoding.{number}
use Rattle.cephmap.specs.declared.map.CephMap.{CephMap}
use Rattle.cephmap.specs.Maps.{osd_map}

-- bytes in three parts, of which the middle one is the CRC-32C of the two others, in four bytes
pub record HasItsSum (bytes : List ℕ) : Type 0 where
  pub front : List ℕ
  pub sum : List ℕ
  pub behind : List ℕ
  pub parts : bytes ≡ front ++ (sum ++ behind)
  pub four : length sum ≡ 4
  pub right : number 4 (sum ++ behind) ≡ Ok (crc32c_of 4294967295 (front ++ behind), behind)

-- the bytes of a map that is taken have their sum
abbrev pub MapsHaveTheirSum : Type 0
MapsHaveTheirSum = (bytes : List ℕ) (map : CephMap) → osd_map bytes ≡ Ok map → HasItsSum bytes
