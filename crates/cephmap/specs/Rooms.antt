-- A list is read where it is there: that its length has room refuses none that is.
use Rattle.std.specs.Prelude.{◌≡◌, ℕ, List, Ok}
use Rattle.std.specs.Int.{w32}
use Rattle.cephbytes.specs.Encoding.{Front, number, signed, entries, list_of, many, listed}
use Rattle.cephmap.specs.Parts.{name, setting, settings, interval, snapshot}
use Rattle.cephmap.specs.Groups.{group_osds, group_primary, pair, group_pairs}
use Rattle.cephmap.specs.Pools.{pool, pool_name}
use Rattle.cephmap.specs.Buckets.{weighed, bucket, slot}
use Rattle.cephmap.specs.Rules.{step, rule}
use Rattle.cephmap.specs.Crush.{device_class, shadow, shadow_trees, bucket_weights, weight_set}
use Rattle.cephmap.specs.Addresses.{address, addresses}
use Rattle.cephmap.specs.Maps.{removed_snapshots}

-- so many of a kind are read where they are there, also by who asks for room of so many bytes for each
abbrev pub ReadsMany : {X : Type 0} → ℕ → Front X → Type 0
ReadsMany {X} each one =
    (count : ℕ) (bytes : List ℕ) (read : List X × List ℕ) → entries one count bytes ≡ Ok read
    → many each one count bytes ≡ Ok read

-- the same of a list behind its length
abbrev pub ReadsLists : {X : Type 0} → ℕ → Front X → Type 0
ReadsLists {X} each one =
    (bytes : List ℕ) (read : List X × List ℕ) → list_of one bytes ≡ Ok read → listed each one bytes ≡ Ok read

-- of each kind that a map has in lists
pub record NoListIsRefusedForRoom : Type 0 where
  pub words : ReadsLists 4 (number 4)
  pub numbers : ReadsLists 8 (number 8)
  pub ids : ReadsLists 4 (signed w32)
  pub rows : ReadsLists 4 (listed 4 (number 4))
  pub names : ReadsLists 8 name
  pub setting : ReadsLists 8 setting
  pub settings : ReadsLists 8 settings
  pub intervals : ReadsLists 16 interval
  pub snapshots : ReadsLists 14 snapshot
  pub removed_snapshots : ReadsLists 12 removed_snapshots
  pub group_osds : ReadsLists 21 group_osds
  pub group_primaries : ReadsLists 21 group_primary
  pub pairs : ReadsLists 8 pair
  pub group_pairs : ReadsLists 21 group_pairs
  pub pools : ReadsLists 14 pool
  pub pool_names : ReadsLists 12 pool_name
  pub address : ReadsLists 1 address
  pub addresses : ReadsLists 1 addresses
  pub device_classes : ReadsLists 8 device_class
  pub shadows : ReadsLists 8 shadow
  pub shadow_trees : ReadsLists 8 shadow_trees
  pub bucket_weights : ReadsLists 12 bucket_weights
  pub weight_sets : ReadsLists 12 weight_set
  pub items : ReadsMany 4 (signed w32)
  pub weights : ReadsMany 4 (number 4)
  pub weighed : ReadsMany 8 weighed
  pub steps : ReadsMany 12 step
  pub buckets : ReadsMany 4 (slot bucket)
  pub rules : ReadsMany 4 (slot rule)
