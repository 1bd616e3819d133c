-- Where the rules of a map place, beside CRUSH over the cluster's own map.
use Rattle.std.specs.Prelude.{◌≡◌, ℕ, List, map, Some, Ok, Contains, slice_get}
use Rattle.crush.specs.Run.{run_of}
use Rattle.crush.specs.World.{world_of}
use Rattle.mapparts.specs.declared.parts.MapParts.{MapParts}
use Rattle.maptypes.specs.Values.{step_of}
use Rattle.osdmap.specs.Maps.{ClusterMap, HoldsTogether}
use Rattle.osdmap.specs.Stated.{IsStated}
use Rattle.cephmap.specs.declared.map.CephMap.{CephMap}
use Rattle.cephmap.specs.declared.pool.Pool.{Pool}
use Rattle.cephmap.specs.declared.rule.Rule.{Rule}
use Rattle.cephimport.specs.Rules.{imported_rule}
use Rattle.cephimport.specs.Whole.{imported}
use Rattle.import_laws.specs.Own.{own_buckets, own_run}

-- where a cluster's own map comes in, the map's rule of each pool places, for every input and under all reweights, what
-- CRUSH over the cluster's own map places by the rule of the pool
abbrev pub PlaceAlike : Type 0
PlaceAlike = (m : CephMap) (parts : MapParts) (c : ClusterMap) →
    imported m ≡ Ok parts → IsStated parts c → HoldsTogether c →
    (rule : ℕ) (r : Rule) (pool : Pool) (weights : List ℕ) (x : ℕ) →
    slice_get m.crush.rules rule ≡ Some (record { holds = Some r }) → Contains m.pools pool → pool.rule ≡ rule →
    run_of (world_of c.buckets weights x) (map step_of (imported_rule m rule r).steps) pool.size
    ≡ own_run (world_of (own_buckets m.crush) weights x) m.crush.tunables r.steps pool.size
