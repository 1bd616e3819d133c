-- The parts that state a map.
use Rattle.std.specs.Prelude.{ℕ, ◌==◌, Bool, not, ◌||◌, ℤ, pos, List, length, map, filter_map, Option, Some, None, option_and_then, if◌then◌else◌}
use Rattle.std.specs.List.{range_with_len, list_any}
use Rattle.buckets.specs.declared.bucket.Item.{Item}
use Rattle.buckets.specs.declared.bucket.Bucket.{Bucket}
use Rattle.crush.specs.declared.step.Step.{Step}
use Rattle.crush.specs.declared.step.Step.TheVariants.{SetChooseTries as TryFor, SetChooseleafTries as TryForLeaves, SetChooseleafVaryR as VaryLeaves, SetChooseleafStable as SettleLeaves, Take as TakeBucket, Choose as ChooseBy, Emit as EmitAll}
use Rattle.crush.specs.Grammar.{sets_tries}
use Rattle.maptypes.specs.declared.osd.OsdState.{OsdState}
use Rattle.mapparts.specs.declared.parts.MapParts.{MapParts}
use Rattle.mapparts.specs.declared.parts.BucketPart.{BucketPart}
use Rattle.mapparts.specs.declared.parts.ItemPart.{ItemPart}
use Rattle.mapparts.specs.declared.parts.RulePart.{RulePart}
use Rattle.mapparts.specs.declared.parts.StepPart.{StepPart}
use Rattle.mapparts.specs.declared.parts.StepPart.TheVariants.{SetChooseTries, SetChooseleafTries, SetChooseleafVaryR, SetChooseleafStable, Take, Choose as Chooses, Emit}
use Rattle.mapparts.specs.declared.parts.PoolPart.{PoolPart}
use Rattle.mapparts.specs.declared.parts.OsdPart.{OsdPart}
use Rattle.mapparts.specs.declared.parts.ExceptionPart.{ExceptionPart}
use Rattle.mapparts.specs.declared.parts.PairPart.{PairPart}
use Rattle.maptypes.specs.declared.pg.Pg.{Pg}
use Rattle.mapparts.specs.declared.pg_parts.PgParts.{PgParts}
use Rattle.maptypes.specs.declared.exception.Exception.{Exception}
use Rattle.maptypes.specs.declared.exception.Pair.{Pair}
use Rattle.maptypes.specs.declared.rules.NumberedRule.{NumberedRule}
use Rattle.maptypes.specs.Pools.{PoolFacts}
use Rattle.osdmap.specs.Maps.{ClusterMap, osd_at}

-- an item
abbrev pub item_part : Item → ItemPart
item_part i = record { id = i.id; weight = pos i.weight }

-- a bucket
abbrev pub bucket_part : Bucket → BucketPart
bucket_part b = record { id = b.id; level = pos b.level; kind = b.kind; items = map item_part b.items }

-- a step
abbrev pub step_part : Step → StepPart
step_part (TryFor n) = SetChooseTries (pos n)
step_part (TryForLeaves n) = SetChooseleafTries (pos n)
step_part (VaryLeaves n) = SetChooseleafVaryR (pos n)
step_part (SettleLeaves n) = SetChooseleafStable (pos n)
step_part (TakeBucket id) = Take id
step_part (ChooseBy c) = Chooses (record {
  mode = c.mode;
  to_leaf = c.to_leaf;
  count = pos c.count;
  level = pos c.level;
})
step_part EmitAll = Emit

-- a rule
abbrev pub rule_part : NumberedRule → RulePart
rule_part r = record { id = pos r.id; kind = r.rule.kind; steps = map step_part r.rule.steps }

-- a pool
abbrev pub pool_part : PoolFacts → PoolPart
pool_part p = record {
  id = pos p.id;
  kind = p.kind;
  pg_num = pos p.pg_num;
  pgp_num = pos p.pgp_num;
  rule = pos p.rule;
  size = pos p.size;
}

-- an OSD under its number
abbrev pub osd_part : ℕ → OsdState → OsdPart
osd_part n s = record { id = pos n; exists = s.exists; up = s.up; weight = pos s.weight }

-- what is worth a line: an OSD that exists, or has a reweight
abbrev pub is_notable : OsdState → Bool
is_notable s = s.exists || not (s.weight == 0)

-- what is listed of an OSD, where it is worth a line
abbrev pub part_listed : ClusterMap → ℕ → Option OsdPart
part_listed m n = option_and_then (λ s. if is_notable s then Some (osd_part n s) else None) (osd_at m n)

-- the OSDs by number upwards
abbrev pub osd_parts : ClusterMap → List OsdPart
osd_parts m = filter_map (part_listed m) (range_with_len 0 (length m.presences))

-- a group
abbrev pub pg_part : Pg → PgParts
pg_part g = record { pool = Some g.pool; number = Some g.number }

-- a pair
abbrev pub pair_part : Pair → PairPart
pair_part p = record { from = pos p.from; to = pos p.to }

-- an exception of a group, by what states each of its entries
abbrev pub exception_part : {E P : Type 0} → (E → P) → Exception E → ExceptionPart P
exception_part entry_part e = record { pg = pg_part e.pg; entries = map entry_part e.entries }

-- a map is written in version 2 where a rule of it sets tries, else in version 1
abbrev pub version_of : List NumberedRule → ℤ
version_of rules = if list_any (λ r. list_any sets_tries r.rule.steps) rules then pos 2 else pos 1

-- each list in the map's order
unfoldable pub parts_of : ClusterMap → MapParts
parts_of m = record {
  version = version_of m.rules;
  epoch = pos m.epoch;
  max_osd = pos (length m.presences);
  buckets = map bucket_part m.buckets;
  rules = map rule_part m.rules;
  pools = map pool_part m.pools;
  osds = osd_parts m;
  pg_upmap = map (exception_part pos) m.explicit;
  pg_upmap_items = map (exception_part pair_part) m.items;
}
