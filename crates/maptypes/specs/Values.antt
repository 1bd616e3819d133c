-- The values that parts within their limits stand for.
use Rattle.std.specs.Prelude.{nat_abs, unwrap_or, map}
use Rattle.buckets.specs.declared.bucket.Item.{Item}
use Rattle.buckets.specs.declared.bucket.Bucket.{Bucket}
use Rattle.crush.specs.declared.step.Step.{Step}
use Rattle.crush.specs.declared.step.Step.TheVariants.{SetChooseTries as TryFor, SetChooseleafTries as TryForLeaves, SetChooseleafVaryR as VaryLeaves, SetChooseleafStable as SettleLeaves, Take as TakeBucket, Choose as ChooseBy, Emit as EmitAll}
use Rattle.crush.specs.Rules.{Recipe}
use Rattle.mapparts.specs.declared.parts.BucketPart.{BucketPart}
use Rattle.mapparts.specs.declared.parts.ItemPart.{ItemPart}
use Rattle.mapparts.specs.declared.parts.RulePart.{RulePart}
use Rattle.mapparts.specs.declared.parts.StepPart.{StepPart}
use Rattle.mapparts.specs.declared.parts.StepPart.TheVariants.{SetChooseTries, SetChooseleafTries, SetChooseleafVaryR, SetChooseleafStable, Take, Choose as Chooses, Emit}
use Rattle.mapparts.specs.declared.parts.PoolPart.{PoolPart}
use Rattle.mapparts.specs.declared.parts.GrowPart.{GrowPart}
use Rattle.mapparts.specs.declared.parts.ExceptionPart.{ExceptionPart}
use Rattle.mapparts.specs.declared.parts.PairPart.{PairPart}
use Rattle.mapparts.specs.declared.pg_parts.PgParts.{PgParts}
use Rattle.maptypes.specs.declared.pg.Pg.{Pg}
use Rattle.maptypes.specs.declared.exception.Exception.{Exception}
use Rattle.maptypes.specs.declared.exception.Pair.{Pair}
use Rattle.maptypes.specs.declared.rules.NumberedRule.{NumberedRule}
use Rattle.maptypes.specs.Pools.{PoolFacts}
use Rattle.maptypes.specs.Growth.{Growth}

-- an item
abbrev pub item_of : ItemPart → Item
item_of i = record { id = i.id; weight = nat_abs i.weight }

-- a bucket
abbrev pub bucket_of : BucketPart → Bucket
bucket_of b = record { id = b.id; level = nat_abs b.level; kind = b.kind; items = map item_of b.items }

-- a step
abbrev pub step_of : StepPart → Step
step_of (SetChooseTries tries) = TryFor (nat_abs tries)
step_of (SetChooseleafTries tries) = TryForLeaves (nat_abs tries)
step_of (SetChooseleafVaryR vary) = VaryLeaves (nat_abs vary)
step_of (SetChooseleafStable stable) = SettleLeaves (nat_abs stable)
step_of (Take id) = TakeBucket id
step_of (Chooses c) =
    ChooseBy (record { mode = c.mode; to_leaf = c.to_leaf; count = nat_abs c.count; level = nat_abs c.level })
step_of Emit = EmitAll

-- a rule without its id
abbrev pub recipe_of : RulePart → Recipe
recipe_of r = record { kind = r.kind; steps = map step_of r.steps }

-- a rule under its id
abbrev pub rule_of : RulePart → NumberedRule
rule_of r = record { id = nat_abs r.id; rule = recipe_of r }

-- a pool
abbrev pub pool_of : PoolPart → PoolFacts
pool_of p = record {
  id = nat_abs p.id;
  kind = p.kind;
  pg_num = nat_abs p.pg_num;
  pgp_num = nat_abs p.pgp_num;
  rule = nat_abs p.rule;
  size = nat_abs p.size;
}

-- how a pool grows
abbrev pub growth_of : GrowPart → Growth
growth_of g = record { pool = nat_abs g.pool; pg_num = nat_abs g.pg_num; pgp_num = nat_abs g.pgp_num }

-- a group
abbrev pub pg_of : PgParts → Pg
pg_of g = record { pool = unwrap_or g.pool 0; number = unwrap_or g.number 0 }

-- a pair
abbrev pub pair_of : PairPart → Pair
pair_of p = record { from = nat_abs p.from; to = nat_abs p.to }

-- an exception, by what its entries are
abbrev pub exception_of : {P E : Type 0} → (P → E) → ExceptionPart P → Exception E
exception_of entry_of e = record { pg = pg_of e.pg; entries = map entry_of e.entries }
