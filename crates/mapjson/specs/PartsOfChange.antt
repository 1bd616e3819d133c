-- The parts that state a change.
use Rattle.std.specs.Prelude.{ℕ, pos, map, option_map}
use Rattle.mapparts.specs.declared.parts.GrowPart.{GrowPart}
use Rattle.mapparts.specs.declared.parts.CrushParts.{CrushParts}
use Rattle.mapparts.specs.declared.parts.ExceptionPart.{ExceptionPart}
use Rattle.mapparts.specs.declared.pg_parts.PgParts.{PgParts}
use Rattle.mapparts.specs.declared.change.ExceptionChanges.{ExceptionChanges}
use Rattle.maptypes.specs.CrushMaps.{CrushFacts}
use Rattle.maptypes.specs.Growth.{Growth}
use Rattle.maptypes.specs.declared.change.ChangeParts.{ChangeParts}
use Rattle.maptypes.specs.declared.change.Reweight.{Reweight}
use Rattle.maptypes.specs.declared.exception.Exception.{Exception}
use Rattle.maptypes.specs.declared.pg.Pg.{Pg}
use Rattle.mapparts.specs.declared.change.RawChange.{RawChange}
use Rattle.mapparts.specs.declared.change.ReweightPart.{ReweightPart}
use Rattle.osdmap.specs.PartsOf.{bucket_part, rule_part, pool_part, pg_part, pair_part, exception_part}

-- the part that states how a pool grows
abbrev pub growth_part : Growth → GrowPart
growth_part g = record { pool = pos g.pool; pg_num = pos g.pg_num; pgp_num = pos g.pgp_num }

-- the part that states the new reweight of an OSD
abbrev pub reweight_part : Reweight → ReweightPart
reweight_part w = record { osd = pos w.osd; weight = pos w.weight }

-- the buckets and the rules of a CRUSH map, each in its order
abbrev pub crush_parts : CrushFacts → CrushParts
crush_parts k = record { buckets = map bucket_part k.buckets; rules = map rule_part k.rules }

-- the groups and the exceptions of one kind
abbrev pub exceptions_part : {E P : Type 0} → (E → P) → ExceptionChanges Pg (Exception E)
    → ExceptionChanges PgParts (ExceptionPart P)
exceptions_part part c = record { gone = map pg_part c.gone; come = map (exception_part part) c.come }

-- a change with the epoch to which it applies, each list in the change's order
abbrev pub change_parts : ℕ → ChangeParts → RawChange
change_parts base c = record {
  base = pos base;
  pools = record {
    gone = map pos c.pools.gone;
    come = map pool_part c.pools.come;
    grow = map growth_part c.pools.grow;
  };
  crush = option_map crush_parts c.crush;
  osds = record { down = map pos c.osds.down; up = map pos c.osds.up };
  weights = map reweight_part c.weights;
  explicit = exceptions_part pos c.explicit;
  items = exceptions_part pair_part c.items;
}
