-- Parts that are lists of a fixed form, from the values at their places.
use Rattle.std.specs.Prelude.{ℤ}
use Rattle.mapparts.specs.declared.parts.ItemPart.{ItemPart}
use Rattle.mapparts.specs.declared.parts.PairPart.{PairPart}
use Rattle.mapparts.specs.declared.parts.GrowPart.{GrowPart}
use Rattle.mapparts.specs.declared.change.ReweightPart.{ReweightPart}
use Rattle.partjson.specs.declared.loads.RawLoad.{RawLoad}

-- an item: [id, weight]
abbrev pub item_placed : ℤ × ℤ → ItemPart
item_placed p = record { id = p.0; weight = p.1 }

-- a pair: [from, to]
abbrev pub pair_at : ℤ × ℤ → PairPart
pair_at p = record { from = p.0; to = p.1 }

-- a reweight: [osd, weight]
abbrev pub reweight_at : ℤ × ℤ → ReweightPart
reweight_at p = record { osd = p.0; weight = p.1 }

-- a load: [osd, carried]
abbrev pub load_at : ℤ × ℤ → RawLoad
load_at p = record { osd = p.0; carried = p.1 }

-- a growth: [pool, pg_num, pgp_num]
abbrev pub growth_at : ℤ × ℤ × ℤ → GrowPart
growth_at p = record { pool = p.0; pg_num = p.1; pgp_num = p.2 }
