use Rattle.std.proofs.Common.{subst, sym, List, arith}
use Rattle.keylist.specs.Order.{IsRising}
use Rattle.keylist.proofs.KeyedOrder.{rising-filter}
use Rattle.maptypes.specs.declared.pg.Pg.{Pg}
use Rattle.maptypes.specs.Exceptions.{pg_key}
use Rattle.pgtable.proofs.Slicing.{in_pool}
use Rattle.pgtable.proofs.candidates.slice_in.Goals as goal

pub below_key-requires : goal.below_key-requires
below_key-requires c = subst (λ (gs : List Pg). IsRising pg_key gs) (sym c.from_key.ensures) (rising-filter pg_key _ c.args.groups.now c.requires)

pub returns : goal.returns
returns c = in_pool c.args.pool.now _ _ _ _ c.args.groups.now c.from_key.ensures c.below_key.ensures (omega (arith, c.key-2.ensures, c.id.ensures), omega (arith, c.key.ensures, c.id.ensures, c.from.ensures, c.pg_num.ensures.value))
