use Rattle.std.proofs.Common.{rules}
use Rattle.keylist.proofs.Each.{list_all-at}
use Rattle.mapparts.specs.Limits.{stock}
use Rattle.mapparts.specs.Parts.{exception_fits}
use Rattle.mapparts.proofs.Within.{each_fits}
use Rattle.maptypes.proofs.exception_parts.exceptions_of.Goals as goal

pub exception_of-requires : goal.exception_of-requires
exception_of-requires g c =
    let fits = list_all-at (exception_fits (g.P.Limited.within stock)) c.args.parts.now c.loop-part.part-index c.part-item.result c.loop-part-test.true (each_fits _ _ c.requires) in
    (search rules, rw (← c.part-item.is) at fits)
