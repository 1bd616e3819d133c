use Rattle.std.proofs.Common.{arith}
use Rattle.std.proofs.lemmas.Grind.{common_steps}
use Rattle.std.proofs.lemmas.List.Elements.{filter_map-append}
use Rattle.cephimport.proofs.exceptions.set_parts.Goals as goal

pub loop-set-preserved : goal.loop-set-preserved
loop-set-preserved c = grind (arith, common_steps, filter_map-append)
