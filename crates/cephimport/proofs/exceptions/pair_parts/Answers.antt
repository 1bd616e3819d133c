use Rattle.std.proofs.Common.{arith}
use Rattle.std.proofs.lemmas.Grind.{common_steps}
use Rattle.std.proofs.lemmas.List.Elements.{filter_map-append}
use Rattle.cephimport.proofs.exceptions.pair_parts.Goals as goal

pub loop-group-preserved : goal.loop-group-preserved
loop-group-preserved c = grind (arith, common_steps, filter_map-append)
