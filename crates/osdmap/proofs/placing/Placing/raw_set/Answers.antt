use Rattle.osdmap.proofs.PlacementLemmas.{short_within}
use Rattle.osdmap.proofs.placing.Placing.raw_set.Goals as goal

pub set_of_existing-requires : goal.set_of_existing-requires
set_of_existing-requires c = rw (c.result.ensures, c.in_ok-run.ensures.placed) (short_within _ _ _ _ c.size.ensures.few)
