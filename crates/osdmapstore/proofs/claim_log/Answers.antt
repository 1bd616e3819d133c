use Rattle.mapstore.specs.JournalTexts.{begun}
use Rattle.osdmapstore.proofs.claim_log.Goals as goal

pub returns-in-Ok-clause-holds : goal.returns-in-Ok-clause-holds
returns-in-Ok-clause-holds g c = c.in-Ok.ensures.holds (begun c.args.first.map.map) c.requires.holds

pub returns-in-Ok-clause-found : goal.returns-in-Ok-clause-found
returns-in-Ok-clause-found g c db t clean held stands = c.requires.found db t (c.in-Ok.ensures.clean clean) held stands
