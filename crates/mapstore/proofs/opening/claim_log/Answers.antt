use Rattle.sqlite.specs.Files.{over_files}
use Rattle.mapstore.proofs.KeepLemmas.{holds_still}
use Rattle.mapstore.proofs.opening.claim_log.Goals as goal

pub returns-clause-holds : goal.returns-clause-holds
returns-clause-holds g c = holds_still over_files c.args.store c.in_ok-texts.texts c.in_ok-texts.ensures.holds
