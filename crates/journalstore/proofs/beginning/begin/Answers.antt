use Rattle.std.proofs.Common.{◌≡◌, true, subst, rules}
use Rattle.sqlite.specs.Files.{over_files}
use Rattle.journalstore.specs.Stores.{Holds}
use Rattle.journalstore.proofs.beginning.begin.Goals as goal

pub returns-clause-begun : goal.returns-clause-begun
returns-clause-begun g c =
    let begun : c.is_begun.result ≡ true = search rules in
    subst (Holds over_files c.in_ok-texts.texts) (c.is_begun.ensures.0 begun) c.in_ok-texts.ensures.holds
