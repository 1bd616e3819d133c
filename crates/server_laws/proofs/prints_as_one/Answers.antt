use Rattle.server_laws.proofs.Run.{prints_as_one}
use Rattle.server_laws.proofs.prints_as_one.Goals as goal

pub returns : goal.returns
returns c = prints_as_one
