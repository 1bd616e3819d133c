use Rattle.server_laws.proofs.Sound.{tells_as_law}
use Rattle.server_laws.proofs.tells_as_law.Goals as goal

pub returns : goal.returns
returns c = tells_as_law
