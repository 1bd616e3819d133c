use Rattle.std.proofs.Common.{subst}
use Rattle.state.specs.States.{StateFacts, facts, IsKept}
use Rattle.state.proofs.Journals.{epoch-kept}
use Rattle.state.proofs.state.State.map.Goals as goal

pub returns-clause-epoch : goal.returns-clause-epoch
returns-clause-epoch g c = epoch-kept _ c.self.inside.table (subst (λ (k : StateFacts). IsKept k c.self.inside.table) c.self.view_is c.self.invariant.0)
