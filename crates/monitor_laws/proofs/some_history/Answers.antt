-- A seat makes a change and looks at it, and a follower reads it.
use Rattle.monitor_laws.proofs.Events.{some_events}
use Rattle.monitor_laws.proofs.some_history.Goals as goal

pub returns : goal.returns
returns c = some_events
