-- A monitor as it is opened has it, and each event keeps it.
use Rattle.monitor_laws.proofs.Steps.{sound}
use Rattle.monitor_laws.proofs.one_history.Goals as goal

pub returns : goal.returns
returns c first row table seats followers events last few begins is_table run =
    sound first row table seats followers events last few begins is_table run
