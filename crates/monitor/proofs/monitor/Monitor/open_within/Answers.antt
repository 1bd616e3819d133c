use Rattle.std.proofs.Common.{subst, sym}
use Rattle.epochlog.specs.Epochs.{IsRowSize}
use Rattle.monitor.proofs.Within.{within, sized}
use Rattle.monitor.proofs.monitor.Monitor.open_within.Goals as goal

pub lock_state-requires-clause-within : goal.lock_state-requires-clause-within
lock_state-requires-clause-within g c = within c.args.map.map.epoch c.args.limits.journal c.args.limits.seats c.args.limits.draws c.requires.limits

pub of_fitting-requires : goal.of_fitting-requires
of_fitting-requires g c = subst (λ epoch. IsRowSize epoch c.args.limits.journal) (sym c.epoch.ensures)
    (sized c.args.map.map.epoch c.args.limits.journal c.args.limits.seats c.args.limits.draws c.requires.limits)
