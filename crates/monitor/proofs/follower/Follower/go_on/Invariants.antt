use Rattle.std.proofs.Common.{◌≡◌, ◌+◌, ◌<◌, ◌≤◌, length}
use Rattle.epochlog.specs.Epochs.{Begins}
use Rattle.monitor.specs.Followers.{GoesOnFrom}
use Rattle.monitor.proofs.follower.Follower.go_on.Given as goal

abbrev pub invariant-loop : goal.invariant-loop
invariant-loop l =
    GoesOnFrom l.fn.self l.self
    × (length l.self.history ≡ length l.fn.self.history + l.counter)
    × (0 < l.counter → Begins l.self.history l.self.seen × (length l.self.seen ≤ length l.row.cells))
