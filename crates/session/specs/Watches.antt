-- The looks of an `await`.
use Rattle.std.specs.Prelude.{◌≡◌, ◌+◌, ◌<◌, ◌≤◌, ℕ, false, true, length}
use Rattle.monitor.specs.Members.{Monitored}
use Rattle.session.specs.declared.watch.Looks.{Looks}

-- how often an `await` looks for its epoch
abbrev pub max_looks : ℕ
max_looks = 1000000

-- an `await` of an epoch at a monitor has looked at most so often, and just as often where it has not seen its epoch;
-- it has seen the epoch by a look, and never one beyond the journal
pub record HasWatched (monitor : Monitored) (wanted : ℕ) (looks : Looks) : Type 0 where
  pub most : looks.count ≤ max_looks
  pub unseen : looks.seen ≡ false → looks.count ≡ max_looks
  pub looked : looks.seen ≡ true → 1 ≤ looks.count
  pub first : wanted ≤ monitor.first.epoch → looks.seen ≡ true
  pub last : monitor.first.epoch + length monitor.row.cells < wanted → looks.seen ≡ false
