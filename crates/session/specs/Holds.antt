-- How long a session has the lock for a run of questions.
use Rattle.std.specs.Prelude.{ℕ}

-- a session answers at most so many lines in one hold of the lock: a change of another session waits for no more
abbrev pub lines_in_a_hold : ℕ
lines_in_a_hold = 32
