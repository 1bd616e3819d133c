-- What a crate above says of a lock, and of its seats, turns and guards.
use Rattle.std.specs.Prelude.{◌≡◌, ℕ}
use Rattle.ticketlock.specs.declared.fact.Fact as fact
use Rattle.ticketlock.specs.declared.table.Words.{Words}
use Rattle.ticketlock.specs.declared.lock.Lock.{Lock}
use Rattle.ticketlock.specs.declared.tokens.Seat.{Seat}
use Rattle.ticketlock.specs.declared.tokens.QueuedRead.{QueuedRead}
use Rattle.ticketlock.specs.declared.tokens.QueuedWrite.{QueuedWrite}
use Rattle.ticketlock.specs.declared.tokens.TurnRead.{TurnRead}
use Rattle.ticketlock.specs.declared.tokens.TurnWrite.{TurnWrite}
use Rattle.ticketlock.specs.declared.read_guard.ReadGuard.{ReadGuard}
use Rattle.ticketlock.specs.declared.write_guard.WriteGuard.{WriteGuard}
use Rattle.ticketlock.specs.Rule.{newcomer}
use Rattle.ticketlock.specs.Places.{unseeing}
use Rattle.ticketlock.specs.Standing.{IsAt, sight_of}
use Rattle.ticketlock.specs.Guards.{first_of_read, first_of_write}

-- a seat at these words that has seen nothing and made no step
abbrev pub IsNewAt : Words → Seat → Type 0
IsNewAt words seat = IsAt words seat.place × (sight_of seat.place ≡ unseeing newcomer)

module _ {T : Type 0} {f : fact.Ghosts T} (lock : Lock T f) where
  -- the value that the lock was made with
  abbrev pub first_of : T
  first_of = lock.slots.left.value

  -- how often a seat of the lock may draw
  abbrev pub limit_of : ℕ
  limit_of = lock.words.limit

  -- a seat of this lock that has made no step
  abbrev pub IsNewOf : Seat → Type 0
  IsNewOf = IsNewAt lock.words

  -- the token is one of this lock
  abbrev pub IsSeatOf : Seat → Type 0
  IsSeatOf seat = IsAt lock.words seat.place

  -- a wait to read is one at this lock
  abbrev pub IsQueuedReadOf : QueuedRead → Type 0
  IsQueuedReadOf queued = IsAt lock.words queued.place

  -- a wait to write is one at this lock
  abbrev pub IsQueuedWriteOf : QueuedWrite → Type 0
  IsQueuedWriteOf queued = IsAt lock.words queued.place

  -- a turn to read is one of this lock
  abbrev pub IsTurnReadOf : TurnRead → Type 0
  IsTurnReadOf turn = IsAt lock.words turn.place

  -- a turn to write is one of this lock
  abbrev pub IsTurnWriteOf : TurnWrite → Type 0
  IsTurnWriteOf turn = IsAt lock.words turn.place

  -- the guard is one of this lock, and knows the value that the lock was made with
  abbrev pub IsReadOf : ReadGuard T → Type 0
  IsReadOf guard = IsAt lock.words guard.turn.place × (first_of_read guard ≡ first_of)

  -- a guard to write is one of this lock, and knows the value that the lock was made with
  abbrev pub IsWriteOf : WriteGuard T → Type 0
  IsWriteOf guard = IsAt lock.words guard.turn.place × (first_of_write guard ≡ first_of)

  -- what a turn gives: a guard of this lock that has the turn, and whose value to write meets the fact
  abbrev pub GivesRead : TurnRead → ReadGuard T → Type 0
  GivesRead turn guard = (guard.turn ≡ turn) × IsReadOf guard

module _ {T : Type 0} {f : fact.Ghosts T} (fact_of : T → T → Type 0) (lock : Lock T f) where
  -- a turn to write gives a guard that has the turn, and whose value meets the fact
  abbrev pub GivesWrite : TurnWrite → WriteGuard T → Type 0
  GivesWrite turn guard = (guard.turn ≡ turn) × IsWriteOf lock guard × fact_of (first_of lock) guard.value
