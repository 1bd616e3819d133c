-- The number and the name of each refusal, and when it comes.
use Rattle.std.specs.Prelude.{◌^◌, ◌≤◌, ◌<◌, ℕ, List, codes}
use Rattle.ticketlock.specs.declared.error.LockError.{LockError}
use Rattle.ticketlock.specs.declared.error.LockError.TheVariants.{BadLimit, Memory}

-- the number
abbrev pub lock_error_number : LockError → ℕ
lock_error_number BadLimit = 12
lock_error_number Memory = 30

-- the name, as the bytes of its text
abbrev pub lock_error_name : LockError → List ℕ
lock_error_name BadLimit = codes "BadLimit"
lock_error_name Memory = codes "Memory"

-- a lock may have so many seats, each with so many draws
abbrev pub IsWithin : ℕ → ℕ → Type 0
IsWithin seats draws = (0 < seats) × (seats ≤ 1024) × (0 < draws) × (draws ≤ 2 ^ 40)

-- a limit is the error exactly where it is broken, and else memory
abbrev pub IsFault : ℕ → ℕ → LockError → Type 0
IsFault seats draws BadLimit = ¬ IsWithin seats draws
IsFault seats draws Memory = IsWithin seats draws
