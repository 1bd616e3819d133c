-- What guards know of the value.
use Rattle.std.specs.Prelude.{◌≡◌, Some}
use Rattle.ticketlock.specs.declared.read_guard.ReadGuard.{ReadGuard}
use Rattle.ticketlock.specs.declared.write_guard.WriteGuard.{WriteGuard}

module _ {T : Type 0} where
  -- the value that the guard's lock was made with
  abbrev pub first_of_read : ReadGuard T → T
  first_of_read guard = guard.claim.tag.value

  -- the value that the lock of a guard to write was made with
  abbrev pub first_of_write : WriteGuard T → T
  first_of_write guard = guard.home.tag.value

  -- the guard lends this value
  abbrev pub Shows : ReadGuard T → T → Type 0
  Shows guard value = guard.claim.value ≡ Some (Some (record { value = value }))
