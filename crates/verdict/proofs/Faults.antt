-- A refusal that is no lack of memory is a doubt.
use Rattle.std.proofs.Common.{◌≡◌, refl}
use Rattle.std.specs.Prelude.{Option, Some}
use Rattle.refusal.specs.declared.refused.Refusal.{Refusal}
use Rattle.refusal.specs.declared.refused.Refusal.TheVariants.{BadJson, BadField, BadLimit, BadForest, BadRule, BadPool, BadOsd, BadException, UnknownOsd, BadWeight, UnknownPool, PoolExists, UnknownGroup, BadNewException, DuplicatePart, JournalFull, BalanceRule, SeatSpent, NotSealed, BadCommand, AwaitSpent, NotStored, StaleEpoch, Memory as OutOfMemory}
use Rattle.verdict.specs.Stops.{IsRefusedAs}
use Rattle.verdict.specs.Verdicts.{stop_by}

-- what refuses a command is its fault, or memory ran out
pub fault_stops : (fault : Option Refusal) (r : Refusal) → fault ≡ Some r → IsRefusedAs fault (stop_by r)
fault_stops fault OutOfMemory is = tt
fault_stops fault (StaleEpoch current) is = (StaleEpoch current, is, refl)
fault_stops fault BadJson is = (BadJson, is, refl)
fault_stops fault BadField is = (BadField, is, refl)
fault_stops fault BadLimit is = (BadLimit, is, refl)
fault_stops fault BadForest is = (BadForest, is, refl)
fault_stops fault BadRule is = (BadRule, is, refl)
fault_stops fault BadPool is = (BadPool, is, refl)
fault_stops fault BadOsd is = (BadOsd, is, refl)
fault_stops fault BadException is = (BadException, is, refl)
fault_stops fault UnknownOsd is = (UnknownOsd, is, refl)
fault_stops fault BadWeight is = (BadWeight, is, refl)
fault_stops fault UnknownPool is = (UnknownPool, is, refl)
fault_stops fault PoolExists is = (PoolExists, is, refl)
fault_stops fault UnknownGroup is = (UnknownGroup, is, refl)
fault_stops fault BadNewException is = (BadNewException, is, refl)
fault_stops fault DuplicatePart is = (DuplicatePart, is, refl)
fault_stops fault JournalFull is = (JournalFull, is, refl)
fault_stops fault BalanceRule is = (BalanceRule, is, refl)
fault_stops fault SeatSpent is = (SeatSpent, is, refl)
fault_stops fault NotSealed is = (NotSealed, is, refl)
fault_stops fault BadCommand is = (BadCommand, is, refl)
fault_stops fault AwaitSpent is = (AwaitSpent, is, refl)
fault_stops fault NotStored is = (NotStored, is, refl)
