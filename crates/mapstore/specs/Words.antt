-- The words of the errors.
use Rattle.std.specs.Prelude.{ℕ, List, ◌++◌, codes}
use Rattle.std.specs.Fmt.{decimal}
use Rattle.replay.specs.Replays.{fault_text}
use Rattle.journalstore.specs.Faults.{said}
use Rattle.mapstore.specs.declared.error.OpenError.{OpenError}
use Rattle.mapstore.specs.declared.error.OpenError.TheVariants.{Store, Journal, NoProfile, LateEpoch}

-- what an error says
abbrev pub open_error_text : OpenError → List ℕ
open_error_text (Store e) = said e
open_error_text (Journal fault) = fault_text fault
open_error_text (NoProfile epoch) = codes "row " ++ decimal epoch ++ codes ": no profile"
open_error_text (LateEpoch epoch) =
    codes "the map has epoch " ++ decimal epoch ++ codes ", and the first at most 2147483648"
