-- How a run of the program ends: its status, and what it tells on standard error.
use Rattle.std.specs.Prelude.{◌≡◌, ℕ, List, [], ◌++◌, codes, Option, Some, None, Result, Ok, Err, MatchResult}
use Rattle.std.specs.Prelude.{option_map, string_bytes, if◌then◌else◌}
use Rattle.journalstore.specs.declared.error.StoreError.TheVariants.{Memory as NoMemory}
use Rattle.mapstore.specs.declared.error.OpenError.{OpenError}
use Rattle.mapstore.specs.declared.error.OpenError.TheVariants as opening
use Rattle.mapstore.specs.Words.{open_error_text}
use Rattle.cli.specs.declared.ending.Ending.TheVariants.{Memory}
use Rattle.cli.specs.declared.ending.Ending.{Ending as RunEnding}
use Rattle.cli.specs.Endings as run
use Rattle.osdmapstore.specs.Words.{is_word}
use Rattle.osdmapstore.specs.declared.choices.Options.{Options}
use Rattle.osdmapstore.specs.declared.ending.Ending.{Ending}
use Rattle.osdmapstore.specs.declared.ending.Ending.TheVariants.{Word, Store, Failed, Full, Run}

-- the exit status: 1 for a word that cannot sign a change, 5 for a store that is not begun or opened, 6 for one that
-- failed, 8 for a journal that is full, and what else ends a run by its own
abbrev pub store_status_of : Ending → ℕ
store_status_of Word = 1
store_status_of (Store error) = 5
store_status_of (Failed other) = 6
store_status_of Full = 8
store_status_of (Run ending) = run.status_of ending

-- what is told of what else ended a run
abbrev pub other_text_of : Option RunEnding → List ℕ
other_text_of (Some ending) = run.text_of ending
other_text_of None = []

-- what is told; that a store has failed, or that a journal is full, was told when it came
abbrev pub store_text_of : Ending → List ℕ
store_text_of Word = codes "the word of --by is not 1 to 64 characters of visible ASCII\n"
store_text_of (Store error) = codes "store: " ++ open_error_text error ++ codes "\n"
store_text_of (Failed other) = other_text_of other
store_text_of Full = []
store_text_of (Run ending) = run.text_of ending

-- the exit status of a run: 0 where all is done
abbrev pub store_run_status : Result Unit Ending → ℕ
store_run_status (Ok done) = 0
store_run_status (Err ending) = store_status_of ending

-- a store is not begun or opened: out of memory, else the error
abbrev pub open_ending : OpenError → Ending
open_ending (opening.Store NoMemory) = Run Memory
open_ending error = Store error

-- what is wrong with the word that is to sign changes, if there is one
abbrev pub word_fault : Option (List ℕ) → Option Ending
word_fault (Some word) = if is_word word then None else Some Word
word_fault None = None

-- what is wrong with streams, and else this
abbrev pub after_streams : Option RunEnding → Option Ending → Option Ending
after_streams (Some ending) other = Some (Run ending)
after_streams None other = other

-- what is wrong with options that the parser takes
abbrev pub option_fault : Options → Option Ending
option_fault o = after_streams (run.stream_fault o.sessions) (word_fault (option_map string_bytes o.by))

-- it is told, exactly where there is something
abbrev pub ChecksOptions : Options → Result Unit Ending → Type 0
ChecksOptions o r = MatchResult r (λ done. option_fault o ≡ None) (λ e. option_fault o ≡ Some e)
