-- How a run of a program ends: its status, and what it tells on standard error.
use Rattle.std.specs.Prelude.{◌≡◌, ◌⊎◌, ℕ, List, [], ◌++◌, codes, Option, Some, None, Result, Ok, Err, IfErr, IsErrAnd, MatchResult, string_bytes, nat_lt, count_by, if◌then◌else◌}
use Rattle.std.specs.Borrow.{Bor}
use Rattle.std.specs.declared.io.ErrorKind.{ErrorKind}
use Rattle.std.specs.declared.io.ErrorKind.TheVariants.{OutOfMemory}
use Rattle.refusal.specs.Refusals.{name_of}
use Rattle.cli.specs.declared.choices.SessionOptions.{SessionOptions}
use Rattle.cli.specs.declared.choices.LineError.{LineError}
use Rattle.cli.specs.declared.choices.LineError.TheVariants as line
use Rattle.server.specs.declared.fault.Fault.{Fault}
use Rattle.server.specs.declared.fault.Fault.TheVariants as fault
use Rattle.cli.specs.declared.ending.Ending.{Ending}
use Rattle.cli.specs.declared.ending.Ending.TheVariants.{Usage, NoText, TooManyScripts, Unpaired, TwoInputs, TwoOutputs, Map, File, Output, Told, Lost, Memory}
use Rattle.cli.specs.Arguments.{is_standard}

-- ---- what is seen of an ending

-- the exit status: 1 for the command line, 2 for the map, 3 for files and the output, 4 for memory, 7 for a change that
-- is lost
abbrev pub status_of : Ending → ℕ
status_of (Usage text) = 1
status_of NoText = 1
status_of TooManyScripts = 1
status_of Unpaired = 1
status_of TwoInputs = 1
status_of TwoOutputs = 1
status_of (Map refusal) = 2
status_of (File path) = 3
status_of Output = 3
status_of Told = 3
status_of Lost = 7
status_of Memory = 4

-- what is told: the parser's own text, or a line, or nothing where all was told before
abbrev pub text_of : Ending → List ℕ
text_of (Usage text) = text.now
text_of NoText = codes "an argument is not UTF-8\n"
text_of TooManyScripts = codes "too many scripts\n"
text_of Unpaired = codes "not as many --to as scripts\n"
text_of TwoInputs = codes "standard input is given twice\n"
text_of TwoOutputs = codes "standard output is given twice\n"
text_of (Map refusal) = codes "map: " ++ name_of refusal ++ codes "\n"
text_of (File path) = codes "file: " ++ path.now ++ codes "\n"
text_of Output = codes "output\n"
text_of Told = []
text_of Lost = codes "a change is lost\n"
text_of Memory = codes "memory\n"

-- the exit status of a run: 0 where all is done
abbrev pub run_status : Result Unit Ending → ℕ
run_status (Ok done) = 0
run_status (Err ending) = status_of ending

-- ---- the ending of each fault

-- the words cannot be read: out of memory, else one is not UTF-8
abbrev pub words_ending : ErrorKind → Ending
words_ending OutOfMemory = Memory
words_ending kind = NoText

-- a file cannot be read: out of memory, else whatever the system says
abbrev pub file_ending : ErrorKind → Bor (List ℕ) → Ending
file_ending OutOfMemory path = Memory
file_ending kind path = File path

-- a run that is served into memory, so that its output fails only where that is short
abbrev pub fault_ending : Fault → Ending
fault_ending (fault.Map refusal) = Map refusal
fault_ending fault.Output = Memory
fault_ending fault.Told = Told
fault_ending fault.Lost = Lost
fault_ending fault.Memory = Memory

-- answers that were served are put out, or the run ends by the fault that serving met, or for its output
abbrev pub EndsServed : Result Unit Fault → Result Unit Ending → Type 0
EndsServed (Ok done) r = IfErr r (λ e. e ≡ Output)
EndsServed (Err fault) r = MatchResult r (λ done. ⊥) (λ e. (e ≡ fault_ending fault) ⊎ (e ≡ Output))

-- a command line that asks for no run: help is a text to show, and all else is an ending
abbrev pub EndsLine : LineError → Result (Bor (List ℕ)) Ending → Type 0
EndsLine (line.Help text) r = MatchResult r (λ help. help.now ≡ string_bytes text) (λ e. ⊥)
EndsLine (line.Usage text) r = MatchResult r (λ help. ⊥) (λ e. (status_of e ≡ 1) × (text_of e ≡ string_bytes text))
EndsLine line.Unpaired r = MatchResult r (λ help. ⊥) (λ e. e ≡ Unpaired)
EndsLine line.TooMany r = MatchResult r (λ help. ⊥) (λ e. e ≡ TooManyScripts)
EndsLine line.Memory r = MatchResult r (λ help. ⊥) (λ e. e ≡ Memory)

-- how a run ends that the command line does not ask for: help is shown, or the output failed; all else is told
abbrev pub TellsLine : LineError → Result Unit Ending → Type 0
TellsLine (line.Help text) r = IfErr r (λ e. e ≡ Output)
TellsLine (line.Usage text) r = IsErrAnd r (λ e. (status_of e ≡ 1) × (text_of e ≡ string_bytes text))
TellsLine line.Unpaired r = IsErrAnd r (λ e. e ≡ Unpaired)
TellsLine line.TooMany r = IsErrAnd r (λ e. e ≡ TooManyScripts)
TellsLine line.Memory r = IsErrAnd r (λ e. e ≡ Memory)

-- what is wrong with the streams of a run: more than one script is standard input, or more than one file of answers is
-- standard output
abbrev pub stream_fault : SessionOptions → Option Ending
stream_fault o =
    if nat_lt 1 (count_by is_standard o.scripts.items) then Some TwoInputs
    else if nat_lt 1 (count_by is_standard o.answers.items) then Some TwoOutputs else None

-- it is told, exactly where there is something
abbrev pub ChecksStreams : SessionOptions → Result Unit Ending → Type 0
ChecksStreams o r = MatchResult r (λ done. stream_fault o ≡ None) (λ e. stream_fault o ≡ Some e)
