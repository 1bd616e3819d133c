-- The arguments that the programs have in common, by the parser's own definitions of what it finds in words.
use Rattle.std.specs.Prelude.{◌≡◌, ◌≢◌, ◌⊎◌, ◌<◌, ◌≤◌, ◌^◌, Bool, String, ℕ, pos, false, List, [], ◌∷◌, length, map, codes, Option, Some, unwrap_or, Result, Ok, Err, string_bytes}
use Rattle.std.specs.declared.alloc.Global.{Global}
use Rattle.std.specs.Str.{bytes_eq}
use Rattle.std.specs.Str.Parse.{IsNumeral, digits_value, without_leading_plus}
use Rattle.clap.specs.declared.builder.arg.Arg.{Arg}
use Rattle.clap.specs.declared.builder.action.ArgAction.TheVariants.{Set, Append, SetTrue}
use Rattle.clap.specs.declared.builder.value_parser.ValueParser.TheVariants.{Signed}
use Rattle.clap.specs.declared.error.kind.ErrorKind.{ErrorKind}
use Rattle.clap.specs.declared.error.kind.ErrorKind.TheVariants.{DisplayHelp, DisplayVersion, OutOfMemory}
use Rattle.clap.specs.Kinds.{Kinds, IsAmong}
use Rattle.clap.specs.Faults.{fault_of}
use Rattle.clap.specs.Walk.{Row, Rule, Text, all_of, one_of, rule_of}
use Rattle.clap.specs.Simple.{App, matches_of, new_rule}
use Rattle.epochlog.specs.Epochs.{max_capacity}
use Rattle.mapparts.specs.declared.profile.Profile.{Profile}
use Rattle.mapparts.specs.declared.profile.Profile.TheVariants.{Plain, Stock}
use Rattle.server.specs.Serving.{max_scripts}
use Rattle.cli.specs.declared.choices.SessionOptions.{SessionOptions}
use Rattle.cli.specs.declared.choices.LineError.{LineError}
use Rattle.cli.specs.declared.choices.LineError.TheVariants.{Help, Usage, TooMany, Unpaired, Memory}

-- ---- the arguments

-- `--journal N`, N a number from 1 to 65,536, and 1,024 where it is not given
abbrev pub journal_rule : Rule
journal_rule = record (new_rule (codes "journal")) {
  long = Some (codes "journal");
  action = Some Set;
  value_names = 1;
  defaults = codes "1024" ∷ [];
  parser = Some (Signed (pos 1) (pos max_capacity));
}

-- `--stock`
abbrev pub stock_rule : Rule
stock_rule = record (new_rule (codes "stock")) { long = Some (codes "stock"); action = Some SetTrue }

-- `--to ANSWERS`, as often as one likes
abbrev pub to_rule : Rule
to_rule = record (new_rule (codes "to")) { long = Some (codes "to"); action = Some Append; value_names = 1 }

-- an argument is read by a rule, at this command alone
abbrev pub IsReadBy : Rule → Arg → Type 0
IsReadBy rule arg = (rule_of arg ≡ rule) × (arg.global ≡ false)

-- ---- what is found

-- what the parser of an app finds in the words, the program's name first
unfoldable pub found_by : App → List Text → List Row
found_by app words = matches_of app words

-- what it has against the words; nothing where it takes them
unfoldable pub faults_by : App → List Text → Kinds
faults_by app words = fault_of app words

-- the number of the text that was found for an id: decimal digits, a plus before them aside
abbrev pub IsNumberOf : Text → List Row → ℕ → Type 0
IsNumberOf id rows n =
    (text : Text) × (one_of id rows ≡ Some text) × IsNumeral 10 (without_leading_plus text)
    × (n ≡ digits_value 10 (without_leading_plus text))

-- the journal that was found
abbrev pub IsJournalIn : List Row → ℕ → Type 0
IsJournalIn rows n = IsNumberOf (codes "journal") rows n

-- no journal of 32 bits was found
abbrev pub HasNoJournal : List Row → Type 0
HasNoJournal rows = (n : ℕ) → n < 2 ^ 32 → IsJournalIn rows n → ⊥

-- what is found for `--stock` where it is given, and where it is not
abbrev pub stock_word : Profile → Text
stock_word Plain = codes "false"
stock_word Stock = codes "true"

-- the profile that was asked for by `--stock`
abbrev pub IsProfileIn : List Row → Profile → Type 0
IsProfileIn rows profile =
    (asked : Profile) → one_of (codes "stock") rows ≡ Some (stock_word asked) → profile ≡ asked

-- the paths that were found for an id: none where it is not given
abbrev pub paths_in : Text → List Row → List Text
paths_in id rows = unwrap_or (all_of id rows) []

-- the scripts' paths
abbrev pub script_paths_in : List Row → List Text
script_paths_in rows = paths_in (codes "SCRIPT") rows

-- the answers' paths
abbrev pub answer_paths_in : List Row → List Text
answer_paths_in rows = paths_in (codes "to") rows

-- there are as many files of answers as scripts, or none
abbrev pub ArePaired : ℕ → ℕ → Type 0
ArePaired scripts answers = (answers ≢ 0) → answers ≡ scripts

-- a script that is standard input, or a file of answers that is standard output: its path is a hyphen alone
abbrev pub is_standard : String Global → Bool
is_standard path = bytes_eq (string_bytes path) (codes "-")

-- the options of sessions are what was found for the journal, the profile, the scripts and their answers
pub record AreFoundSessions (rows : List Row) (o : SessionOptions) : Type 0 where
  pub journal_found : IsJournalIn rows o.journal
  pub profile_found : IsProfileIn rows o.profile
  pub scripts_found : script_paths_in rows ≡ map string_bytes o.scripts.items
  pub answers_found : answer_paths_in rows ≡ map string_bytes o.answers.items

-- the options of what was found, of which the scripts are at most 64; or more were found, or files of answers, but not
-- one for each script. Which options are found is a program's own.
abbrev pub Chooses : {O : Type 0} → (List Row → O → Type 0) → List Row → Result O LineError → Type 0
Chooses AreFound rows (Ok o) = AreFound rows o × (length (script_paths_in rows) ≤ max_scripts)
Chooses AreFound rows (Err (Help text)) = ⊥
Chooses AreFound rows (Err (Usage text)) = ⊥
Chooses AreFound rows (Err TooMany) = max_scripts < length (script_paths_in rows)
Chooses AreFound rows (Err Unpaired) =
    ArePaired (length (script_paths_in rows)) (length (answer_paths_in rows)) → ⊥
Chooses AreFound rows (Err Memory) = Unit {0}

-- the parser asks for help or a version to be shown
abbrev pub IsRequest : ErrorKind → Type 0
IsRequest kind = (kind ≡ DisplayHelp) ⊎ (kind ≡ DisplayVersion)

-- what is told of the parser's reason
abbrev pub TellsOf : ErrorKind → LineError → Type 0
TellsOf kind (Help text) = IsRequest kind
TellsOf kind (Usage text) = (IsRequest kind → ⊥) × (kind ≢ OutOfMemory)
TellsOf kind TooMany = ⊥
TellsOf kind Unpaired = ⊥
TellsOf kind Memory = Unit {0}

-- the options of words against which the parser of an app has nothing; or why there are none: the parser's reason, or
-- more scripts than 64, or not as many files of answers as scripts
abbrev pub ReadsBy : {O : Type 0} → App → (List Row → O → Type 0) → List Text → Result O LineError → Type 0
ReadsBy app AreFound words (Ok o) = (faults_by app words ≡ []) × Chooses AreFound (found_by app words) (Ok o)
ReadsBy app AreFound words (Err (Help text)) =
    (kind : ErrorKind) × IsAmong kind (faults_by app words) × IsRequest kind
ReadsBy app AreFound words (Err (Usage text)) =
    (kind : ErrorKind) × IsAmong kind (faults_by app words) × (IsRequest kind → ⊥)
ReadsBy app AreFound words (Err TooMany) =
    (faults_by app words ≡ []) × Chooses AreFound (found_by app words) (Err TooMany)
ReadsBy app AreFound words (Err Unpaired) =
    (faults_by app words ≡ []) × Chooses AreFound (found_by app words) (Err Unpaired)
ReadsBy app AreFound words (Err Memory) = Unit {0}
