-- What the words of the command line ask for, by the parser's own definitions of what it finds in words.
use Rattle.std.specs.Prelude.{◌≡◌, ◌≢◌, ◌⊎◌, true, List, [], map, codes, Some, unwrap_or, Result, Ok, Err, string_bytes}
use Rattle.clap.specs.declared.builder.action.ArgAction.TheVariants.{Set, Append}
use Rattle.clap.specs.declared.error.kind.ErrorKind.{ErrorKind}
use Rattle.clap.specs.declared.error.kind.ErrorKind.TheVariants.{DisplayHelp, DisplayVersion, OutOfMemory}
use Rattle.clap.specs.Faults.{fault_of}
use Rattle.clap.specs.Kinds.{Kinds, IsAmong}
use Rattle.clap.specs.Lexer.{usize_max}
use Rattle.clap.specs.Simple.{App, matches_of, new_app, new_rule, on_top, with_rule}
use Rattle.clap.specs.Walk.{Row, Rule, Text, all_of}
use Rattle.readmap.specs.declared.choices.Options.{Options}
use Rattle.readmap.specs.declared.choices.WordsError.{WordsError}
use Rattle.readmap.specs.declared.choices.WordsError.TheVariants.{Help, Usage, Memory}

-- ---- the command

-- FILE, any number of words
abbrev pub file_rule : Rule
file_rule = record (new_rule (codes "FILE")) {
  action = Some Append;
  range = Some (record { start_inclusive = 0; end_inclusive = usize_max });
}

-- `--map FILE..`, one word or more behind it
abbrev pub texts_rule : Rule
texts_rule = record (new_rule (codes "map")) {
  long = Some (codes "map");
  action = Some Set;
  value_names = 1;
  range = Some (record { start_inclusive = 1; end_inclusive = usize_max });
}

-- `--judge SCRIPT FILE..`, two words or more behind it
abbrev pub judge_rule : Rule
judge_rule = record (new_rule (codes "judge")) {
  long = Some (codes "judge");
  action = Some Set;
  value_names = 2;
  range = Some (record { start_inclusive = 2; end_inclusive = usize_max });
}

-- the program's name, that it has a version, and that words are wanted behind it
abbrev pub reader_program : App
reader_program =
    on_top (λ s. record s { has_version = true; arg_required_else_help = true }) (new_app (codes "readmap"))

-- `readmap [--map FILE..] [--judge SCRIPT FILE..] [FILE..]`
abbrev pub reader_app : App
reader_app = with_rule (with_rule (with_rule reader_program texts_rule) judge_rule) file_rule

-- ---- the options

-- the paths that were found for an id: none where it is not given
abbrev pub words_found : Text → List Row → List Text
words_found id rows = unwrap_or (all_of id rows) []

-- the options are what was found for the files, for the maps that are told as texts, and for the script and its maps
pub record AreFilesFound (rows : List Row) (o : Options) : Type 0 where
  pub parts_found : map string_bytes o.parts.items ≡ words_found (codes "FILE") rows
  pub texts_found : map string_bytes o.texts.items ≡ words_found (codes "map") rows
  pub judged_found : map string_bytes o.judged.items ≡ words_found (codes "judge") rows

-- the parser asks for help or a version to be shown
abbrev pub IsShown : ErrorKind → Type 0
IsShown kind = (kind ≡ DisplayHelp) ⊎ (kind ≡ DisplayVersion)

-- what is told of the parser's reason
abbrev pub IsErrorOf : ErrorKind → WordsError → Type 0
IsErrorOf kind (Help text) = IsShown kind
IsErrorOf kind (Usage text) = (IsShown kind → ⊥) × (kind ≢ OutOfMemory)
IsErrorOf kind Memory = Unit {0}

-- what the parser of an app finds in the words, the program's name first
unfoldable pub rows_found : App → List Text → List Row
rows_found a words = matches_of a words

-- what it has against the words; nothing where it takes them
unfoldable pub faults_found : App → List Text → Kinds
faults_found a words = fault_of a words

-- the options of words against which the parser of an app has nothing; or why there are none: the parser's reason
abbrev pub ReadsWords : App → List Text → Result Options WordsError → Type 0
ReadsWords a words (Ok o) = (faults_found a words ≡ []) × AreFilesFound (rows_found a words) o
ReadsWords a words (Err (Help text)) = (kind : ErrorKind) × IsAmong kind (faults_found a words) × IsShown kind
ReadsWords a words (Err (Usage text)) = (kind : ErrorKind) × IsAmong kind (faults_found a words) × (IsShown kind → ⊥)
ReadsWords a words (Err Memory) = Unit {0}

-- the same for this program's own
abbrev pub ReadsReaderLine : List Text → Result Options WordsError → Type 0
ReadsReaderLine words r = ReadsWords reader_app words r
