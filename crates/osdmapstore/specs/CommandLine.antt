-- What the words of the program's command line ask for, by the parser's own definitions of what it finds in words.
use Rattle.std.specs.Prelude.{◌≡◌, ◌<◌, ◌^◌, Bool, true, false, ℕ, pos, List, [], ◌∷◌, codes, Option, Some, option_map}
use Rattle.std.specs.Prelude.{MatchOption, Result, string_bytes}
use Rattle.clap.specs.declared.builder.value_parser.ValueParser.TheVariants.{Signed}
use Rattle.clap.specs.declared.builder.action.ArgAction.TheVariants.{Set, Append, SetTrue}
use Rattle.clap.specs.Lexer.{usize_max}
use Rattle.clap.specs.Walk.{Row, Rule, Text, first_of, one_of}
use Rattle.clap.specs.Simple.{App, new_app, new_rule, on_top, with_rule}
use Rattle.cli.specs.declared.choices.LineError.{LineError}
use Rattle.epochlog.specs.Epochs.{max_capacity}
use Rattle.cli.specs.Arguments.{stock_rule, to_rule, IsNumberOf, AreFoundSessions, ReadsBy}
use Rattle.osdmapstore.specs.declared.choices.Options.{Options}

-- ---- the command

-- how many changes an open may be told to leave
abbrev pub most_kept : ℕ
most_kept = 1000000

-- `--journal N`, N a number from 1 to 65,536, and 65,536 where it is not given
abbrev pub many_rule : Rule
many_rule = record (new_rule (codes "journal")) {
  long = Some (codes "journal");
  action = Some Set;
  value_names = 1;
  defaults = codes "65536" ∷ [];
  parser = Some (Signed (pos 1) (pos max_capacity));
}

-- an option without a value
abbrev pub flag_rule : Text → Rule
flag_rule name = record (new_rule name) { long = Some name; action = Some SetTrue }

-- one whose value is a word
abbrev pub word_rule : Text → Rule
word_rule name = record (new_rule name) { long = Some name; action = Some Set; value_names = 1 }

-- `--keep N`
abbrev pub keep_rule : Rule
keep_rule = record (new_rule (codes "keep")) {
  long = Some (codes "keep");
  action = Some Set;
  value_names = 1;
  parser = Some (Signed (pos 0) (pos most_kept));
}

-- `--without-log EPOCH`
abbrev pub without_log_rule : Rule
without_log_rule = record (new_rule (codes "without-log")) {
  long = Some (codes "without-log");
  action = Some Set;
  value_names = 1;
  parser = Some (Signed (pos 1) (pos 4294967295));
}

-- STORE, one word that must be there
abbrev pub store_rule : Rule
store_rule = record (new_rule (codes "STORE")) { action = Some Set; required = true }

-- SCRIPT, any number of words
abbrev pub any_scripts_rule : Rule
any_scripts_rule = record (new_rule (codes "SCRIPT")) {
  action = Some Append;
  range = Some (record { start_inclusive = 0; end_inclusive = usize_max });
}

-- the program's name, and that it has a version
abbrev pub store_program : App
store_program = on_top (λ s. record s { has_version = true }) (new_app (codes "osdmapstore"))

-- with the options of sessions
abbrev pub store_program_of_sessions : App
store_program_of_sessions = with_rule (with_rule (with_rule store_program many_rule) stock_rule) to_rule

-- with what makes a store, too: `--begin MAP` and `--open-or-begin MAP`
abbrev pub store_program_with_maps : App
store_program_with_maps =
    with_rule (with_rule store_program_of_sessions (word_rule (codes "begin"))) (word_rule (codes "open-or-begin"))

-- with how changes are kept, too: `--keep N`, `--wary` and `--by WORD`
abbrev pub store_program_with_changes : App
store_program_with_changes =
    with_rule (with_rule (with_rule store_program_with_maps keep_rule) (flag_rule (codes "wary")))
    (word_rule (codes "by"))

-- with how a run begins and ends, too: `--end-when-full` and `--life`
abbrev pub store_program_with_runs : App
store_program_with_runs =
    with_rule (with_rule store_program_with_changes (flag_rule (codes "end-when-full"))) (flag_rule (codes "life"))

-- with all its options: `--backup FILE`, `--restore` and `--without-log EPOCH` too
abbrev pub store_program_with_options : App
store_program_with_options =
    with_rule (with_rule (with_rule store_program_with_runs (word_rule (codes "backup"))) (flag_rule (codes "restore")))
    without_log_rule

-- `osdmapstore [--journal N] [--stock] [--to ANSWERS].. [--begin MAP] [--open-or-begin MAP] [--keep N] [--wary]
-- [--by WORD] [--end-when-full] [--life] [--backup FILE] [--restore] [--without-log EPOCH] STORE [SCRIPT..]`
abbrev pub store_app : App
store_app = with_rule (with_rule store_program_with_options store_rule) any_scripts_rule

-- ---- the options

-- the number of an option, as how many changes an open is told to leave; or no number of 32 bits was found
abbrev pub IsNumberIn : Text → List Row → Option ℕ → Type 0
IsNumberIn id rows number = MatchOption number ((n : ℕ) → n < 2 ^ 32 → IsNumberOf id rows n → ⊥) (IsNumberOf id rows)

-- what is found for an option without a value where it is not given, and where it is
abbrev pub given_word : Bool → Text
given_word false = codes "false"
given_word true = codes "true"

-- whether such an option was given
abbrev pub IsGivenIn : Text → List Row → Bool → Type 0
IsGivenIn id rows given = (asked : Bool) → one_of id rows ≡ Some (given_word asked) → given ≡ asked

-- the options are what was found for the maps to begin with, the changes that are kept, the syncs of a change, the word
-- beside it, the end at a full journal, the number of the life, the copy, the epoch of an open without a log, the store
-- and the sessions
pub record AreStoreFound (rows : List Row) (o : Options) : Type 0 where
  pub begin_found : first_of (codes "begin") rows ≡ option_map string_bytes o.begin
  pub open_or_begin_found : first_of (codes "open-or-begin") rows ≡ option_map string_bytes o.open_or_begin
  pub keep_found : IsNumberIn (codes "keep") rows o.keep
  pub wary_found : IsGivenIn (codes "wary") rows o.wary
  pub by_found : first_of (codes "by") rows ≡ option_map string_bytes o.by
  pub end_found : IsGivenIn (codes "end-when-full") rows o.end_when_full
  pub life_found : IsGivenIn (codes "life") rows o.life
  pub backup_found : first_of (codes "backup") rows ≡ option_map string_bytes o.backup
  pub restore_found : IsGivenIn (codes "restore") rows o.restore
  pub without_log_found : IsNumberIn (codes "without-log") rows o.without_log
  pub store_found : first_of (codes "STORE") rows ≡ Some (string_bytes o.store)
  pub sessions_found : AreFoundSessions rows o.sessions

-- the options of words against which the parser has nothing; or why there are none
abbrev pub ReadsStoreLine : List Text → Result Options LineError → Type 0
ReadsStoreLine words r = ReadsBy store_app AreStoreFound words r
