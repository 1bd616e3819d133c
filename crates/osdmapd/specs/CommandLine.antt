-- What the words of the program's command line ask for, by the parser's own definitions of what it finds in words.
use Rattle.std.specs.Prelude.{◌≡◌, ◌≤◌, ◌==◌, not, Bool, MatchResult, ℕ, true, List, [], ◌∷◌, length, map, codes, Option, Some, Result, string_bytes}
use Rattle.std.specs.Fmt.{decimal}
use Rattle.clap.specs.declared.builder.action.ArgAction.TheVariants.{Set, Append}
use Rattle.clap.specs.Lexer.{usize_max}
use Rattle.clap.specs.Walk.{Row, Rule, Text, first_of}
use Rattle.clap.specs.Simple.{App, new_app, new_rule, on_top, with_rule}
use Rattle.epochlog.specs.Epochs.{max_capacity}
use Rattle.mapparts.specs.declared.profile.Profile.{Profile}
use Rattle.mapparts.specs.declared.profile.Profile.TheVariants.{Plain, Stock}
use Rattle.server.specs.Serving.{max_scripts}
use Rattle.cli.specs.declared.choices.LineError.{LineError}
use Rattle.cli.specs.declared.choices.LineError.TheVariants.{Memory}
use Rattle.cli.specs.Arguments.{journal_rule, stock_rule, to_rule, AreFoundSessions, ReadsBy}
use Rattle.osdmapd.specs.declared.choices.Options.{Options}

-- ---- the command

-- MAP, one word that must be there
abbrev pub map_rule : Rule
map_rule = record (new_rule (codes "MAP")) { action = Some Set; required = true }

-- SCRIPT, one word or more
abbrev pub script_rule : Rule
script_rule = record (new_rule (codes "SCRIPT")) {
  action = Some Append;
  range = Some (record { start_inclusive = 1; end_inclusive = usize_max });
  required = true;
}

-- the program's name, and that it has a version
abbrev pub program : App
program = on_top (λ s. record s { has_version = true }) (new_app (codes "osdmapd"))

-- with its options
abbrev pub program_with_options : App
program_with_options = with_rule (with_rule (with_rule program journal_rule) stock_rule) to_rule

-- `osdmapd [--journal N] [--stock] [--to ANSWERS].. MAP SCRIPT..`
abbrev pub app : App
app = with_rule (with_rule program_with_options map_rule) script_rule

-- ---- the options

-- the map's path that was found
abbrev pub map_path_in : List Row → Option Text
map_path_in rows = first_of (codes "MAP") rows

-- the options are what was found for the map and for the sessions
pub record AreFound (rows : List Row) (o : Options) : Type 0 where
  pub map_found : map_path_in rows ≡ Some (string_bytes o.map)
  pub sessions_found : AreFoundSessions rows o.sessions

-- the options of words against which the parser has nothing; or why there are none
abbrev pub ReadsLine : List Text → Result Options LineError → Type 0
ReadsLine words r = ReadsBy app AreFound words r

-- ---- the usual line

-- a word that the parser takes for no option: it does not begin with a hyphen
abbrev pub is_plain : Text → Bool
is_plain [] = true
is_plain (c ∷ cs) = not (c == 45)

-- each of the words is plain
abbrev pub ArePlain : List Text → Type 0
ArePlain [] = Unit {0}
ArePlain (word ∷ words) = (is_plain word ≡ true) × ArePlain words

-- a map and 1 to 64 scripts, none of which the parser takes for an option
pub record AreUsual (map_word : Text) (scripts : List Text) : Type 0 where
  pub plain_map : is_plain map_word ≡ true
  pub plain_scripts : ArePlain scripts
  pub some : 1 ≤ length scripts
  pub few : length scripts ≤ max_scripts

-- these options are read, unless memory runs out
abbrev pub GivesOptions : Result Options LineError → ℕ → Profile → Text → List Text → Type 0
GivesOptions r journal profile map_word scripts =
    MatchResult r
    (λ o. (o.sessions.journal ≡ journal) × (o.sessions.profile ≡ profile) × (string_bytes o.map ≡ map_word)
    × (map string_bytes o.sessions.scripts.items ≡ scripts) × (o.sessions.answers.items ≡ []))
    (λ e. e ≡ Memory)

-- what `osdmapd MAP SCRIPT..`, `osdmapd --journal N MAP SCRIPT..` and `osdmapd --stock MAP SCRIPT..` ask for, where
-- none of the files is taken for an option: this map, these scripts, no file of answers, a journal of 1,024 or N,
-- and the stock profile where it is asked for
pub record ReadsUsual (words : List Text) (r : Result Options LineError) : Type 0 where
  pub plain : (name map_word : Text) (scripts : List Text) → words ≡ name ∷ map_word ∷ scripts →
      AreUsual map_word scripts
      → GivesOptions r 1024 Plain map_word scripts
  pub with_journal : (name map_word : Text) (n : ℕ) (scripts : List Text) →
      words ≡ name ∷ codes "--journal" ∷ decimal n ∷ map_word ∷ scripts
      → 1 ≤ n → n ≤ max_capacity → AreUsual map_word scripts → GivesOptions r n Plain map_word scripts
  pub with_stock : (name map_word : Text) (scripts : List Text) →
      words ≡ name ∷ codes "--stock" ∷ map_word ∷ scripts → AreUsual map_word scripts
      → GivesOptions r 1024 Stock map_word scripts
