-- What the parser finds in the words of the usual lines, and what is made of it.
use Rattle.std.proofs.Common.{◌≡◌, ◌==◌, ◌∙◌, ◌++◌, append-nil, append_assoc, nat_lt, fold, ◌≤◌, not, cond, ℕ, Bool, true, false, List, [], ◌∷◌, drop, Option, Some, None, is_some, Result, Ok, Err, refl, sym, ap, ap₂, subst, arith, codes, length, map, string_bytes}
use Rattle.std.specs.Fmt.{decimal}
use Rattle.std.specs.Prelude.{String}
use Rattle.std.specs.declared.alloc.Global.{Global}
use Rattle.std.specs.Option.{unwrap_or}
use Rattle.std.specs.Str.Parse.{IsNumeral, digits_value, signed_digits_value, starts_with_minus, without_leading_plus, without_leading_sign}
use Rattle.std.proofs.lemmas.Bool.{ne_eqb, le-ltb}
use Rattle.std.proofs.lemmas.Fmt.{decimal_is_IsNumeral}
use Rattle.std.proofs.lemmas.Int.{ints}
use Rattle.std.proofs.lemmas.Str.Parse.{digit_from_value}
use Rattle.clap.specs.declared.builder.value_parser.ValueParser.TheVariants.{Signed}
use Rattle.clap.specs.declared.error.kind.ErrorKind.{ErrorKind}
use Rattle.std.specs.Prelude.{neg_ℤ, pos}
use Rattle.clap.specs.Faults.{check_fault, defaults_fault, entered_fault, settle_fault, turn_fault, walk_fault}
use Rattle.clap.specs.Kinds.{IsAmong, Kinds, or_else, range_kinds, values_kinds}
use Rattle.clap.specs.Facts.{parser_of_value}
use Rattle.clap.specs.Lexer.{usize_max}
use Rattle.clap.specs.Simple.{Shape, built, entered, filled}
use Rattle.clap.specs.ValueTests.{accepts}
use Rattle.clap.specs.Walk.{Held, Row, Rule, Step, Text, Walk, used, all_of, arg_by_index, finished, first_of, nothing_held, one_of, positional, settled, to_positional, walk_from, walked, after_step}
use Rattle.clap.proofs.OnLiterals.{clap_on_literals}
use Rattle.clap.proofs.ValueTestLemmas.{Accepts-accepts}
use Rattle.epochlog.specs.Epochs.{max_capacity}
use Rattle.osdmapd.specs.declared.choices.Options.{Options}
use Rattle.cli.specs.declared.choices.LineError.{LineError}
use Rattle.cli.specs.declared.choices.LineError.TheVariants.{Help, Usage, TooMany, Unpaired, Memory}
use Rattle.mapparts.specs.declared.profile.Profile.{Profile}
use Rattle.mapparts.specs.declared.profile.Profile.TheVariants.{Plain, Stock}
use Rattle.server.specs.Serving.{max_scripts}
use Rattle.cli.specs.Arguments.{found_by, faults_by, stock_rule, stock_word, script_paths_in, IsJournalIn}
use Rattle.osdmapd.specs.CommandLine.{app, is_plain, ArePlain, AreUsual, GivesOptions, ReadsLine, ReadsUsual}
use Rattle.osdmapd.proofs.PlainWords.{at, at_option, no_option, plain_argument, plain_given, plain_more, plain_option, plain_option_behind, plain_option_more, plain_value, plain_walked}

-- the command as the parser builds it
abbrev top : Shape
top = (built app).top

abbrev rules : List Rule
rules = top.rules

-- before the first word
abbrev first : Walk
first = walk_from nothing_held

-- behind the map's word and behind the script's, each from what is held before
abbrev with_map : Held → Text → Walk
with_map h map_word = to_positional rules (arg_by_index rules 1) map_word (at h 1) h

abbrev with_script : Held → Text → Walk
with_script h script = to_positional rules (arg_by_index rules 2) script (at h 2) h

-- nothing is held against a word, nor against those behind it
no_fault : (w next : Walk) (word : Text) (rest : List Text) → turn_fault top [] w word ≡ [] → walked rules [] w word ≡ next
    → walk_fault top [] next rest ≡ [] → walk_fault top [] w (word ∷ rest) ≡ []
unfolding walk_fault
no_fault w next word rest turn walks more = ap₂ or_else turn (ap (λ v. walk_fault top [] v rest) walks ∙ more)

-- nor where no more are
no_words : (w : Walk) → walk_fault top [] w [] ≡ []
unfolding walk_fault
no_words w = refl

-- what is held against the words, from what is held against them in turn
abbrev at_end : Walk → Kinds → Kinds
at_end w words =
    or_else words (or_else (entered_fault (built app) w.stopped) (or_else (settle_fault rules top.args_override_self w.held)
    (or_else (defaults_fault (settled rules w.held).rows rules)
    (check_fault top (finished rules w.held) (is_some (entered (built app) w.stopped))))))

-- ---- scripts

-- behind the map's word and these scripts
abbrev scripts_held : List Row → List Text → Held
scripts_held rows scripts = record { rows = rows; pending = Some (codes "SCRIPT", scripts); skip = 0 }

abbrev at_scripts : List Row → List Text → Walk
at_scripts rows scripts =
    record { held = scripts_held rows scripts; waiting = positional; position = 2; is_trailing = false; stopped = None }

-- one script more
next_script : (rows : List Row) (scripts : List Text) (script : Text) → is_plain script ≡ true
    → walked rules [] (at_scripts rows scripts) script ≡ at_scripts rows (scripts ++ script ∷ [])
unfolding walked
next_script rows scripts script plain =
    ap (λ (met : Held × Step). after_step rules script (at_scripts rows scripts) met.0 met.1) (plain_more rules 2 script (scripts_held rows scripts) plain)

-- which the parser has nothing against
next_turn : (rows : List Row) (scripts : List Text) (script : Text) → is_plain script ≡ true
    → turn_fault top [] (at_scripts rows scripts) script ≡ []
next_turn rows scripts script plain =
    rw (plain_more rules 2 script (scripts_held rows scripts) plain, plain_option_more top script (scripts_held rows scripts) plain) refl

-- all others
all_scripts : (rows : List Row) (scripts more : List Text) → ArePlain more
    → fold (walked rules []) (at_scripts rows scripts) more ≡ at_scripts rows (scripts ++ more)
all_scripts rows scripts [] plain = ap (at_scripts rows) (sym (append-nil scripts))
all_scripts rows scripts (script ∷ more) plain =
    ap (λ w. fold (walked rules []) w more) (next_script rows scripts script plain.0)
    ∙ all_scripts rows (scripts ++ script ∷ []) more plain.1 ∙ ap (at_scripts rows) (append_assoc scripts (script ∷ []) more)

-- plain words that are left are all taken as scripts, without a fault
all_turns : (rows : List Row) (scripts more : List Text) → ArePlain more → walk_fault top [] (at_scripts rows scripts) more ≡ []
all_turns rows scripts [] plain = no_words (at_scripts rows scripts)
all_turns rows scripts (script ∷ more) plain =
    no_fault (at_scripts rows scripts) (at_scripts rows (scripts ++ script ∷ [])) script more (next_turn rows scripts script plain.0)
    (next_script rows scripts script plain.0) (all_turns rows (scripts ++ script ∷ []) more plain.1)

-- each path is a text
all_texts : (scripts : List Text) → values_kinds false (parser_of_value None) scripts ≡ []
all_texts [] = refl
all_texts (script ∷ more) = all_texts more

-- so many scripts may be given
enough : (n : ℕ) → 1 ≤ n → n ≤ max_scripts → range_kinds 1 usize_max n ≡ []
enough n some few =
    let none : (n == 0) ≡ false = ne_eqb n 0 (omega arith) in
    let least : nat_lt n 1 ≡ false = le-ltb n 1 some in
    let most : nat_lt usize_max n ≡ false = le-ltb usize_max n (omega arith) in
    rw (none, least, most) refl

-- with 1 to 64 scripts nothing is missing or too much at the end of the words
settles : (rows : List Row) (scripts : List Text) → 1 ≤ length scripts → length scripts ≤ max_scripts
    → settle_fault rules top.args_override_self (scripts_held rows scripts) ≡ []
settles rows [] some few = absurd (omega arith)
settles rows (script ∷ more) some few = ap₂ or_else (enough (length (script ∷ more)) some few) (all_texts (script ∷ more))

-- what the options are made of
record Finds (words : List Text) (profile : Profile) (journal map_word : Text) (scripts : List Text) : Type 0 where
  profile_is : one_of (codes "stock") (found_by app words) ≡ Some (stock_word profile)
  journal_is : one_of (codes "journal") (found_by app words) ≡ Some journal
  map_is : first_of (codes "MAP") (found_by app words) ≡ Some map_word
  scripts_are : all_of (codes "SCRIPT") (found_by app words) ≡ Some scripts
  answers_are : all_of (codes "to") (found_by app words) ≡ None
  passes : faults_by app words ≡ []

-- what is held against the words where nothing is against the scripts
abbrev else_at_end : Held → Kinds → Kinds
else_at_end h kinds =
    or_else [] (or_else (entered_fault (built app) None) (or_else kinds
    (or_else (defaults_fault (settled rules h).rows rules) (check_fault top (finished rules h) false))))

-- ---- a map and scripts, behind options that wait for nothing

-- what is held behind them
abbrev held_with : List Row → Held
held_with rows = record { rows = rows; pending = None; skip = 0 }

module _ (rows : List Row) (map_word script : Text) (more : List Text) (m : is_plain map_word ≡ true) (s : is_plain script ≡ true)
    (plain : ArePlain more) where
  abbrev second : Held
  second = (with_map (held_with rows) map_word).held

  abbrev map_rows : List Row
  map_rows = (settled rules second).rows

  one_word : walked rules [] (at (held_with rows) 1) map_word ≡ with_map (held_with rows) map_word
  one_word = plain_walked rules (held_with rows) 1 map_word m

  one_script : walked rules [] (with_map (held_with rows) map_word) script ≡ at_scripts map_rows (script ∷ [])
  one_script = plain_walked rules second 2 script s

  all_words : fold (walked rules []) (at (held_with rows) 1) (map_word ∷ script ∷ more) ≡ at_scripts map_rows (script ∷ more)
  all_words =
      ap (λ w. fold (walked rules []) (walked rules [] w script) more) one_word ∙ ap (λ w. fold (walked rules []) w more) one_script
      ∙ all_scripts map_rows (script ∷ []) more plain

  first_turn : turn_fault top [] (at (held_with rows) 1) map_word ≡ []
  first_turn = rw (plain_value rules 1 map_word (held_with rows) m, plain_option top map_word (held_with rows) m) refl

  no_turn : turn_fault top [] (at second 2) script ≡ [] → walk_fault top [] (at (held_with rows) 1) (map_word ∷ script ∷ more) ≡ []
  no_turn second_turn =
      no_fault (at (held_with rows) 1) (at second 2) map_word (script ∷ more) first_turn one_word
      (no_fault (at second 2) (at_scripts map_rows (script ∷ [])) script more second_turn one_script
      (all_turns map_rows (script ∷ []) more plain))

-- ---- no option before them

module _ (name map_word script : Text) (more : List Text) (m : is_plain map_word ≡ true) (s : is_plain script ≡ true) (plain : ArePlain more)
    (few : length (script ∷ more) ≤ max_scripts) where
  abbrev two_rows : List Row
  two_rows = map_rows [] map_word script more m s plain

  found_two : found_by app (name ∷ map_word ∷ script ∷ more) ≡ finished rules (scripts_held two_rows (script ∷ more))
  unfolding found_by
  found_two = ap (λ (w : Walk). finished rules w.held) (all_words [] map_word script more m s plain)

  abbrev two_held : Held
  two_held = second [] map_word script more m s plain

  second_turn : turn_fault top [] (at two_held 2) script ≡ []
  second_turn = rw (plain_value rules 2 script two_held s, plain_option top script two_held s) refl

  no_end : at_end (at_scripts two_rows (script ∷ more)) [] ≡ []
  unfolding defaults_fault
  no_end = ap (else_at_end (scripts_held two_rows (script ∷ more))) (settles two_rows (script ∷ more) (omega arith) few)

  passes_two : faults_by app (name ∷ map_word ∷ script ∷ more) ≡ []
  unfolding faults_by
  passes_two = ap₂ at_end (all_words [] map_word script more m s plain) (no_turn [] map_word script more m s plain second_turn) ∙ no_end

  finds_two : Finds (name ∷ map_word ∷ script ∷ more) Plain (codes "1024") map_word (script ∷ more)
  finds_two = record {
    profile_is = ap (one_of (codes "stock")) found_two;
    journal_is = ap (one_of (codes "journal")) found_two;
    map_is = ap (first_of (codes "MAP")) found_two;
    scripts_are = ap (all_of (codes "SCRIPT")) found_two;
    answers_are = ap (all_of (codes "to")) found_two;
    passes = passes_two;
  }

-- ---- `--stock` before them

-- what is found of it
abbrev stock_rows : List Row
stock_rows = used (filled stock_rule) [] []

-- it waits for nothing
flags : walked rules [] first (codes "--stock") ≡ at (held_with stock_rows) 1
unfolding clap_on_literals
flags = refl

-- and the parser has nothing against it
flags_turn : turn_fault top [] first (codes "--stock") ≡ []
unfolding clap_on_literals
flags_turn = refl

module _ (name map_word script : Text) (more : List Text) (m : is_plain map_word ≡ true) (s : is_plain script ≡ true) (plain : ArePlain more)
    (few : length (script ∷ more) ≤ max_scripts) where
  abbrev three_rows : List Row
  three_rows = map_rows stock_rows map_word script more m s plain

  all_three : fold (walked rules []) first (codes "--stock" ∷ map_word ∷ script ∷ more) ≡ at_scripts three_rows (script ∷ more)
  all_three =
      ap (λ w. fold (walked rules []) w (map_word ∷ script ∷ more)) flags ∙ all_words stock_rows map_word script more m s plain

  found_three : found_by app (name ∷ codes "--stock" ∷ map_word ∷ script ∷ more) ≡ finished rules (scripts_held three_rows (script ∷ more))
  unfolding found_by
  found_three = ap (λ (w : Walk). finished rules w.held) all_three

  abbrev three_held : Held
  three_held = second stock_rows map_word script more m s plain

  turn_three : turn_fault top [] (at three_held 2) script ≡ []
  turn_three = rw (plain_value rules 2 script three_held s, plain_option top script three_held s) refl

  no_turn_three : walk_fault top [] first (codes "--stock" ∷ map_word ∷ script ∷ more) ≡ []
  no_turn_three =
      no_fault first (at (held_with stock_rows) 1) (codes "--stock") (map_word ∷ script ∷ more) flags_turn flags
      (no_turn stock_rows map_word script more m s plain turn_three)

  no_end_three : at_end (at_scripts three_rows (script ∷ more)) [] ≡ []
  unfolding defaults_fault
  no_end_three = ap (else_at_end (scripts_held three_rows (script ∷ more))) (settles three_rows (script ∷ more) (omega arith) few)

  passes_three : faults_by app (name ∷ codes "--stock" ∷ map_word ∷ script ∷ more) ≡ []
  unfolding faults_by
  passes_three = ap₂ at_end all_three no_turn_three ∙ no_end_three

  finds_three : Finds (name ∷ codes "--stock" ∷ map_word ∷ script ∷ more) Stock (codes "1024") map_word (script ∷ more)
  finds_three = record {
    profile_is = ap (one_of (codes "stock")) found_three;
    journal_is = ap (one_of (codes "journal")) found_three;
    map_is = ap (first_of (codes "MAP")) found_three;
    scripts_are = ap (all_of (codes "SCRIPT")) found_three;
    answers_are = ap (all_of (codes "to")) found_three;
    passes = passes_three;
  }

-- ---- a journal before them

-- behind `--journal`, which waits for its number
abbrev asked : Held
asked = record { rows = []; pending = Some (codes "journal", []); skip = 0 }

-- the word of the option waits for a number
opens : walked rules [] first (codes "--journal") ≡ at_option asked (codes "journal") 1
unfolding clap_on_literals
opens = refl

-- which the parser has nothing against
opens_turn : turn_fault top [] first (codes "--journal") ≡ []
unfolding clap_on_literals
opens_turn = refl

module _ (name number map_word script : Text) (more : List Text) (j : is_plain number ≡ true) (m : is_plain map_word ≡ true)
    (s : is_plain script ≡ true) (plain : ArePlain more) (few : length (script ∷ more) ≤ max_scripts)
    (accepted : accepts false (Signed (pos 1) (pos max_capacity)) number ≡ true) where
  abbrev given : Held
  given = record { rows = []; pending = Some (codes "journal", number ∷ []); skip = 0 }

  abbrev fourth : Held
  fourth = (with_map given map_word).held

  abbrev given_rows : List Row
  given_rows = (settled rules fourth).rows

  gives : walked rules [] (at_option asked (codes "journal") 1) number ≡ at given 1
  gives = plain_given rules asked (codes "journal") 1 number j

  their_map : walked rules [] (at given 1) map_word ≡ with_map given map_word
  their_map = plain_walked rules given 1 map_word m

  their_script : walked rules [] (with_map given map_word) script ≡ at_scripts given_rows (script ∷ [])
  their_script = plain_walked rules fourth 2 script s

  all_four : fold (walked rules []) first (codes "--journal" ∷ number ∷ map_word ∷ script ∷ more) ≡ at_scripts given_rows (script ∷ more)
  all_four =
      ap (λ w. fold (walked rules []) (walked rules [] (walked rules [] (walked rules [] w number) map_word) script) more) opens
      ∙ ap (λ w. fold (walked rules []) (walked rules [] (walked rules [] w map_word) script) more) gives
      ∙ ap (λ w. fold (walked rules []) (walked rules [] w script) more) their_map
      ∙ ap (λ w. fold (walked rules []) w more) their_script ∙ all_scripts given_rows (script ∷ []) more plain

  found_four : found_by app (name ∷ codes "--journal" ∷ number ∷ map_word ∷ script ∷ more) ≡ finished rules (scripts_held given_rows (script ∷ more))
  unfolding found_by
  found_four = ap (λ (w : Walk). finished rules w.held) all_four

  number_turn : turn_fault top [] (at_option asked (codes "journal") 1) number ≡ []
  number_turn =
      rw (plain_argument rules (codes "journal") 1 number asked j, plain_option_behind top (codes "journal") number asked j) refl

  map_turn : turn_fault top [] (at given 1) map_word ≡ []
  map_turn = rw (plain_value rules 1 map_word given m, plain_option top map_word given m, accepted) refl

  script_turn : turn_fault top [] (at fourth 2) script ≡ []
  script_turn = rw (plain_value rules 2 script fourth s, plain_option top script fourth s) refl

  no_turn_four : walk_fault top [] first (codes "--journal" ∷ number ∷ map_word ∷ script ∷ more) ≡ []
  no_turn_four =
      no_fault first (at_option asked (codes "journal") 1) (codes "--journal") (number ∷ map_word ∷ script ∷ more) opens_turn opens
      (no_fault (at_option asked (codes "journal") 1) (at given 1) number (map_word ∷ script ∷ more) number_turn gives
      (no_fault (at given 1) (at fourth 2) map_word (script ∷ more) map_turn their_map
      (no_fault (at fourth 2) (at_scripts given_rows (script ∷ [])) script more script_turn their_script
      (all_turns given_rows (script ∷ []) more plain))))

  no_end_four : at_end (at_scripts given_rows (script ∷ more)) [] ≡ []
  unfolding defaults_fault
  no_end_four = ap (else_at_end (scripts_held given_rows (script ∷ more))) (settles given_rows (script ∷ more) (omega arith) few)

  passes_four : faults_by app (name ∷ codes "--journal" ∷ number ∷ map_word ∷ script ∷ more) ≡ []
  unfolding faults_by
  passes_four = ap₂ at_end all_four no_turn_four ∙ no_end_four

  finds_four : Finds (name ∷ codes "--journal" ∷ number ∷ map_word ∷ script ∷ more) Plain number map_word (script ∷ more)
  finds_four = record {
    profile_is = ap (one_of (codes "stock")) found_four;
    journal_is = ap (one_of (codes "journal")) found_four ∙ ap (λ (o : Option Text). Some (unwrap_or o number)) (no_option number j).bare;
    map_is = ap (first_of (codes "MAP")) found_four;
    scripts_are = ap (all_of (codes "SCRIPT")) found_four;
    answers_are = ap (all_of (codes "to")) found_four;
    passes = passes_four;
  }

-- ---- numbers

-- a numeral begins with a digit
record Begins (t : Text) : Type 0 where
  plain : is_plain t ≡ true
  minus : starts_with_minus t ≡ false
  plus : without_leading_plus t ≡ t

-- a numeral does begin so
begins : (t : Text) → IsNumeral 10 t → Begins t
begins [] numeral = absurd (omega arith)
begins (c ∷ cs) numeral =
    let minus : (c == 45) ≡ false = ne_eqb c 45 (λ e. omega (arith, digit_from_value c numeral.1.0)) in
    let plus : (c == 43) ≡ false = ne_eqb c 43 (λ e. omega (arith, digit_from_value c numeral.1.0)) in
    record { plain = ap not minus; minus = minus; plus = ap (λ (b : Bool). drop (cond b 1 0) (c ∷ cs)) plus }

-- a numeral within the limits passes the parser of the journal
numeral_accepted : (t : Text) (n : ℕ) → IsNumeral 10 t → digits_value 10 t ≡ n → 1 ≤ n → n ≤ max_capacity
    → accepts false (Signed (pos 1) (pos max_capacity)) t ≡ true
numeral_accepted t n numeral value least most =
    let b = begins t numeral in
    let bare : without_leading_sign t ≡ t = ap (λ (x : Bool). cond x (drop 1 t) (without_leading_plus t)) b.minus ∙ b.plus in
    let signed : signed_digits_value 10 t ≡ pos n =
    ap (λ (x : Bool). cond x (neg_ℤ (pos (digits_value 10 (without_leading_sign t)))) (pos (digits_value 10 (without_leading_sign t)))) b.minus
    ∙ ap (λ u. pos (digits_value 10 u)) bare ∙ ap pos value in
    Accepts-accepts false (Signed (pos 1) (pos max_capacity)) t
    (rw bare numeral, rw signed (omega (arith, ints)), rw signed (omega (arith, ints)), rw signed (omega (arith, ints)))

-- ---- what is made of it

-- the number of a text that stands for the journal
journal_of : (rows : List Row) (n : ℕ) (text : Text) → one_of (codes "journal") rows ≡ Some text → IsJournalIn rows n
    → n ≡ digits_value 10 (without_leading_plus text)
journal_of rows n text found (other, here, numeral, is) =
    let same : Some other ≡ Some text = sym here ∙ found in
    let text_is : other ≡ text = cc in
    is ∙ ap (λ t. digits_value 10 (without_leading_plus t)) text_is

-- none of no kinds
none_among : (kind : ErrorKind) (kinds : Kinds) → kinds ≡ [] → IsAmong kind kinds → ⊥
none_among kind [] none among = among
none_among kind (k ∷ ks) none among =
    let bad : k ∷ ks ≡ [] = none in
    cc

-- where no path of answers is there, none is
no_answers : (answers : List (String Global)) → map string_bytes answers ≡ [] → answers ≡ []
no_answers [] none = refl
no_answers (a ∷ more) none =
    let bad : string_bytes a ∷ map string_bytes more ≡ [] = none in
    cc

-- the options that are read, from what is found
gives_options : (words : List Text) (profile : Profile) (journal map_word : Text) (scripts : List Text) (n : ℕ)
    → Finds words profile journal map_word scripts → length scripts ≤ max_scripts → digits_value 10 (without_leading_plus journal) ≡ n
    → (r : Result Options LineError) → ReadsLine words r → GivesOptions r n profile map_word scripts
gives_options words profile journal map_word scripts n finds few number (Ok o) (none, chosen) =
    let sessions = chosen.0.sessions_found in
    let map_same : Some (string_bytes o.map) ≡ Some map_word = sym chosen.0.map_found ∙ finds.map_is in (
      journal_of (found_by app words) o.sessions.journal journal finds.journal_is sessions.journal_found ∙ number,
      sessions.profile_found profile finds.profile_is,
      cc,
      sym sessions.scripts_found ∙ ap (λ (a : Option (List Text)). unwrap_or a []) finds.scripts_are,
      no_answers o.sessions.answers.items (sym sessions.answers_found ∙ ap (λ (a : Option (List Text)). unwrap_or a []) finds.answers_are),
    )
gives_options words profile journal map_word scripts n finds few number (Err (Help text)) (kind, among, is) =
    absurd (none_among kind (faults_by app words) finds.passes among)
gives_options words profile journal map_word scripts n finds few number (Err (Usage text)) (kind, among, is) =
    absurd (none_among kind (faults_by app words) finds.passes among)
gives_options words profile journal map_word scripts n finds few number (Err TooMany) (none, many) =
    let paths_are : script_paths_in (found_by app words) ≡ scripts = ap (λ (a : Option (List Text)). unwrap_or a []) finds.scripts_are in
    absurd (omega (arith, ap length paths_are, many))
gives_options words profile journal map_word scripts n finds few number (Err Unpaired) (none, unpaired) =
    absurd (unpaired (λ some. absurd (some (ap (λ (a : Option (List Text)). length (unwrap_or a [])) finds.answers_are))))
gives_options words profile journal map_word scripts n finds few number (Err Memory) reads = refl

-- a line with a journal
given_journal : (name number map_word script : Text) (more : List Text) (r : Result Options LineError)
    → ReadsLine (name ∷ codes "--journal" ∷ number ∷ map_word ∷ script ∷ more) r
    → (n : ℕ) → number ≡ decimal n → 1 ≤ n → n ≤ max_capacity → AreUsual map_word (script ∷ more) → GivesOptions r n Plain map_word (script ∷ more)
given_journal name number map_word script more r reads n is least most usual =
    let written = decimal_is_IsNumeral n (omega arith) in
    let numeral : IsNumeral 10 number = rw is written.0 in
    let value : digits_value 10 number ≡ n = rw is written.1 in
    let b = begins number numeral in
    gives_options (name ∷ codes "--journal" ∷ number ∷ map_word ∷ script ∷ more) Plain number map_word (script ∷ more) n
    (finds_four name number map_word script more b.plain usual.plain_map usual.plain_scripts.0 usual.plain_scripts.1 usual.few
    (numeral_accepted number n numeral value least most))
    usual.few (ap (digits_value 10) b.plus ∙ value) r reads

-- no script is too few
no_script : (map_word : Text) → AreUsual map_word [] → ⊥
no_script map_word usual = omega (arith, usual.some)

-- the usual lines, from what is made of all words
pub usual_line : (words : List Text) (r : Result Options LineError) → ReadsLine words r → ReadsUsual words r
usual_line words r reads = record { plain = plain_line; with_journal = journal_line; with_stock = stock_line }
  where
    plain_line : (name map_word : Text) (scripts : List Text) → words ≡ name ∷ map_word ∷ scripts → AreUsual map_word scripts
        → GivesOptions r 1024 Plain map_word scripts
    plain_line name map_word [] is usual = absurd (no_script map_word usual)
    plain_line name map_word (script ∷ more) is usual =
        gives_options (name ∷ map_word ∷ script ∷ more) Plain (codes "1024") map_word (script ∷ more) 1024
        (finds_two name map_word script more usual.plain_map usual.plain_scripts.0 usual.plain_scripts.1 usual.few) usual.few refl r
        (subst (λ w. ReadsLine w r) is reads)

    journal_line : (name map_word : Text) (n : ℕ) (scripts : List Text) → words ≡ name ∷ codes "--journal" ∷ decimal n ∷ map_word ∷ scripts
        → 1 ≤ n → n ≤ max_capacity → AreUsual map_word scripts → GivesOptions r n Plain map_word scripts
    journal_line name map_word n [] is least most usual = absurd (no_script map_word usual)
    journal_line name map_word n (script ∷ more) is least most usual =
        given_journal name (decimal n) map_word script more r (subst (λ w. ReadsLine w r) is reads) n refl least most usual

    stock_line : (name map_word : Text) (scripts : List Text) → words ≡ name ∷ codes "--stock" ∷ map_word ∷ scripts → AreUsual map_word scripts
        → GivesOptions r 1024 Stock map_word scripts
    stock_line name map_word [] is usual = absurd (no_script map_word usual)
    stock_line name map_word (script ∷ more) is usual =
        gives_options (name ∷ codes "--stock" ∷ map_word ∷ script ∷ more) Stock (codes "1024") map_word (script ∷ more) 1024
        (finds_three name map_word script more usual.plain_map usual.plain_scripts.0 usual.plain_scripts.1 usual.few) usual.few refl r
        (subst (λ w. ReadsLine w r) is reads)
