-- What the parser makes of a word that begins with no hyphen.
use Rattle.std.proofs.Common.{◌≡◌, ◌==◌, ◌&&◌, ◌∙◌, not, if◌then◌else◌, ℕ, Bool, true, false, List, [], ◌∷◌, Option, Some, None, refl, ap}
use Rattle.std.specs.Option.{option_map_or, option_and_then}
use Rattle.std.specs.Str.{bytes_eq}
use Rattle.clap.specs.Lexer.{long_of, long_of_rest, short_of, short_of_rest, strip_byte}
use Rattle.clap.specs.Faults.{bundle_fault, flag_word_fault, word_fault}
use Rattle.clap.specs.Simple.{Shape}
use Rattle.clap.specs.Walk.{Held, Rule, Step, Text, Walk, after_step, arg_by_index, idle, long_or_other, option, plain_word, positional, short_or_plain, to_positional, trailing, value, walked, word_met}
use Rattle.osdmapd.specs.CommandLine.{is_plain}

-- a word that is no `--`, no long option and no short one, and has no hyphen to take off
pub record IsNoOption (word : Text) : Type 0 where
  pub end : bytes_eq word (45 ∷ 45 ∷ []) ≡ false
  pub long : long_of word ≡ None
  pub short : short_of word ≡ None
  pub bare : strip_byte 45 word ≡ None

-- a plain word is none of them
pub no_option : (word : Text) → is_plain word ≡ true → IsNoOption word
no_option [] plain = record { end = refl; long = refl; short = refl; bare = refl }
no_option (c ∷ cs) plain = other (c == 45) refl plain
  where
    other : (b : Bool) → (c == 45) ≡ b → not b ≡ true → IsNoOption (c ∷ cs)
    other true is holds =
        let bad : false ≡ true = holds in
        cc
    other false is holds =
        let none : strip_byte 45 (c ∷ cs) ≡ None = ap (λ (t : Bool). if t then Some cs else None) is in
        record {
          end = ap (λ (t : Bool). t && bytes_eq cs (45 ∷ [])) is;
          long = ap (λ (o : Option Text). option_and_then long_of_rest (option_and_then (strip_byte 45) o)) none;
          short = ap (λ (o : Option Text). option_and_then short_of_rest o) none;
          bare = none;
        }

-- it is a value
pub plain_value : (rules : List Rule) (position : ℕ) (word : Text) (h : Held) → is_plain word ≡ true
    → word_met rules [] false idle position word h ≡ (h, value)
plain_value rules position word h plain =
    let word_is = no_option word plain in
    ap (λ (t : Bool). if t then (h, trailing position) else long_or_other rules idle word (long_of word) h) word_is.end
    ∙ ap (λ o. long_or_other rules idle word o h) word_is.long ∙ ap (λ o. short_or_plain rules idle word o h) word_is.short

-- behind an option it is that option's value
pub plain_argument : (rules : List Rule) (id : Text) (position : ℕ) (word : Text) (h : Held) → is_plain word ≡ true
    → word_met rules [] false (option id) position word h ≡ plain_word rules (option id) word h
plain_argument rules id position word h plain =
    let word_is = no_option word plain in
    ap (λ (t : Bool). if t then (h, trailing position) else long_or_other rules (option id) word (long_of word) h) word_is.end
    ∙ ap (λ o. long_or_other rules (option id) word o h) word_is.long
    ∙ ap (λ o. short_or_plain rules (option id) word o h) word_is.short

-- the parser has nothing against it as an option
pub plain_option : (s : Shape) (word : Text) (h : Held) → is_plain word ≡ true → word_fault s [] false idle word h ≡ []
plain_option s word h plain =
    let word_is = no_option word plain in
    ap (λ (t : Bool). if t then [] else flag_word_fault s.rules s.args_override_self (long_of word) word h) word_is.end
    ∙ ap (λ o. flag_word_fault s.rules s.args_override_self o word h) word_is.long
    ∙ ap (λ o. option_map_or (λ flags. bundle_fault s.rules s.args_override_self flags h) o []) word_is.short

-- nor behind an option
pub plain_option_behind : (s : Shape) (id word : Text) (h : Held) → is_plain word ≡ true
    → word_fault s [] false (option id) word h ≡ []
plain_option_behind s id word h plain =
    let word_is = no_option word plain in
    ap (λ (t : Bool). if t then [] else flag_word_fault s.rules s.args_override_self (long_of word) word h) word_is.end
    ∙ ap (λ o. flag_word_fault s.rules s.args_override_self o word h) word_is.long
    ∙ ap (λ o. option_map_or (λ flags. bundle_fault s.rules s.args_override_self flags h) o []) word_is.short

-- behind the values of a positional it is one more value
pub plain_more : (rules : List Rule) (position : ℕ) (word : Text) (h : Held) → is_plain word ≡ true
    → word_met rules [] false positional position word h ≡ (h, value)
plain_more rules position word h plain =
    let word_is = no_option word plain in
    ap (λ (t : Bool). if t then (h, trailing position) else long_or_other rules positional word (long_of word) h) word_is.end
    ∙ ap (λ o. long_or_other rules positional word o h) word_is.long ∙ ap (λ o. short_or_plain rules positional word o h) word_is.short

-- which the parser has nothing against
pub plain_option_more : (s : Shape) (word : Text) (h : Held) → is_plain word ≡ true → word_fault s [] false positional word h ≡ []
plain_option_more s word h plain =
    let word_is = no_option word plain in
    ap (λ (t : Bool). if t then [] else flag_word_fault s.rules s.args_override_self (long_of word) word h) word_is.end
    ∙ ap (λ o. flag_word_fault s.rules s.args_override_self o word h) word_is.long
    ∙ ap (λ o. option_map_or (λ flags. bundle_fault s.rules s.args_override_self flags h) o []) word_is.short

-- the walk between two words: no option waits, or one does
abbrev pub at : Held → ℕ → Walk
at h position = record { held = h; waiting = idle; position = position; is_trailing = false; stopped = None }

abbrev pub at_option : Held → Text → ℕ → Walk
at_option h id position =
    record { held = h; waiting = option id; position = position; is_trailing = false; stopped = None }

-- a plain word goes to the positional
pub plain_walked : (rules : List Rule) (h : Held) (position : ℕ) (word : Text) → is_plain word ≡ true
    → walked rules [] (at h position) word ≡ to_positional rules (arg_by_index rules position) word (at h position) h
unfolding walked
plain_walked rules h position word plain =
    ap (λ (met : Held × Step). after_step rules word (at h position) met.0 met.1) (plain_value rules position word h plain)

-- or to the option
pub plain_given : (rules : List Rule) (h : Held) (id : Text) (position : ℕ) (word : Text) → is_plain word ≡ true
    → walked rules [] (at_option h id position) word
    ≡ after_step rules word (at_option h id position) (plain_word rules (option id) word h).0 (plain_word rules (option id) word h).1
unfolding walked
plain_given rules h id position word plain =
    ap (λ (met : Held × Step). after_step rules word (at_option h id position) met.0 met.1)
    (plain_argument rules id position word h plain)
