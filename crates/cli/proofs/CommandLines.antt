-- What the parser of a command line finds, in the words of the options.
use Rattle.std.proofs.Common.{◌≡◌, ◌⊎◌, ◌∙◌, ℕ, true, List, [], Option, Some, None, ◌<◌, ◌^◌, Result, Ok, Err, MatchOption, sym, refl, ap, subst, inl, inr}
use Rattle.std.specs.Str.Parse.{ParsesUnsigned}
use Rattle.clap.specs.declared.parser.matches.Found.{Found}
use Rattle.clap.specs.declared.error.kind.ErrorKind.{ErrorKind}
use Rattle.clap.specs.declared.error.kind.ErrorKind.TheVariants.{DisplayHelp, DisplayVersion, OutOfMemory}
use Rattle.clap.specs.Faults.{fault_of, is_simple_and_free}
use Rattle.clap.specs.Kinds.{IsAmong}
use Rattle.clap.specs.Matches.{ReadsOne, one_text}
use Rattle.clap.specs.Simple.{App, is_simple, matches_of}
use Rattle.clap.specs.Walk.{Row, Text, rows_of}
use Rattle.clap.proofs.WalkLemmas.{one_text-rows}
use Rattle.cli.specs.declared.choices.LineError.{LineError}
use Rattle.cli.specs.declared.choices.LineError.TheVariants.{Help, Usage, TooMany, Unpaired, Memory}
use Rattle.cli.specs.Arguments.{found_by, faults_by, IsNumberOf, IsRequest, TellsOf, Chooses, ReadsBy}

-- the number that is read of an id is that of the text found for it; where none is read, none of 32 bits stands there
pub number_read : {E : Type 0} (G : List ℕ → Result ℕ E → Type 0) (f : Found) (id : Text) (r : Option ℕ)
    → ((u : List ℕ) (x : Result ℕ E) → G u x → ParsesUnsigned 32 10 u x)
    → (one_text f id ≡ None → r ≡ None) → ((t : List ℕ) → one_text f id ≡ Some t → ReadsOne G t r)
    → MatchOption r ((n : ℕ) → n < 2 ^ 32 → IsNumberOf id (rows_of f) n → ⊥) (IsNumberOf id (rows_of f))
number_read G f id None parses none some = λ n fits is. go n fits is (one_text f id) refl
  where
    go : (n : ℕ) → n < 2 ^ 32 → IsNumberOf id (rows_of f) n → (o : Option Text) → one_text f id ≡ o → ⊥
    go n fits (text, here, numeral, is) None e =
        let bad : None ≡ Some text = sym e ∙ one_text-rows f id ∙ here in
        cc
    go n fits (text, here, numeral, is) (Some t) e =
        let same : Some t ≡ Some text = sym e ∙ one_text-rows f id ∙ here in
        let text_is : t ≡ text = cc in
        let read = some t e in
        parses t (Err read.0) read.1 (rw text_is numeral, rw text_is (rw is at fits))
number_read G f id (Some n) parses none some = go (one_text f id) refl
  where
    go : (o : Option Text) → one_text f id ≡ o → IsNumberOf id (rows_of f) n
    go None e =
        let bad : Some n ≡ None = none e in
        cc
    go (Some t) e =
        let read = parses t (Ok n) (some t e) in
        (t, sym (one_text-rows f id) ∙ e, read.0.0, read.1)

-- what is made of words that the parser takes, by the rows that it finds
pub taken_line : {O : Type 0} (AreFound : List Row → O → Type 0) (app : App) (words : List Text) (cmd : App) (rows : List Row)
    (r : Result O LineError) → is_simple app ≡ true → is_simple_and_free app ≡ true → cmd ≡ app
    → (is_simple cmd ≡ true → rows ≡ matches_of cmd words) → (is_simple_and_free cmd ≡ true → fault_of cmd words ≡ [])
    → Chooses AreFound rows r → ReadsBy app AreFound words r
unfolding found_by faults_by
taken_line AreFound app words cmd rows r simple simple_free is found free takes =
    let rows_are : rows ≡ found_by app words =
    found (ap is_simple is ∙ simple) ∙ ap (λ (a : App). matches_of a words) is in
    let none : faults_by app words ≡ [] =
    sym (ap (λ (a : App). fault_of a words) is) ∙ free (ap is_simple_and_free is ∙ simple_free) in
    by_result r none (subst (λ (rs : List Row). Chooses AreFound rs r) rows_are takes)
  where
    by_result : (s : Result _ LineError) → faults_by app words ≡ [] → Chooses AreFound (found_by app words) s → ReadsBy app AreFound words s
    by_result (Ok o) none takes = (none, takes)
    by_result (Err (Help text)) none takes = absurd takes
    by_result (Err (Usage text)) none takes = absurd takes
    by_result (Err TooMany) none takes = (none, takes)
    by_result (Err Unpaired) none takes = (none, takes)
    by_result (Err Memory) none takes = tt

-- what is told of words that it refuses
pub refused_line : {O : Type 0} (AreFound : List Row → O → Type 0) (app : App) (words : List Text) (cmd : App) (kind : ErrorKind)
    (e : LineError) → is_simple_and_free app ≡ true → cmd ≡ app
    → (is_simple_and_free cmd ≡ true → (kind ≡ OutOfMemory) ⊎ IsAmong kind (fault_of cmd words))
    → TellsOf kind e → ReadsBy {O = O} app AreFound words (Err e)
unfolding faults_by
refused_line AreFound app words cmd kind e simple_free is free told =
    let among : (kind ≡ OutOfMemory) ⊎ IsAmong kind (faults_by app words) =
    subst (λ (a : App). (kind ≡ OutOfMemory) ⊎ IsAmong kind (fault_of a words)) is (free (ap is_simple_and_free is ∙ simple_free)) in
    by_error e among told
  where
    no_request : IsRequest kind → kind ≡ OutOfMemory → ⊥
    no_request (inl help) memory =
        let bad : DisplayHelp ≡ OutOfMemory = sym help ∙ memory in
        cc
    no_request (inr version) memory =
        let bad : DisplayVersion ≡ OutOfMemory = sym version ∙ memory in
        cc

    by_error : (f : LineError) → (kind ≡ OutOfMemory) ⊎ IsAmong kind (faults_by app words) → TellsOf kind f
        → ReadsBy app AreFound words (Err f)
    by_error (Help text) (inl memory) told = absurd (no_request told memory)
    by_error (Help text) (inr among) told = (kind, among, told)
    by_error (Usage text) (inl memory) told = absurd (told.1 memory)
    by_error (Usage text) (inr among) told = (kind, among, told.0)
    by_error TooMany among told = absurd told
    by_error Unpaired among told = absurd told
    by_error Memory among told = tt
