-- What the parser of a command line finds, in the words of the options.
use Rattle.std.proofs.Common.{◌≡◌, ◌⊎◌, ◌∙◌, true, [], List, Ok, Err, sym, ap, subst, inl, inr}
use Rattle.clap.specs.declared.error.kind.ErrorKind.{ErrorKind}
use Rattle.clap.specs.declared.error.kind.ErrorKind.TheVariants.{DisplayHelp, DisplayVersion, OutOfMemory}
use Rattle.clap.specs.Faults.{fault_of, is_simple_and_free}
use Rattle.clap.specs.Kinds.{IsAmong}
use Rattle.clap.specs.Simple.{App, is_simple, matches_of}
use Rattle.clap.specs.Walk.{Row, Text}
use Rattle.readmap.specs.declared.choices.Options.{Options}
use Rattle.readmap.specs.declared.choices.WordsError.{WordsError}
use Rattle.readmap.specs.declared.choices.WordsError.TheVariants.{Help, Usage, Memory}
use Rattle.readmap.specs.CommandLine.{rows_found, faults_found, AreFilesFound, IsShown, ReadsWords, IsErrorOf}

-- the options of words that the parser takes, by the rows that it finds
pub taken_line : (app : App) (words : List Text) (cmd : App) (rows : List Row) (o : Options)
    → is_simple app ≡ true → is_simple_and_free app ≡ true → cmd ≡ app
    → (is_simple cmd ≡ true → rows ≡ matches_of cmd words) → (is_simple_and_free cmd ≡ true → fault_of cmd words ≡ [])
    → AreFilesFound rows o → ReadsWords app words (Ok o)
unfolding rows_found faults_found
taken_line app words cmd rows o simple simple_free is found free takes =
    let rows_are : rows ≡ rows_found app words =
    found (ap is_simple is ∙ simple) ∙ ap (λ (a : App). matches_of a words) is in
    let none : faults_found app words ≡ [] =
    sym (ap (λ (a : App). fault_of a words) is) ∙ free (ap is_simple_and_free is ∙ simple_free) in
    (none, subst (λ (rs : List Row). AreFilesFound rs o) rows_are takes)

-- what is told of words that it refuses
pub refused_line : (app : App) (words : List Text) (cmd : App) (kind : ErrorKind) (e : WordsError)
    → is_simple_and_free app ≡ true → cmd ≡ app
    → (is_simple_and_free cmd ≡ true → (kind ≡ OutOfMemory) ⊎ IsAmong kind (fault_of cmd words))
    → IsErrorOf kind e → ReadsWords app words (Err e)
unfolding faults_found
refused_line app words cmd kind e simple_free is free told =
    let among : (kind ≡ OutOfMemory) ⊎ IsAmong kind (faults_found app words) =
    subst (λ (a : App). (kind ≡ OutOfMemory) ⊎ IsAmong kind (fault_of a words)) is (free (ap is_simple_and_free is ∙ simple_free)) in
    by_error e among told
  where
    no_request : IsShown kind → kind ≡ OutOfMemory → ⊥
    no_request (inl help) memory =
        let bad : DisplayHelp ≡ OutOfMemory = sym help ∙ memory in
        cc
    no_request (inr version) memory =
        let bad : DisplayVersion ≡ OutOfMemory = sym version ∙ memory in
        cc

    by_error : (f : WordsError) → (kind ≡ OutOfMemory) ⊎ IsAmong kind (faults_found app words) → IsErrorOf kind f
        → ReadsWords app words (Err f)
    by_error (Help text) (inl memory) told = absurd (no_request told memory)
    by_error (Help text) (inr among) told = (kind, among, told)
    by_error (Usage text) (inl memory) told = absurd (told.1 memory)
    by_error (Usage text) (inr among) told = (kind, among, told.0)
    by_error Memory among told = tt
