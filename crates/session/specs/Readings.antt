-- Lines of a text that are answered, one after the other, and what is left of it.
use Rattle.std.specs.Prelude.{◌≡◌, ◌⊎◌, ℕ, false, List, [], ◌∷◌, ◌++◌, ◌+◌, ◌≤◌, length, All, Option, Some, None, IfSome, Result, MatchResult}
use Rattle.std.specs.Io.KnownBytes.{Keeps, Consumes}
use Rattle.monitor.specs.declared.question.Question.{Question}
use Rattle.session.specs.declared.error.SessionError.{SessionError}
use Rattle.session.specs.declared.error.SessionError.TheVariants.{Read}
use Rattle.session.specs.Commands.{is_newline, lines_in, ask, command_in, question_in}
use Rattle.session.specs.Transcripts.{Manner, TakesLine, IsTranscript, StopsFrom, Stops}
use Rattle.session.specs.Ends.{Halts}

-- a text with no newline
abbrev pub IsUnended : List ℕ → Type 0
IsUnended text = All (λ c. is_newline c ≡ false) text

-- a line with no newline asks this
abbrev pub IsAsking : List ℕ → Question → Type 0
IsAsking line question = IsUnended line × (command_in line ≡ Some (ask question))

-- a text whose first line is this, and what stands behind its newline
abbrev pub whole_text : List ℕ → List ℕ → List ℕ
whole_text line others = line ++ 10 ∷ others

-- the first line that ends in a text asks no question, or none ends in it
abbrev pub AsksNone : List ℕ → Type 0
AsksNone text =
    IsUnended text
    ⊎ ((line : List ℕ) × (rest : List ℕ) × IsUnended line × (text ≡ whole_text line rest) × (question_in line ≡ None))

-- what is left of a text, as lines by these numbers end in it
abbrev pub IsLeft : ℕ → ℕ → List ℕ → List ℕ → Type 0
IsLeft number next text rest = (next + length rest ≤ number + length text) × (length rest ≤ length text)

-- these lines end in a text, and the rest is left of it, whatever comes behind
abbrev pub Cuts : List ℕ → List (List ℕ) → List ℕ → Type 0
Cuts text whole rest = (more : List ℕ) → lines_in (text ++ more) ≡ whole ++ lines_in (rest ++ more)

-- lines that end in a text are answered, the first by this number, and the rest is left of it, by that number
abbrev pub Passes : {S : Type 0} → Manner S → ℕ → S → List ℕ → List ℕ → ℕ → S → List ℕ → Type 0
Passes m number first text put next last rest =
    (whole : List (List ℕ)) × Cuts text whole rest × IsTranscript m number first whole put last
    × (next ≡ number + length whole)

-- a session stops at a line of a text by this error, whatever comes behind the text
abbrev pub Halted : {S : Type 0} → Manner S → SessionError → ℕ → S → List ℕ → List ℕ → S → Type 0
Halted m error number first text out last =
    (more : List ℕ) → StopsFrom m (Halts m error) number first (lines_in (text ++ more)) out last

-- a session stops at its next line by this error, whatever answers stand before the line and whatever lines behind it
abbrev pub StopsAt : {S : Type 0} → Manner S → SessionError → ℕ → S → List ℕ → List ℕ → S → Type 0
StopsAt m error number between line part last =
    (others : List (List ℕ)) (before : List ℕ)
    → Halts m error number between (line ∷ others) before (before ++ part) last

-- where a session stands: the number of its next line, and what it has seen
pub record Stand (S : Type 0) : Type 0 where
  pub number : ℕ
  pub seen : S

-- some bytes of this kind were put
abbrev pub Puts : List ℕ → List ℕ → (List ℕ → Type 0) → Type 0
Puts before after is = (put : List ℕ) × is put × (after ≡ before ++ put)

-- a line is answered whole; or the session stops at it
abbrev pub AnswersLine : {S : Type 0} → {X : Type 0} → Manner S → Stand S → Stand S → List ℕ → List ℕ → List ℕ
    → Result X SessionError → Type 0
AnswersLine m from to line before after r =
    MatchResult r (λ _. Puts before after (λ answer. TakesLine m from.number from.seen line answer to.seen))
    (λ error. Puts before after (λ part. StopsAt m error from.number from.seen line part to.seen))

-- lines that end in a text are answered whole, and this is left of it; or the session stops at one of them
abbrev pub AnswersLines : {S : Type 0} → {X : Type 0} → Manner S → Stand S → Stand S → List ℕ → (X → List ℕ)
    → List ℕ → List ℕ → Result X SessionError → Type 0
AnswersLines m from to text left before after r =
    MatchResult r
    (λ x. Puts before after (λ put. Passes m from.number from.seen text put to.number to.seen (left x)))
    (λ error. Puts before after (λ out. Halted m error from.number from.seen text out to.seen))

-- all lines of a text are answered whole, the last of which no newline may end; or the session stops at one of them
abbrev pub AnswersAll : {S : Type 0} → {X : Type 0} → Manner S → Stand S → Stand S → List ℕ → List ℕ → List ℕ
    → Result X SessionError → Type 0
AnswersAll m from to text before after r =
    MatchResult r
    (λ _. Puts before after (λ put. IsTranscript m from.number from.seen (lines_in text) put to.seen))
    (λ error. Puts before after (λ out.
    StopsFrom m (Halts m error) from.number from.seen (lines_in text) out to.seen))

-- ---- a reader

-- where a session stands that reads its lines: with the line that has begun, and the bytes that its reader has left, as
-- far as they are known
pub record Reader (S : Type 0) : Type 0 where
  pub stand : Stand S
  pub begun : List ℕ
  pub left : Option (List ℕ)

-- how a session stops that takes more of a reader, which had these bytes left before and has those left now, as far as
-- they are known: where a read fails, nothing has happened; else at a line of what had begun and what came
abbrev pub StopsTaking : {S : Type 0} → Manner S → Option (List ℕ) → Option (List ℕ) → SessionError → ℕ
    → S → List ℕ → List ℕ → S → Type 0
StopsTaking m known left Read number first begun out last = Keeps known left × (out ≡ []) × (last ≡ first)
StopsTaking m known left error number first begun out last =
    (text : List ℕ) × Consumes known left text × Halted m error number first (begun ++ text) out last

-- more of a reader is taken, and each line that ends in it is answered; or the session stops
abbrev pub TakesMore : {S : Type 0} → {X : Type 0} → Manner S → Reader S → Reader S → List ℕ → List ℕ
    → Result X SessionError → Type 0
TakesMore m from to before after r =
    MatchResult r (λ _. (text : List ℕ) × Consumes from.left to.left text
    × Puts before after (λ put.
    Passes m from.stand.number from.stand.seen (from.begun ++ text) put to.stand.number to.stand.seen to.begun))
    (λ error. Puts before after (λ out.
    StopsTaking m from.left to.left error from.stand.number from.stand.seen from.begun out to.stand.seen))

-- how a session stops whose reader had these bytes left before and has those left now, as far as they are known: where
-- a read fails, each line that has ended in what was read is answered, and nothing else is out; else at one of the
-- lines of all that the reader has
abbrev pub StopsReading : {S : Type 0} → Manner S → Option (List ℕ) → Option (List ℕ) → SessionError → S → List ℕ
    → S → Type 0
StopsReading m known left Read first out last =
    (read : List ℕ) × (number : ℕ) × (begun : List ℕ) × Consumes known left read
    × Passes m 1 first read out number last begun × IsUnended begun
StopsReading m known left error first out last =
    (all : List ℕ) × IfSome known (λ xs. xs ≡ all) × Stops m (Halts m error) first (lines_in all) out last
