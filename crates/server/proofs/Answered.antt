-- The lines that live sessions have answered.
use Rattle.std.proofs.Common.{◌≡◌, ◌+◌, ◌++◌, ℕ, List, [], ◌∷◌, length, Option, None, OnOk, IfErr, Result, Ok, Err, refl, sym, subst, arith, inl, inr}
use Rattle.monitor.specs.Members.{Monitored}
use Rattle.session.specs.declared.error.SessionError.{SessionError}
use Rattle.session.specs.declared.error.SessionError.TheVariants.{Write, Memory, Held, Read}
use Rattle.session.specs.Answers.{Sight}
use Rattle.session.specs.Commands.{lines_in}
use Rattle.session.specs.Ends.{Halts}
use Rattle.session.specs.Sessions.{session_of, first_sight, sight_by, IsReadOut, IsCutShort}
use Rattle.session.specs.Transcripts.{Manner, IsTranscript, Breaks, StopsFrom}
use Rattle.session.proofs.Transcribed.{transcript_none, transcript_one, transcript_more}
use Rattle.server.specs.declared.left.Asker.{Asker}
use Rattle.server.specs.Players.{sight_of}
use Rattle.server.specs.Serving.{HasAnsweredBy, unseen, lets_all}

-- nothing is answered at first
pub none_answered : (monitor : Monitored) (seen : Sight) → seen ≡ unseen (length monitor.row.cells) → HasAnsweredBy monitor seen
none_answered monitor seen same =
    ([], [], seen, subst (λ s. IsTranscript (session_of monitor lets_all) 1 s [] [] seen) same (transcript_none (session_of monitor lets_all) 1 seen), refl)

-- one that has seen nothing and has no follower has answered nothing yet
pub none_yet : (monitor : Monitored) (asker : Asker) → asker.follower ≡ None → first_sight asker.member ≡ unseen (length monitor.row.cells)
    → HasAnsweredBy monitor (sight_of asker)
none_yet monitor asker none same =
    subst (λ f. HasAnsweredBy monitor (sight_by asker.member f)) (sym none) (none_answered monitor (first_sight asker.member) same)

-- lines that lead from the first that was seen to the last
abbrev HasLines : {S : Type 0} → Manner S → S → S → Type 0
HasLines m first last = (lines : List (List ℕ)) × (answers : List ℕ) × IsTranscript m 1 first lines answers last

-- the line at whose answer a session breaks off is answered too
broken : {S : Type 0} (m : Manner S) (first between last : S) (whole others : List (List ℕ)) (before out : List ℕ)
    → IsTranscript m 1 first whole before between → Breaks m (length whole + 1) between others before out last → HasLines m first last
broken m first between last whole others before out told (line, rest, answer, part, missing, is, taken, cut, put) =
    let same : length whole + 1 ≡ 1 + length whole = omega arith in
    let one = transcript_one m (length whole + 1) between last line answer taken in (
      whole ++ line ∷ [],
      before ++ answer,
      transcript_more m 1 first between last whole (line ∷ []) before answer told
          (subst (λ n. IsTranscript m n between (line ∷ []) answer last) same one),
    )

-- one that stops where it was after a line has answered the lines up to there
rested : {S : Type 0} (m : Manner S) (first between last : S) (whole : List (List ℕ)) (before : List ℕ)
    → IsTranscript m 1 first whole before between → last ≡ between → HasLines m first last
rested m first between last whole before told is = (whole, before, subst (λ s. IsTranscript m 1 first whole before s) (sym is) told)

-- wherever a session stops, it has answered lines
halted : {S : Type 0} (m : Manner S) (error : SessionError) (first last : S) (lines : List (List ℕ)) (out : List ℕ)
    → StopsFrom m (Halts m error) 1 first lines out last → HasLines m first last
halted m Write first last lines out (whole, others, before, between, is, told, inl rests) = rested m first between last whole before told rests.1
halted m Write first last lines out (whole, others, before, between, is, told, inr breaks) = broken m first between last whole others before out told breaks
halted m Memory first last lines out (whole, others, before, between, is, told, inl rests) = rested m first between last whole before told rests.1
halted m Memory first last lines out (whole, others, before, between, is, told, inr breaks) = broken m first between last whole others before out told breaks
halted m Held first last lines out (whole, others, before, between, is, told, (c, cs, rest, held, lets, rests)) = rested m first between last whole before told rests.1
halted m Read first last lines out (whole, others, before, between, is, told, never) = absurd never

-- so has one that has read its lines, up to its end or not
pub answered : (monitor : Monitored) (seen end : Sight) (known left : Option (List ℕ)) (before after : List ℕ) (r : Result Unit SessionError)
    → seen ≡ unseen (length monitor.row.cells) → OnOk r (IsReadOut (session_of monitor lets_all) known seen end before after)
    → IfErr r (IsCutShort (session_of monitor lets_all) known left seen end before after) → HasAnsweredBy monitor end
answered monitor seen end known left before after (Ok done) same (read, bytes, last, all, told, is, put) cut =
    (lines_in read, bytes, last, subst (λ s. IsTranscript (session_of monitor lets_all) 1 s (lines_in read) bytes last) same told, is)
answered monitor seen end known left before after (Err Write) same ok (out, last, (all, knows, stops), is, put) =
    let found = halted (session_of monitor lets_all) Write seen last (lines_in all) out stops in
    (found.0, found.1, last, subst (λ s. IsTranscript (session_of monitor lets_all) 1 s found.0 found.1 last) same found.2, is)
answered monitor seen end known left before after (Err Memory) same ok (out, last, (all, knows, stops), is, put) =
    let found = halted (session_of monitor lets_all) Memory seen last (lines_in all) out stops in
    (found.0, found.1, last, subst (λ s. IsTranscript (session_of monitor lets_all) 1 s found.0 found.1 last) same found.2, is)
answered monitor seen end known left before after (Err Held) same ok (out, last, (all, knows, stops), is, put) =
    let found = halted (session_of monitor lets_all) Held seen last (lines_in all) out stops in
    (found.0, found.1, last, subst (λ s. IsTranscript (session_of monitor lets_all) 1 s found.0 found.1 last) same found.2, is)
answered monitor seen end known left before after (Err Read) same ok (out, last, (read, number, begun, taken, (whole, cuts, told, next), unended), is, put) =
    (whole, out, last, subst (λ s. IsTranscript (session_of monitor lets_all) 1 s whole out last) same told, is)
