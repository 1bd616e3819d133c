-- How a session goes on by the lines of a text.
use Rattle.std.proofs.Common.{◌≡◌, ◌∙◌, ℕ, ◌+◌, List, [], ◌∷◌, ◌++◌, length, refl, sym, ap, subst, false, true, ◌<◌, append_assoc, append-nil, inl, inr, arith, Result, Ok, Err, OnOk, IfErr}
use Rattle.std.proofs.lemmas.List.{length-append}
use Rattle.session.specs.declared.error.SessionError.{SessionError}
use Rattle.session.specs.declared.error.SessionError.TheVariants.{Write, Memory, Held, Read}
use Rattle.session.specs.Commands.{lines_in}
use Rattle.session.specs.Transcripts.{Manner, TakesLine, IsTranscript, Breaks, StopsFrom}
use Rattle.session.specs.Readings.{IsUnended, Cuts, Passes, StopsAt, Halted, Stand, AnswersLine, AnswersLines, AnswersAll}
use Rattle.std.specs.Result.{IsErrAnd}
use Rattle.session.specs.Ends.{Halts, IsOut}
use Rattle.session.proofs.LinesIn.{lines_in-part, lines_in-last, lines_in-none}
use Rattle.session.proofs.Replies.{takes_line}
use Rattle.session.proofs.Transcribed.{transcript_more, transcript_none, transcript_one}

-- where no line is answered, all of the text is left
pub passes_none : {S : Type 0} (m : Manner S) (number : ℕ) (first : S) (text : List ℕ) → Passes m number first text [] number first text
passes_none m number first text = ([], (λ more. refl), transcript_none m number first, omega arith)

-- the first line of a text is answered
pub passes_line : {S : Type 0} (m : Manner S) (number : ℕ) (first last : S) (line others answer : List ℕ) → IsUnended line
    → TakesLine m number first line answer last → Passes m number first (line ++ 10 ∷ others) answer (number + 1) last others
passes_line m number first last line others answer part taken = (
  line ∷ [],
  (λ more. rw (append_assoc line (10 ∷ others) more) (lines_in-part line (others ++ more) part)),
  transcript_one m number first last line answer taken,
  refl,
)

-- some lines are answered, and then others
pub passes_more : {S : Type 0} (m : Manner S) (number next after : ℕ) (first between last : S) (text put rest more end : List ℕ)
    → Passes m number first text put next between rest → Passes m next between rest more after last end
    → Passes m number first text (put ++ more) after last end
passes_more m number next after first between last text put rest more end (whole, cuts, told, many) (others, cut, then, count) = (
  whole ++ others,
  (λ behind. rw (append_assoc whole others (lines_in (end ++ behind))) (cuts behind ∙ ap (λ ls. whole ++ ls) (cut behind))),
  transcript_more m number first between last whole others put more told (subst (λ n. IsTranscript m n between others more last) many then),
  omega (arith, length-append whole others),
)

-- ---- where it stops

-- a line that breaks off does so with more before it
by_break : {S : Type 0} (m : Manner S) (number : ℕ) (between last : S) (others : List (List ℕ)) (put before out : List ℕ)
    → Breaks m number between others before out last → Breaks m number between others (put ++ before) (put ++ out) last
by_break m number between last others put before out (line, more, answer, part, missing, is, taken, cut, same) =
    (line, more, answer, part, missing, is, taken, cut, rw (same, append_assoc put before part) refl)

-- the way in which it stops is the same with more before it
halts_behind : {S : Type 0} (m : Manner S) (e : SessionError) (number : ℕ) (between last : S) (others : List (List ℕ)) (put before out : List ℕ)
    → Halts m e number between others before out last → Halts m e number between others (put ++ before) (put ++ out) last
halts_behind m Write number between last others put before out (inl (same, left)) = inl (ap (λ o. put ++ o) same, left)
halts_behind m Write number between last others put before out (inr halts) = inr (by_break m number between last others put before out halts)
halts_behind m Memory number between last others put before out (inl (same, left)) = inl (ap (λ o. put ++ o) same, left)
halts_behind m Memory number between last others put before out (inr halts) = inr (by_break m number between last others put before out halts)
halts_behind m Held number between last others put before out (c, cs, more, is, held, (same, left)) =
    (c, cs, more, is, held, (ap (λ o. put ++ o) same, left))
halts_behind m Read number between last others put before out halts = absurd halts

-- a session that has gone on by some lines stops where it stops behind them
pub stops_behind : {S : Type 0} (m : Manner S) (e : SessionError) (number next : ℕ) (first between last : S)
    (lines whole rest : List (List ℕ)) (put out : List ℕ) → lines ≡ whole ++ rest → IsTranscript m number first whole put between
    → next ≡ number + length whole → StopsFrom m (Halts m e) next between rest out last
    → StopsFrom m (Halts m e) number first lines (put ++ out) last
stops_behind m e number next first between last lines whole rest put out is told many (more, others, before, here, cut, then, halts) = (
  whole ++ more,
  others,
  put ++ before,
  here,
  rw (is, cut, append_assoc whole more others) refl,
  transcript_more m number first between here whole more put before told (subst (λ n. IsTranscript m n between more before here) many then),
  halts_behind m e (length (whole ++ more) + number) here last others put before out
      (subst (λ n. Halts m e n here others before out last) (omega (arith, length-append whole more)) halts),
)

-- what stops behind some lines stops behind them whatever comes
pub halted_behind : {S : Type 0} (m : Manner S) (e : SessionError) (number next : ℕ) (first between last : S) (text put rest out : List ℕ)
    → Passes m number first text put next between rest → Halted m e next between rest out last
    → Halted m e number first text (put ++ out) last
halted_behind m e number next first between last text put rest out (whole, cuts, told, many) halted more =
    stops_behind m e number next first between last (lines_in (text ++ more)) whole (lines_in (rest ++ more)) put out (cuts more) told many (halted more)

-- what is left of a text is answered behind what was
pub lines_more : {S : Type 0} {X : Type 0} (m : Manner S) (from between to : Stand S) (text put rest before mid after : List ℕ) (left : X → List ℕ)
    (r : Result X SessionError) → Passes m from.number from.seen text put between.number between.seen rest → mid ≡ before ++ put
    → AnswersLines m between to rest left mid after r → AnswersLines m from to text left before after r
lines_more m from between to text put rest before mid after left (Ok x) passed out (more, then, on) = (
  put ++ more,
  passes_more m from.number between.number to.number from.seen between.seen to.seen text put rest more (left x) passed then,
  on ∙ ap (λ o. o ++ more) out ∙ append_assoc before put more,
)
lines_more m from between to text put rest before mid after left (Err e) passed out (more, halted, on) = (
  put ++ more,
  halted_behind m e from.number between.number from.seen between.seen to.seen text put rest more passed halted,
  on ∙ ap (λ o. o ++ more) out ∙ append_assoc before put more,
)

-- a session stops at the first of some lines
pub stops_line : {S : Type 0} (m : Manner S) (e : SessionError) (number : ℕ) (first last : S) (lines : List (List ℕ)) (out : List ℕ)
    → Halts m e number first lines [] out last → StopsFrom m (Halts m e) number first lines out last
stops_line m e number first last lines out halts =
    let same : number ≡ 0 + number = omega arith in
    ([], lines, [], first, refl, transcript_none m number first, subst (λ n. Halts m e n first lines [] out last) same halts)

-- a session stops at the first line that ends in a text
pub halted_line : {S : Type 0} (m : Manner S) (e : SessionError) (number : ℕ) (first last : S) (line others part : List ℕ) → IsUnended line
    → StopsAt m e number first line part last → Halted m e number first (line ++ 10 ∷ others) part last
halted_line m e number first last line others part none halts rest =
    subst (λ ls. StopsFrom m (Halts m e) number first ls part last)
    (sym (ap lines_in (append_assoc line (10 ∷ others) rest) ∙ lines_in-part line (others ++ rest) none))
    (stops_line m e number first last (line ∷ lines_in (others ++ rest)) part (halts (lines_in (others ++ rest)) []))

-- ---- one line

-- a line that the gate holds
pub held_line : {S : Type 0} (m : Manner S) (number : ℕ) (between : S) (line : List ℕ) → 0 < length line → m.lets number false
    → StopsAt m Held number between line [] between
held_line m number between [] some held others before = absurd (omega arith)
held_line m number between (c ∷ cs) some held others before = (c, cs, others, refl, held, (append-nil before, refl))

-- a line that is answered, as far as its answer is out
pub told_line : {S : Type 0} (m : Manner S) (from to : Stand S) (line answer before after : List ℕ) (r : Result Unit SessionError)
    → 0 < length line → m.lets from.number true → m.answers from.seen line answer to.seen → IsOut answer before after r
    → AnswersLine m from to line before after r
told_line m from to line answer before after (Ok done) some lets answered out =
    (answer, takes_line m from.number from.seen to.seen line answer some lets answered, out)
told_line m from to line answer before after (Err Write) some lets answered (rest, (part, cut, more)) =
    (part, (λ others b. inr (line, others, answer, part, rest, refl, takes_line m from.number from.seen to.seen line answer some lets answered, cut, refl)), more)
told_line m from to line answer before after (Err Memory) some lets answered (rest, (part, cut, more)) =
    (part, (λ others b. inr (line, others, answer, part, rest, refl, takes_line m from.number from.seen to.seen line answer some lets answered, cut, refl)), more)
told_line m from to line answer before after (Err Held) some lets answered out = absurd out
told_line m from to line answer before after (Err Read) some lets answered out = absurd out

-- a text before which the sink has failed
pub halted_before : {S : Type 0} (m : Manner S) (number : ℕ) (first : S) (text : List ℕ) → Halted m Write number first text [] first
halted_before m number first text more = stops_line m Write number first first (lines_in (text ++ more)) [] (inl (refl, refl))

-- a text before which memory is short
pub halted_short : {S : Type 0} (m : Manner S) (number : ℕ) (first : S) (text : List ℕ) → Halted m Memory number first text [] first
halted_short m number first text more = stops_line m Memory number first first (lines_in (text ++ more)) [] (inl (refl, refl))

-- ---- the last line

-- the last line is all that is left
pub last_line : {S : Type 0} (m : Manner S) (from to : Stand S) (line before after : List ℕ) (r : Result Unit SessionError)
    → IsUnended line → 0 < length line → AnswersLine m from to line before after r → AnswersAll m from to line before after r
last_line m from to line before after (Ok done) part some (answer, taken, out) =
    (answer, rw (lines_in-last line part some) (transcript_one m from.number from.seen to.seen line answer taken), out)
last_line m from to line before after (Err e) part some (out, halts, same) =
    (out, rw (lines_in-last line part some) (stops_line m e from.number from.seen to.seen (line ∷ []) out (halts [] [])), same)

-- there is no last line
pub told_none : {S : Type 0} (m : Manner S) (number : ℕ) (first : S) (line before : List ℕ) → line ≡ []
    → (put : List ℕ) × IsTranscript m number first (lines_in line) put first × (before ≡ before ++ put)
told_none m number first line before none = ([], rw (none, lines_in-none) (transcript_none m number first), sym (append-nil before))

-- ---- a whole script

-- what holds where the session stops by an error holds where that is handed on
pub handed_on : {X : Type 0} (A : Result X SessionError → Type 0) (r : Result X SessionError) (e : SessionError) → IsErrAnd r (λ f. f ≡ e)
    → A (Err e) → A r
handed_on A (Ok done) e is holds = absurd is
handed_on A (Err f) e is holds = rw is holds

-- the lines of a text, of which some are cut off
pub all_lines : (text rest : List ℕ) (whole : List (List ℕ)) → Cuts text whole rest → lines_in text ≡ whole ++ lines_in rest
all_lines text rest whole cuts =
    ap lines_in (sym (append-nil text)) ∙ cuts [] ∙ ap (λ t. whole ++ lines_in t) (append-nil rest)

module _ {S : Type 0} (m : Manner S) (from to : Stand S) (first : S) (text put rest before mid after : List ℕ) where
  -- the last line is answered behind the others
  pub run_ok : (P : S → Type 0) (r : Result Unit SessionError) → Passes m 1 first text put from.number from.seen rest → mid ≡ before ++ put → P to.seen
      → AnswersAll m from to rest mid after r
      → OnOk r ((bytes : List ℕ) × (l : S) × IsTranscript m 1 first (lines_in text) bytes l × P l × (after ≡ before ++ bytes))
  run_ok P (Ok done) (whole, cuts, told, many) out holds (more, then, end) = (
    put ++ more,
    to.seen,
    rw (all_lines text rest whole cuts)
        (transcript_more m 1 first from.seen to.seen whole (lines_in rest) put more told
        (subst (λ n. IsTranscript m n from.seen (lines_in rest) more to.seen) many then)),
    holds,
    rw (end, out, append_assoc before put more) refl,
  )
  run_ok P (Err e) passed out holds told = tt

  -- the session stops at the last line
  pub run_err : (P : S → Type 0) (r : Result Unit SessionError) → Passes m 1 first text put from.number from.seen rest → mid ≡ before ++ put → P to.seen
      → AnswersAll m from to rest mid after r
      → IfErr r (λ e. (out : List ℕ) × (l : S) × StopsFrom m (Halts m e) 1 first (lines_in text) out l × P l × (after ≡ before ++ out))
  run_err P (Ok done) passed out holds stopped = tt
  run_err P (Err e) (whole, cuts, told, many) out holds (more, then, end) = (
    put ++ more,
    to.seen,
    stops_behind m e 1 from.number first from.seen to.seen (lines_in text) whole (lines_in rest) put more (all_lines text rest whole cuts) told many then,
    holds,
    rw (end, out, append_assoc before put more) refl,
  )

-- a session that stops at a line before the last stops at a line of the script
pub halted_all : {S : Type 0} (m : Manner S) (e : SessionError) (first last : S) (text out : List ℕ)
    → Halted m e 1 first text out last → StopsFrom m (Halts m e) 1 first (lines_in text) out last
halted_all m e first last text out halted =
    subst (λ t. StopsFrom m (Halts m e) 1 first (lines_in t) out last) (append-nil text) (halted [])
