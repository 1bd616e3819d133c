-- Lines that come in parts.
use Rattle.std.proofs.Common.{◌≡◌, ◌∙◌, ℕ, false, List, [], ◌∷◌, ◌++◌, Option, Some, None, IfSome, refl, sym, ap, subst, append_assoc, append-nil, inl, arith, Result, Ok, Err, OnOk, IfErr}
use Rattle.std.proofs.KnownBytes.{Consumes-kept, Consumes-nil, Consumes-trans, Consumes-whole}
use Rattle.std.proofs.lemmas.List.{length-append}
use Rattle.std.proofs.lemmas.List.Elements.{All-append, All-from_get_or}
use Rattle.std.specs.Io.KnownBytes.{Keeps, Consumes, IsAtEnd}
use Rattle.session.specs.declared.error.SessionError.{SessionError}
use Rattle.session.specs.declared.error.SessionError.TheVariants.{Write, Memory, Held, Read}
use Rattle.session.specs.Commands.{is_newline, lines_in}
use Rattle.session.specs.Transcripts.{Manner, IsTranscript, Stops, StopsFrom}
use Rattle.session.specs.Readings.{IsUnended, Passes, StopsAt, Halted, Stand, AnswersLines, AnswersAll, StopsTaking, StopsReading}
use Rattle.session.specs.Ends.{Halts}
use Rattle.session.proofs.Transcribed.{transcript_more}
use Rattle.session.proofs.Passing.{passes_none, halted_behind, halted_before, halted_short, halted_all, stops_behind, all_lines}

-- a line that has begun, with its end and what stands behind that
pub line_of_parts : (begun text end others : List ℕ) → text ≡ end ++ 10 ∷ others → begun ++ text ≡ (begun ++ end) ++ 10 ∷ others
line_of_parts begun text end others is = ap (λ t. begun ++ t) is ∙ sym (append_assoc begun end (10 ∷ others))

-- an empty text has no newline
pub no_part : IsUnended []
no_part = All-from_get_or (λ c. is_newline c ≡ false) [] 0 (λ i lt. absurd (omega arith))

-- a text with no newline behind another is one
pub part_both : (a b : List ℕ) → IsUnended a → IsUnended b → IsUnended (a ++ b)
part_both a b p q = All-append (λ c. is_newline c ≡ false) a b p q

-- where memory is short for a line, it has not begun
pub short_line : {S : Type 0} (m : Manner S) (number : ℕ) (between : S) (line : List ℕ) → StopsAt m Memory number between line [] between
short_line m number between line others before = inl (append-nil before, refl)

-- what is left of a text is kept; or memory is short for it
pub rest_kept : {S : Type 0} (m : Manner S) (from to : Stand S) (text put rest now before after : List ℕ) (r : Result Unit SessionError)
    → Passes m from.number from.seen text put to.number to.seen rest → after ≡ before ++ put → OnOk r (now ≡ rest) → IfErr r (λ e. e ≡ Memory)
    → AnswersLines m from to text (λ _. now) before after r
rest_kept m from to text put rest now before after (Ok done) passed out is short =
    (put, subst (λ t. Passes m from.number from.seen text put to.number to.seen t) (sym is) passed, out)
rest_kept m from to text put rest now before after (Err e) passed out is short = rw short (
  put,
  subst (λ o. Halted m Memory from.number from.seen text o to.seen) (append-nil put)
      (halted_behind m Memory from.number to.number from.seen to.seen to.seen text put rest [] passed (halted_short m to.number to.seen rest)),
  out,
)

-- ---- what comes behind what was read

-- the lines go on
pub passes_on : {S : Type 0} (m : Manner S) (number next after : ℕ) (first between last : S) (read text put more begun now : List ℕ)
    → Passes m number first read put next between begun → Passes m next between (begun ++ text) more after last now
    → Passes m number first (read ++ text) (put ++ more) after last now
passes_on m number next after first between last read text put more begun now (whole, cuts, told, many) (others, cut, then, count) = (
  whole ++ others,
  (λ behind. ap lines_in (append_assoc read text behind) ∙ cuts (text ++ behind)
      ∙ ap (λ t. whole ++ lines_in t) (sym (append_assoc begun text behind)) ∙ ap (λ ls. whole ++ ls) (cut behind)
      ∙ sym (append_assoc whole others (lines_in (now ++ behind)))),
  transcript_more m number first between last whole others put more told (subst (λ n. IsTranscript m n between others more last) many then),
  omega (arith, length-append whole others),
)

-- the session stops
pub halted_on : {S : Type 0} (m : Manner S) (e : SessionError) (number next : ℕ) (first between last : S) (read text put begun out : List ℕ)
    → Passes m number first read put next between begun → Halted m e next between (begun ++ text) out last
    → Halted m e number first (read ++ text) (put ++ out) last
halted_on m e number next first between last read text put begun out (whole, cuts, told, many) halted more =
    stops_behind m e number next first between last (lines_in ((read ++ text) ++ more)) whole (lines_in ((begun ++ text) ++ more)) put out
    (ap lines_in (append_assoc read text more) ∙ cuts (text ++ more) ∙ ap (λ t. whole ++ lines_in t) (sym (append_assoc begun text more)))
    told many (halted more)

-- behind the last line nothing has begun
pub stops_end : {S : Type 0} (m : Manner S) (number : ℕ) (first last : S) (lines : List (List ℕ)) (put : List ℕ)
    → IsTranscript m number first lines put last → StopsFrom m (Halts m Write) number first lines put last
stops_end m number first last lines put told = (lines, [], put, last, sym (append-nil lines), told, inl (refl, refl))

-- ---- a reader

-- a reader that keeps what it has gives nothing
pub consumes_none : (a b : Option (List ℕ)) → Keeps a b → Consumes a b []
consumes_none None b kept = tt
consumes_none (Some x) None kept = absurd kept
consumes_none (Some x) (Some y) kept = sym kept

-- the lines are those of all that a reader has
pub stops_at_all : {S : Type 0} (m : Manner S) (e : SessionError) (known left : Option (List ℕ)) (first last : S) (read out : List ℕ)
    → Consumes known left read → Halted m e 1 first read out last
    → (all : List ℕ) × IfSome known (λ xs. xs ≡ all) × Stops m (Halts m e) first (lines_in all) out last
stops_at_all m e None left first last read out takes halted = (read, tt, halted_all m e first last read out halted)
stops_at_all m e (Some xs) None first last read out takes halted = absurd takes
stops_at_all m e (Some xs) (Some ys) first last read out takes halted =
    (xs, refl, subst (λ t. StopsFrom m (Halts m e) 1 first (lines_in t) out last) (sym takes) (halted ys))

-- how it stops at a line of what came
pub stops_taking : {S : Type 0} (m : Manner S) (known left : Option (List ℕ)) (e : SessionError) (number : ℕ) (first last : S) (begun text out : List ℕ)
    → Consumes known left text → Halted m e number first (begun ++ text) out last → StopsTaking m known left e number first begun out last
stops_taking m known left Write number first last begun text out takes halted = (text, takes, halted)
stops_taking m known left Memory number first last begun text out takes halted = (text, takes, halted)
stops_taking m known left Held number first last begun text out takes halted = (text, takes, halted)
stops_taking m known left Read number first last begun text out takes halted = absurd (halted []).6

-- how it stops where the sink cannot have all out
pub stops_flushing : {S : Type 0} (m : Manner S) (known : Option (List ℕ)) (number : ℕ) (first : S) (begun : List ℕ)
    → StopsTaking m known known Write number first begun [] first
stops_flushing m known number first begun = ([], Consumes-nil known, halted_before m number first (begun ++ []))

-- where no bytes came, no line is answered
pub passes_nothing : {S : Type 0} (m : Manner S) (number : ℕ) (first : S) (begun : List ℕ) → Passes m number first (begun ++ []) [] number first begun
passes_nothing m number first begun = subst (λ t. Passes m number first t [] number first begun) (sym (append-nil begun)) (passes_none m number first begun)

module _ {S : Type 0} (m : Manner S) (known mid left : Option (List ℕ)) (next : ℕ) (first between last : S) (read put begun out : List ℕ) where
  -- how the session stops that took more of it
  pub stops_reading : (e : SessionError) → Consumes known mid read → Passes m 1 first read put next between begun → IsUnended begun
      → StopsTaking m mid left e next between begun out last → StopsReading m known left e first (put ++ out) last
  stops_reading Write takes passed part (text, more, halted) = stops_at_all m Write known left first last (read ++ text) (put ++ out)
      (Consumes-trans known mid left read text takes more) (halted_on m Write 1 next first between last read text put begun out passed halted)
  stops_reading Memory takes passed part (text, more, halted) = stops_at_all m Memory known left first last (read ++ text) (put ++ out)
      (Consumes-trans known mid left read text takes more) (halted_on m Memory 1 next first between last read text put begun out passed halted)
  stops_reading Held takes passed part (text, more, halted) = stops_at_all m Held known left first last (read ++ text) (put ++ out)
      (Consumes-trans known mid left read text takes more) (halted_on m Held 1 next first between last read text put begun out passed halted)
  stops_reading Read takes passed part (kept, none, same) = (
    read,
    next,
    begun,
    Consumes-kept known mid left read takes kept,
    rw (none, same, append-nil put) passed,
    part,
  )

  -- how it stops behind the last newline of all
  pub stops_finishing : (e : SessionError) → Consumes known left read → IsAtEnd left → Passes m 1 first read put next between begun
      → StopsFrom m (Halts m e) next between (lines_in begun) out last → StopsReading m known left e first (put ++ out) last
  stops_finishing Write takes end (whole, cuts, told, many) stopped = (
    read,
    Consumes-whole known left read (λ xs. xs ≡ read) takes end refl,
    stops_behind m Write 1 next first between last (lines_in read) whole (lines_in begun) put out (all_lines read begun whole cuts) told many stopped,
  )
  stops_finishing Memory takes end (whole, cuts, told, many) stopped = (
    read,
    Consumes-whole known left read (λ xs. xs ≡ read) takes end refl,
    stops_behind m Memory 1 next first between last (lines_in read) whole (lines_in begun) put out (all_lines read begun whole cuts) told many stopped,
  )
  stops_finishing Held takes end (whole, cuts, told, many) stopped = (
    read,
    Consumes-whole known left read (λ xs. xs ≡ read) takes end refl,
    stops_behind m Held 1 next first between last (lines_in read) whole (lines_in begun) put out (all_lines read begun whole cuts) told many stopped,
  )
  stops_finishing Read takes end passed stopped = absurd stopped.6

-- ---- the end of the input

module _ {S : Type 0} (m : Manner S) (known left : Option (List ℕ)) (from to : Stand S) (first : S) (read put begun before mid after : List ℕ) where
  -- all lines of a reader are answered
  pub told_reading : (P : S → Type 0) (r : Result Unit SessionError) → Consumes known left read → IsAtEnd left
      → Passes m 1 first read put from.number from.seen begun → mid ≡ before ++ put → P to.seen → AnswersAll m from to begun mid after r
      → OnOk r ((all : List ℕ) × (bytes : List ℕ) × (l : S) × IfSome known (λ xs. xs ≡ all) × IsTranscript m 1 first (lines_in all) bytes l
      × P l × (after ≡ before ++ bytes))
  told_reading P (Ok done) takes end (whole, cuts, told, many) out holds (more, then, on) = (
    read,
    put ++ more,
    to.seen,
    Consumes-whole known left read (λ xs. xs ≡ read) takes end refl,
    rw (all_lines read begun whole cuts)
        (transcript_more m 1 first from.seen to.seen whole (lines_in begun) put more told
        (subst (λ n. IsTranscript m n from.seen (lines_in begun) more to.seen) many then)),
    holds,
    on ∙ ap (λ o. o ++ more) out ∙ append_assoc before put more,
  )
  told_reading P (Err e) takes end passed out holds told = tt

  -- the session stops behind the last newline
  pub stopped_reading : (P : S → Type 0) (r : Result Unit SessionError) → Consumes known left read → IsAtEnd left
      → Passes m 1 first read put from.number from.seen begun → mid ≡ before ++ put → P to.seen → AnswersAll m from to begun mid after r
      → IfErr r (λ e. (out : List ℕ) × (l : S) × StopsReading m known left e first out l × P l × (after ≡ before ++ out))
  stopped_reading P (Ok done) takes end passed out holds stopped = tt
  stopped_reading P (Err e) takes end passed out holds (more, stops, on) = (
    put ++ more,
    to.seen,
    stops_finishing m known left left from.number first from.seen to.seen read put begun more e takes end passed stops,
    holds,
    on ∙ ap (λ o. o ++ more) out ∙ append_assoc before put more,
  )
