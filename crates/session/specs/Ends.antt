-- How much of an answer is out, how a session ends, and what an end says of the sink.
use Rattle.std.specs.Prelude.{◌≡◌, ◌⊎◌, ℕ, true, false, Bool, List, ◌++◌, Result, Ok, Err}
use Rattle.session.specs.declared.error.SessionError.{SessionError}
use Rattle.session.specs.declared.error.SessionError.TheVariants.{Write, Memory, Held, Read}
use Rattle.session.specs.Sinks.{HasPut}
use Rattle.session.specs.Transcripts.{Manner, Stopping, Rests, Breaks, IsHeldBack}

-- whether the sink has failed: at `Write`, and else not
abbrev pub has_sink_failed : {X : Type 0} → Result X SessionError → Bool
has_sink_failed (Ok done) = false
has_sink_failed (Err Write) = true
has_sink_failed (Err Memory) = false
has_sink_failed (Err Held) = false
has_sink_failed (Err Read) = false

-- a beginning of an answer is out
abbrev pub IsCutOff : List ℕ → List ℕ → List ℕ → Type 0
IsCutOff answer before after = (rest : List ℕ) × HasPut before answer rest after

-- an answer is out whole where nothing fails, and else a beginning of it; no gate holds a line that is being answered,
-- and nothing is read for it
abbrev pub IsOut : List ℕ → List ℕ → List ℕ → Result Unit SessionError → Type 0
IsOut answer before after (Ok done) = after ≡ before ++ answer
IsOut answer before after (Err Write) = IsCutOff answer before after
IsOut answer before after (Err Memory) = IsCutOff answer before after
IsOut answer before after (Err Held) = ⊥
IsOut answer before after (Err Read) = ⊥

-- the way in which a session stops at a line, by its error: where the sink fails or memory is short, the next answer is
-- cut off or no other line has begun; where the gate holds a line, that line has not; a read fails behind all lines
abbrev pub Halts : {S : Type 0} → Manner S → SessionError → Stopping S
Halts m Write number between others before out last =
    Rests between before out last ⊎ Breaks m number between others before out last
Halts m Memory number between others before out last =
    Rests between before out last ⊎ Breaks m number between others before out last
Halts m Held number between others before out last = IsHeldBack m number between others before out last
Halts m Read number between others before out last = ⊥
