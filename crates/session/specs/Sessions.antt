-- A session and its monitor.
use Rattle.std.specs.Prelude.{◌≡◌, ◌++◌, List, [], length, Option, Some, None, IfSome, Bool, ℕ, Result}
use Rattle.maptypes.specs.Incrementals.{Step}
use Rattle.refusal.specs.declared.refused.Refusal.{Refusal}
use Rattle.monitor.specs.Members.{Monitored, IsMemberOf, draws_of, draws_made}
use Rattle.monitor.specs.Followers.{Followed, Follows}
use Rattle.monitor.specs.declared.member.Member.{Member}
use Rattle.monitor.specs.declared.shared.Shared.{Shared}
use Rattle.session.specs.declared.desk.Desk.{Desk}
use Rattle.session.specs.declared.error.SessionError.{SessionError}
use Rattle.session.specs.declared.line.Asking.{Asking}
use Rattle.session.specs.declared.line.FirstLine.{FirstLine}
use Rattle.session.specs.declared.progress.Progress.{Progress}
use Rattle.session.specs.declared.reading.Reading.{Reading}
use Rattle.session.specs.Commands.{Command, lines_in}
use Rattle.session.specs.Ends.{Halts}
use Rattle.session.specs.Texts.{line_of}
use Rattle.session.specs.Transcripts.{Manner, IsTranscript, Stops}
use Rattle.session.specs.Answers.{Basis, Track, Account, Sight, Does, AddsOwn, session_by}
use Rattle.session.specs.Readings.{whole_text, Stand, Reader, StopsReading}

-- what a follower has
abbrev pub track : Followed → Track
track follower = record { history = follower.history; seen = follower.seen; runs = follower.runs }

-- what a session has by its follower, which has nothing where there is none yet
abbrev pub track_of : Option Followed → Track
track_of (Some follower) = track follower
track_of None = record { history = []; seen = []; runs = 0 }

-- what a member has
abbrev pub account : Member → Account
account member =
    record { history = member.pass.history; draws = draws_made member; own = member.own.items }

-- what a member has whose seat is in a hold of the lock
abbrev pub account_in : {K : Type 0} → Shared K → Member → Account
account_in shared member =
    record { history = member.pass.history; draws = shared.guard.turn.place.draws; own = member.own.items }

-- what is seen by a member and a follower
abbrev pub sight_by : Member → Option Followed → Sight
sight_by member follower = record { member = account member; follower = track_of follower }

-- what is seen by a member that shares the lock, and by a follower
abbrev pub sight_in : {K : Type 0} → Shared K → Member → Option Followed → Sight
sight_in shared member follower = record { member = account_in shared member; follower = track_of follower }

-- what a member has seen, before its session has a follower
abbrev pub first_sight : Member → Sight
first_sight member = sight_by member None

-- the follower, where there is one, is of this monitor
abbrev pub IsFollowerOf : Monitored → Option Followed → Type 0
IsFollowerOf monitor follower = IfSome follower (Follows monitor)

-- what the answers of a session of this monitor go by
abbrev pub basis_of : Monitored → Basis
basis_of monitor =
    record {
      first = monitor.first;
      most = length monitor.row.cells;
      draws = draws_of monitor;
      profile = monitor.profile;
      alone = monitor.alone;
    }

-- how a session of this monitor goes behind a gate
abbrev pub session_of : Monitored → (ℕ → Bool → Type 0) → Manner Sight
session_of monitor lets = session_by (basis_of monitor) lets

-- how a session goes at a desk, whose gate lets these lines through
abbrev pub session_at : {R G K : Type 0} → Desk R G K → (G → ℕ → Bool → Type 0) → Manner Sight
session_at desk lets = session_of desk.monitor.now (lets desk.gate.now)

-- ---- commands

-- what is asked of a monitor is answered to a member, which is one of it still: so, by what the member has seen before
-- and then; and with none beside it, it sees nothing but what the line of the answer tells
pub record AnswersMember {X : Type 0} (monitor : Monitored) (before after : Member)
    (gives : Account → Account → Result X Refusal → Type 0) (text : X → List ℕ) (r : Result X Refusal) :
    Type 0 where
  pub member : IsMemberOf monitor after
  pub answers : gives (account before) (account after) r
  pub own : AddsOwn monitor.alone before.pass.history (line_of text r) after.pass.history

-- a command is done for a member and a follower, both of this monitor still
pub record IsDone (monitor : Monitored) (before after : Member) (had has : Option Followed) (command : Option Command)
    (line : List ℕ) : Type 0 where
  pub member : IsMemberOf monitor after
  pub follower : IsFollowerOf monitor has
  pub does : Does (basis_of monitor) (sight_by before had) command line (sight_by after has)
  pub own : AddsOwn monitor.alone before.pass.history line after.pass.history

-- ---- steps

-- a session is at this desk: its member and its follower are of the desk's monitor, and its sink has failed just where
-- this is true
pub record IsAtDesk {R G K : Type 0} (desk : Desk R G K) (who : Member) (progress : Progress) (failed is : Bool) :
    Type 0 where
  pub member : IsMemberOf desk.monitor.now who
  pub follower : IsFollowerOf desk.monitor.now progress.follower
  pub sink : failed ≡ is

-- where a session stands
abbrev pub stand : Member → Progress → Stand Sight
stand member progress = record { number = progress.number; seen = sight_by member progress.follower }

-- where a session stands in a hold of the lock
abbrev pub stand_in : {K : Type 0} → Shared K → Member → Progress → Stand Sight
stand_in shared member progress =
    record { number = progress.number; seen = sight_in shared member progress.follower }

-- where a session stands that reads its lines
abbrev pub reader_at : Member → Reading → Option (List ℕ) → Reader Sight
reader_at member reading left =
    record { stand = stand member reading.progress; begun = reading.begun.items; left = left }

-- the text whose first line asks a question
abbrev pub asking_text : Asking → List ℕ
asking_text asking = whole_text asking.line.now asking.rest.now

-- the text that begins with a line
abbrev pub text_from : FirstLine → List ℕ
text_from first = whole_text first.line.now first.rest.now

-- ---- sessions

-- a script is played whole, of a session that has seen the first; what it has seen in the end is this
abbrev pub IsPlayed : Manner Sight → Sight → List ℕ → Sight → List ℕ → List ℕ → Type 0
IsPlayed m first script end before after =
    (bytes : List ℕ) × (last : Sight) × IsTranscript m 1 first (lines_in script) bytes last
    × (last ≡ end) × (after ≡ before ++ bytes)

-- a script is played up to where the session stops, by its error
abbrev pub IsStopped : Manner Sight → Sight → List ℕ → Sight → List ℕ → List ℕ → SessionError → Type 0
IsStopped m first script end before after error =
    (out : List ℕ) × (last : Sight) × Stops m (Halts m error) first (lines_in script) out last
    × (last ≡ end) × (after ≡ before ++ out)

-- the lines of a reader are played to its end, which were all that it had left, as far as that is known
abbrev pub IsReadOut : Manner Sight → Option (List ℕ) → Sight → Sight → List ℕ → List ℕ → Type 0
IsReadOut m known first end before after =
    (read : List ℕ) × (bytes : List ℕ) × (last : Sight) × IfSome known (λ xs. xs ≡ read)
    × IsTranscript m 1 first (lines_in read) bytes last × (last ≡ end) × (after ≡ before ++ bytes)

-- the lines of a reader are played up to where the session stops, by its error
abbrev pub IsCutShort : Manner Sight → Option (List ℕ) → Option (List ℕ) → Sight → Sight → List ℕ → List ℕ
    → SessionError → Type 0
IsCutShort m known left first end before after error =
    (out : List ℕ) × (last : Sight) × StopsReading m known left error first out last
    × (last ≡ end) × (after ≡ before ++ out)
