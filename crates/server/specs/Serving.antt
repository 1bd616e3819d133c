-- What a run of the program writes.
use Rattle.std.specs.Prelude.{⊤, ◌≡◌, ◌==◌, ◌<◌, count_by, replicate, slice_index_or, ℕ, Bool, true, false, List, [], ◌++◌, codes, length, map, Some, None, Result, Ok, Err}
use Rattle.std.specs.Fmt.{decimal}
use Rattle.std.specs.List.{concat, list_any}
use Rattle.maptypes.specs.Incrementals.{Step}
use Rattle.osdmap.specs.Maps.{ClusterMap}
use Rattle.osdmap.specs.Changes.{IsLawful}
use Rattle.epochlog.specs.Epochs.{Begins}
use Rattle.epochlog.specs.Journals.{Journal, HasAll}
use Rattle.mapparts.specs.declared.profile.Profile.{Profile}
use Rattle.mapjson.specs.MapTexts.{map_text_fault, StatesMap}
use Rattle.monitor.specs.Members.{Monitored, IsMemberOf}
use Rattle.session.specs.Commands.{lines_in}
use Rattle.session.specs.Answers.{Basis, Sight, session_by}
use Rattle.session.specs.Sessions.{basis_of, sight_by, track_of, IsFollowerOf}
use Rattle.monitor.specs.Opening.{can_open, max_draws}
use Rattle.refusal.specs.declared.refused.Refusal.TheVariants.{BadLimit}
use Rattle.session.specs.Transcripts.{IsTranscript}
use Rattle.session.specs.Sinks.{HasPut}
use Rattle.server.specs.Pairs.{Pairs}
use Rattle.session.specs.Buffers.{bytes_of}
use Rattle.server.specs.declared.left.Left.{Left}
use Rattle.server.specs.declared.part.Part.{Part}
use Rattle.server.specs.declared.part.Part.TheVariants.{Script, Live}
use Rattle.server.specs.declared.fault.Fault.{Fault}
use Rattle.server.specs.declared.fault.Unplayed.{Unplayed}
use Rattle.server.specs.declared.fault.Unplayed.TheVariants as unplayed
use Rattle.server.specs.declared.fault.Fault.TheVariants.{Map, Output, Told, Lost, Memory}

-- the fault of a run of which no session is left
abbrev pub fault_of : Unplayed → Fault
fault_of unplayed.Memory = Memory
fault_of unplayed.Lost = Lost

-- the most sessions of a run
abbrev pub max_scripts : ℕ
max_scripts = 64

-- ---- one session

-- the line above the answers of the session of a number
abbrev pub heading : ℕ → List ℕ
heading number = codes "session " ++ decimal number ++ codes "\n"

-- the gate of the program lets each line through
abbrev pub lets_all : ℕ → Bool → Type 0
lets_all number passes = passes ≡ true

-- what a session has seen before its first line, and that it has made none of so many epochs
abbrev pub unseen : ℕ → Sight
unseen most = record {
  member = record { history = []; draws = 0; own = replicate most false };
  follower = record { history = []; seen = []; runs = 0 };
}

-- the text of the session of a number: its heading, and the answers of its script, which go by these; behind the last
-- of them the session has seen this
abbrev pub IsSessionText : Basis → ℕ → List ℕ → List ℕ → Sight → Type 0
IsSessionText basis number script text end =
    (answers : List ℕ) × (last : Sight)
    × IsTranscript (session_by basis lets_all) 1 (unseen basis.most) (lines_in script) answers last
    × (last ≡ end) × (text ≡ heading number ++ answers)

-- the text of the session of a number at this monitor
abbrev pub IsTextBy : Monitored → ℕ → List ℕ → List ℕ → Sight → Type 0
IsTextBy monitor number script text end = IsSessionText (basis_of monitor) number script text end

-- what is left of a session that has ended: what is to be put out, whether a file of it has failed, which it told, and
-- of each epoch of the journal whether its member has made it
pub record LeftFacts : Type 0 where
  pub text : List ℕ
  pub told : Bool
  pub own : List Bool

-- some lines were answered to a session from nothing seen on; behind the last of them it has seen this
abbrev pub HasAnswered : Basis → Sight → Type 0
HasAnswered basis end =
    (lines : List (List ℕ)) × (answers : List ℕ) × (last : Sight)
    × IsTranscript (session_by basis lets_all) 1 (unseen basis.most) lines answers last × (last ≡ end)

-- the same at this monitor
abbrev pub HasAnsweredBy : Monitored → Sight → Type 0
HasAnsweredBy monitor end = HasAnswered (basis_of monitor) end

-- what is left of the session of a part: the text of a script, which has no file that can fail; of a live session no
-- text, as its answers are out, but its lines were answered as those of a script are, up to one whose answer may be cut
-- off where a file has failed
abbrev pub IsLeftOf : Basis → ℕ → Part → LeftFacts → Sight → Type 0
IsLeftOf basis number (Script script) left end =
    IsSessionText basis number script.items left.text end × (left.told ≡ false)
IsLeftOf basis number (Live streams) left end = (left.text ≡ []) × HasAnswered basis end

-- what is to be put out of what is left
abbrev pub text_left : Left → List ℕ
text_left left = bytes_of left.text

-- what is left, without its member
abbrev pub facts_left : Left → LeftFacts
facts_left left = record { text = text_left left; told = left.has_told; own = left.member.own.items }

-- what the member has seen that is left
abbrev pub seen_left : Left → List Step
seen_left left = left.member.pass.history

-- what its follower has read and applied, which is nothing where there is none
abbrev pub followed_left : Left → List Step
followed_left left = (track_of left.follower).history

-- what a session has seen that is left, by its member and its follower
abbrev pub sight_left : Left → Sight
sight_left left = sight_by left.member left.follower

-- what is left of the session of a part at this monitor, its member and its follower
abbrev pub IsLeftBy : Monitored → ℕ → Part → Left → Type 0
IsLeftBy monitor number part left =
    IsMemberOf monitor left.member × IsFollowerOf monitor left.follower
    × IsLeftOf (basis_of monitor) number part (facts_left left) (sight_left left)

-- ---- all sessions

-- what is left of a session; what its member and its follower have seen in the end begins this history
abbrev pub IsLeftIn : Basis → List Step → ℕ → Part → LeftFacts → Type 0
IsLeftIn basis all number part left =
    (end : Sight) × Begins end.member.history all × Begins end.follower.history all × (end.member.own ≡ left.own)
    × IsLeftOf basis number part left end

-- each epoch of a history is one that exactly one session has made
abbrev pub AreMadeOnce : List Step → List LeftFacts → Type 0
AreMadeOnce all lefts = (at : ℕ) → at < length all → count_by (λ left. slice_index_or left.own at false) lefts ≡ 1

-- a first map and a history, as a store keeps them
abbrev pub journal_of : ClusterMap → List Step → Journal
journal_of first all = record { first = first; steps = all }

-- whatever a crash may leave of a store, it is all of a journal, and at most one change more
abbrev pub KeepsAll : {K : Type 0} → (K → Journal → Type 0) → Journal → Type 0
KeepsAll {K} may_leave j = (store : K) × ((left : Journal) → may_leave store left → HasAll j left)

-- what is left of the sessions of these parts, numbered from 1, at one monitor: the last history of each begins one
-- that is lawful from the first map, each of whose epochs exactly one of them has made, and which its store has kept
abbrev pub AreLeftBy : {K : Type 0} → (K → Journal → Type 0) → Monitored → List Part → List Left → Type 0
AreLeftBy may_leave monitor parts lefts =
    (all : List Step) × IsLawful monitor.first all × AreMadeOnce all (map facts_left lefts)
    × KeepsAll may_leave (journal_of monitor.first all)
    × Pairs (λ number part left. IsLeftIn (basis_of monitor) all number part (facts_left left)) 1 parts lefts

-- what the answers of a run go by: its first map, a journal for so many changes, seats with the most draws, the profile
-- by which texts are read, and whether there is one session
abbrev pub run_basis : ClusterMap → ℕ → Profile → List Part → Basis
run_basis m journal profile parts =
    record { first = m; most = journal; draws = max_draws; profile = profile; alone = length parts == 1 }

-- what is left of the sessions of these parts, numbered from 1, from this map: there is one history, lawful from that
-- map, which the last history of each session begins, each of whose epochs exactly one session has made, and of which
-- so much is kept; a session that is the only one sees nothing but what its own answers tell
abbrev pub AreLeftFrom : (List Step → Type 0) → ClusterMap → ℕ → Profile → List Part → List LeftFacts → Type 0
AreLeftFrom IsKept m journal profile parts lefts =
    (all : List Step) × IsLawful m all × AreMadeOnce all lefts × IsKept all
    × Pairs (IsLeftIn (run_basis m journal profile parts) all) 1 parts lefts

-- the texts that are left, one after the other
abbrev pub texts_of : List LeftFacts → List ℕ
texts_of lefts = concat (map (λ left. left.text) lefts)

-- the texts are out, and a session has told that a file of it failed, or none has
abbrev pub IsServedFrom : (List Step → Type 0) → ClusterMap → ℕ → Profile → List Part → Bool → List ℕ → List ℕ → Type 0
IsServedFrom IsKept m journal profile parts told before after =
    (lefts : List LeftFacts) × AreLeftFrom IsKept m journal profile parts lefts
    × (list_any (λ left. left.told) lefts ≡ told) × (after ≡ before ++ texts_of lefts)

-- what is out at the end of a run from this map: the texts, at `Told` where a live session has told that a file of it
-- failed; a beginning of them where the output fails; nothing where no monitor begins at the map's epoch, memory is
-- short or a change is lost
abbrev pub ServesFrom : (List Step → Type 0) → ClusterMap → ℕ → Profile → List Part → List ℕ → List ℕ
    → Result Unit Fault → Type 0
ServesFrom IsKept m journal profile parts before after (Ok done) =
    IsServedFrom IsKept m journal profile parts false before after
ServesFrom IsKept m journal profile parts before after (Err (Map refusal)) =
    (refusal ≡ BadLimit) × (can_open m.epoch journal (length parts) max_draws ≡ false) × (after ≡ before)
ServesFrom IsKept m journal profile parts before after (Err Output) =
    (lefts : List LeftFacts) × (rest : List ℕ) × AreLeftFrom IsKept m journal profile parts lefts
    × HasPut before (texts_of lefts) rest after
ServesFrom IsKept m journal profile parts before after (Err Told) =
    IsServedFrom IsKept m journal profile parts true before after
ServesFrom IsKept m journal profile parts before after (Err Lost) = after ≡ before
ServesFrom IsKept m journal profile parts before after (Err Memory) = after ≡ before

-- a text states a map that is not refused, and what is out at the end of a run is from it
abbrev pub ServesStated : ℕ → Profile → List ℕ → List Part → List ℕ → List ℕ → Result Unit Fault → Type 0
ServesStated journal profile stated parts before after r =
    (map_text_fault profile stated ≡ None)
    × ((m : ClusterMap) × StatesMap profile stated m × ServesFrom (λ all. ⊤) m journal profile parts before after r)

-- what is out at the end of a run over a text: nothing where its map is refused or memory is short
abbrev pub Serves : ℕ → Profile → List ℕ → List Part → List ℕ → List ℕ → Result Unit Fault → Type 0
Serves journal profile stated parts before after (Ok done) =
    ServesStated journal profile stated parts before after (Ok done)
Serves journal profile stated parts before after (Err (Map refusal)) =
    (map_text_fault profile stated ≡ Some refusal) × (after ≡ before)
Serves journal profile stated parts before after (Err Output) =
    ServesStated journal profile stated parts before after (Err Output)
Serves journal profile stated parts before after (Err Told) =
    ServesStated journal profile stated parts before after (Err Told)
Serves journal profile stated parts before after (Err Lost) =
    ServesStated journal profile stated parts before after (Err Lost)
Serves journal profile stated parts before after (Err Memory) = after ≡ before

-- whether the sink has failed: where the output is told to have, and else not
abbrev pub has_output_failed : Result Unit Fault → Bool
has_output_failed (Ok done) = false
has_output_failed (Err (Map refusal)) = false
has_output_failed (Err Output) = true
has_output_failed (Err Told) = false
has_output_failed (Err Lost) = false
has_output_failed (Err Memory) = false
