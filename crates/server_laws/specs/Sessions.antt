-- What the lines of a session tell of the history of their run, and how the sessions of a run go together.
use Rattle.std.specs.Prelude.{⊤, ◌≡◌, ℕ, suc, ◌++◌, Bool, true, List, [], ◌∷◌, length, Option, Some, None, slice_set}
use Rattle.refusal.specs.declared.refused.Refusal.{Refusal}
use Rattle.mapparts.specs.declared.profile.Profile.{Profile}
use Rattle.maptypes.specs.Incrementals.{Step}
use Rattle.osdmap.specs.Maps.{ClusterMap}
use Rattle.osdmap.specs.Changes.{IsLawful}
use Rattle.epochlog.specs.Epochs.{Begins}
use Rattle.session.specs.Answers.{Basis, Account, Sight, session_by}
use Rattle.session.specs.Commands.{lines_in}
use Rattle.session.specs.Texts.{refusal_text}
use Rattle.session.specs.Transcripts.{TakesLine}
use Rattle.server.specs.declared.part.Part.{Part}
use Rattle.server.specs.declared.part.Part.TheVariants.{Script, Live}
use Rattle.server.specs.Pairs.{Pairs}
use Rattle.server.specs.Serving.{LeftFacts, AreMadeOnce, IsLeftIn, IsServedFrom, run_basis, texts_of, lets_all, unseen, heading}
use Rattle.server_laws.specs.Visits.{Visit, behind, IsExecution, PutNothing, IsMergeOfAll}

-- the marks of the epochs that a member has made, with that of a visit: it is of the place at which the visit has put
-- something behind what it has found
abbrev pub with_visit : List Bool → ℕ → Option Step → List Bool
with_visit own at None = own
with_visit own at (Some step) = slice_set own at true

-- what a line tells of the history to the session of a number: nothing, and what its member has seen and made stays; or
-- what the member finds in one visit, which goes on from that; behind the visit stands what it has seen then, and it
-- has made what the visit has
abbrev pub Tells : ℕ → Account → Account → List (Visit Step) → Type 0
Tells number before now [] = (now.history ≡ before.history) × (now.own ≡ before.own)
Tells number before now (v ∷ []) =
    (v.by ≡ number) × Begins before.history v.found × (behind v ≡ now.history)
    × (now.own ≡ with_visit before.own (length v.found) v.made)
Tells number before now (v ∷ w ∷ visits) = ⊥

-- where the answer is a refusal, nothing is put behind
abbrev pub IsIdleAtRefusal : List ℕ → List (Visit Step) → Type 0
IsIdleAtRefusal answer visits = (e : Refusal) → answer ≡ refusal_text e → PutNothing visits

-- the session of a number, which has seen the first, is answered these lines, the first of which is its line `at`: what
-- it puts out, the visits that this is told of, the last first, and what it has seen then; and whatever its follower
-- has read, by which the follower's lines are answered, begins the whole history
abbrev pub IsToldBy : Basis → ℕ → List Step → ℕ → Sight → List (List ℕ) → List ℕ → List (Visit Step) → Sight → Type 0
IsToldBy basis number all at first [] bytes visits last = (bytes ≡ []) × (visits ≡ []) × (last ≡ first)
IsToldBy basis number all at first (line ∷ lines) bytes visits last =
    (answer : List ℕ) × (rest : List ℕ) × (left : Sight) × (here : List (Visit Step)) × (later : List (Visit Step))
    × TakesLine (session_by basis lets_all) at first line answer left
    × Tells number first.member left.member here × IsIdleAtRefusal answer here × Begins left.follower.history all
    × IsToldBy basis number all (suc at) left lines rest later last
    × (bytes ≡ answer ++ rest) × (visits ≡ later ++ here)

-- what the session of a part is told: that of a script by its text, which is its heading and the answers of its lines;
-- a live session by the lines that it has read
abbrev pub IsTold : Basis → List Step → ℕ → Part → LeftFacts → List (Visit Step) → Type 0
IsTold basis all number (Script script) left visits =
    (answers : List ℕ) × (last : Sight)
    × IsToldBy basis number all 1 (unseen basis.most) (lines_in script.items) answers visits last
    × (left.text ≡ heading number ++ answers)
IsTold basis all number (Live streams) left visits =
    (lines : List (List ℕ)) × (answers : List ℕ) × (last : Sight)
    × IsToldBy basis number all 1 (unseen basis.most) lines answers visits last

-- what the sessions of these parts are told, each by itself
abbrev pub AreTold : Basis → List Step → ℕ → List Part → List LeftFacts → List (List (Visit Step)) → Type 0
AreTold basis all number [] [] each = each ≡ []
AreTold basis all number [] (left ∷ lefts) each = ⊥
AreTold basis all number (part ∷ parts) [] each = ⊥
AreTold basis all number (part ∷ parts) (left ∷ lefts) each =
    (visits : List (Visit Step)) × (others : List (List (Visit Step))) × (each ≡ visits ∷ others)
    × IsTold basis all number part left visits × AreTold basis all (suc number) parts lefts others

-- the sessions of these parts have made a history, one visit after the other, in the order of each: each visit finds
-- just what the one before it has left
abbrev pub IsOneRun : ClusterMap → ℕ → Profile → List Part → List LeftFacts → List Step → Type 0
IsOneRun m journal profile parts lefts all =
    (each : List (List (Visit Step))) × AreTold (run_basis m journal profile parts) all 1 parts lefts each
    × (visits : List (Visit Step)) × IsExecution all visits × IsMergeOfAll each visits

-- THE LAW of a run: where one session has made each epoch of a history, and what is left of each session is of that
-- history, they have made it so
abbrev pub RunsAsOne : Type 0
RunsAsOne =
    (m : ClusterMap) (journal : ℕ) (profile : Profile) (parts : List Part) (lefts : List LeftFacts) (all : List Step)
    → AreMadeOnce all lefts → Pairs (IsLeftIn (run_basis m journal profile parts) all) 1 parts lefts
    → IsOneRun m journal profile parts lefts all

-- so is what a run has printed of one lawful history
abbrev pub PrintsAsOne : Type 0
PrintsAsOne =
    (m : ClusterMap) (journal : ℕ) (profile : Profile) (parts : List Part) (told : Bool) (before after : List ℕ)
    → IsServedFrom (λ all. ⊤) m journal profile parts told before after
    → (lefts : List LeftFacts) × (all : List Step) × IsLawful m all × (after ≡ before ++ texts_of lefts)
    × IsOneRun m journal profile parts lefts all
