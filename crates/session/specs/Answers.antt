-- What a line answers to a session of a monitor, by what its member and its follower have seen before and after it.
use Rattle.std.specs.Prelude.{◌≡◌, ◌⊎◌, ℕ, ◌+◌, ◌-◌, ◌^◌, ◌<◌, ◌≤◌, ℤ, Bool, true, List, length, min, slice_get, if◌then◌else◌, [], ◌∷◌, ◌++◌, codes, Option, Some, None, Result, Ok, Err, MatchResult, IfErr, OnOk, IsSome}
use Rattle.maptypes.specs.declared.change.ChangeParts.{ChangeParts}
use Rattle.maptypes.specs.declared.pg.Pg.{Pg}
use Rattle.maptypes.specs.Incrementals.{Step}
use Rattle.refusal.specs.declared.refused.Refusal.{Refusal}
use Rattle.refusal.specs.declared.refused.Refusal.TheVariants.{BadCommand, SeatSpent, AwaitSpent, Memory as OutOfMemory}
use Rattle.refusal.specs.Outcomes.{Makes}
use Rattle.osdmap.specs.Maps.{ClusterMap, pool_at}
use Rattle.osdmap.specs.Changes.{after, change_fault}
use Rattle.osdmap.specs.Placement.{group_fault}
use Rattle.upmap_cleanup.specs.Kept.{remnant_at}
use Rattle.epochlog.specs.Epochs.{OneBegins}
use Rattle.mapparts.specs.declared.profile.Profile.{Profile}
use Rattle.mapparts.specs.Profiles.{is_stock}
use Rattle.mapjson.specs.ChangeTexts.{change_text_fault, StatesChange, unbased_text_fault, StatesUnbased}
use Rattle.mapjson.specs.LoadTexts.{load_text_fault, StatesLoads}
use Rattle.balancer.specs.Shares.{Aim, aim_of}
use Rattle.state.specs.declared.state.Commit.{Commit}
use Rattle.state.specs.declared.balancing.Balance.{Balance}
use Rattle.monitor.specs.declared.question.Answer.{Answer}
use Rattle.monitor.specs.declared.question.Answer.TheVariants as answer
use Rattle.monitor.specs.declared.question.Question.{Question}
use Rattle.monitor.specs.declared.question.Question.TheVariants.{Up, Epoch, Dump}
use Rattle.monitor.specs.Histories.{GoesOn, Looks, AnswersCommit, AnswersApply}
use Rattle.monitor.specs.Questions.{Finds}
use Rattle.monitor.specs.Making.{HasMade, planned_epoch}
use Rattle.monitor.specs.Balances.{AnswersBalance}
use Rattle.session.specs.declared.command.Task.{Task}
use Rattle.session.specs.declared.command.Task.TheVariants as task
use Rattle.session.specs.declared.pool_sets.PoolSets.{PoolSets}
use Rattle.session.specs.declared.reply.Speaker.TheVariants as speaker
use Rattle.session.specs.Commands.{Beside, Command, ask, ups, change, apply, wait, balance, follower, fups, command_by}
use Rattle.session.specs.Transcripts.{Manner}
use Rattle.session.specs.PoolSets.{FindsSets, FindsSetsThere, RunsForSets}
use Rattle.session.specs.Replies.{answer_text, sets_text, changed_text, planned_text}
use Rattle.session.specs.Texts.{epoch_text, ok_text, moved_text, refusal_text, line_of}

-- what the answers of a session go by: the first map, how many changes the journal has room for, how often the seat of
-- its member may draw at the lock, the profile by which texts are read, and whether its member has none beside it
pub record Basis : Type 0 where
  pub first : ClusterMap
  pub most : ℕ
  pub draws : ℕ
  pub profile : Profile
  pub alone : Bool

-- what a session's follower has: its history, what its pass has seen, of which that is a beginning, and how many runs
-- of rules it has taken
pub record Track : Type 0 where
  pub history : List Step
  pub seen : List Step
  pub runs : ℕ

-- what a session's member has: its history, how often its seat has drawn, and of each epoch of the journal whether the
-- member has made it
pub record Account : Type 0 where
  pub history : List Step
  pub draws : ℕ
  pub own : List Bool

-- what a session has seen: by its member; and by its follower, which has nothing where there is none yet
pub record Sight : Type 0 where
  pub member : Account
  pub follower : Track

-- the line of what is answered so, or of its refusal
abbrev pub IsLineOf : {X : Type 0} → (Result X Refusal → Type 0) → (X → List ℕ) → List ℕ → Type 0
IsLineOf {X} answers text line = (r : Result X Refusal) × answers r × (line ≡ line_of text r)

-- ---- the member

-- an answer takes a draw of the member's seat at most, and is 31 only where the seat had made its draws
pub record DrawsFor {X : Type 0} (most before now : ℕ) (r : Result X Refusal) : Type 0 where
  pub spent : IfErr r (λ e. e ≡ SeatSpent → before ≡ most)
  pub no_less : before ≤ now
  pub no_more : now ≤ before + 1

-- what is answered to a member by its history before and then, in a turn at the lock; an answer may tell an epoch that
-- the member has made, as `made` says, and it has made no other
abbrev pub InTurn : {X : Type 0} → Basis → Account → Account → (List Step → List Step → Result X Refusal → Type 0)
    → (X → Option ℕ) → Result X Refusal → Type 0
InTurn basis before now answers made r =
    answers before.history now.history r × DrawsFor basis.draws before.draws now.draws r
    × HasMade basis.first.epoch before.own now.own made r

-- an answer that tells no epoch of the member's own
abbrev pub none_made : {X : Type 0} → X → Option ℕ
none_made x = None

-- what a question answers
abbrev pub Asks : Basis → Question → Account → Account → Result Answer Refusal → Type 0
Asks basis question before now r =
    InTurn basis before now (λ b n. Looks basis.first b n (λ m. Finds m question)) none_made r

-- what a question about the sets of a pool answers
abbrev pub AsksSets : Basis → ℕ → Account → Account → Result PoolSets Refusal → Type 0
AsksSets basis pool before now r =
    InTurn basis before now (λ b n. Looks basis.first b n (λ m. FindsSets m pool)) none_made r

-- what a change answers, the new epoch and the evaluations: its text is read, where `Memory` may come in place of any
-- answer; then what it states is committed; a text that is refused changes nothing, and nothing is looked at
abbrev pub Changes : Basis → List ℕ → Account → Account → Result Commit Refusal → Type 0
Changes basis text before now r =
    (read : Result (ℕ × ChangeParts) Refusal)
    × Makes read (change_text_fault basis.profile text) (StatesChange basis.profile text)
    × MatchResult read
    (λ (base, parts). InTurn basis before now (λ b n. AnswersCommit basis.first basis.most b n base parts)
    (λ ok. Some ok.epoch) r)
    (λ e. (r ≡ Err e) × (now ≡ before))

-- what a change without a base answers, the new epoch and the evaluations: its text is read, where `Memory` may come in
-- place of any answer; then what it states is committed to the map that is found; a text that is refused changes
-- nothing, and nothing is looked at
abbrev pub Applies : Basis → List ℕ → Account → Account → Result Commit Refusal → Type 0
Applies basis text before now r =
    (read : Result ChangeParts Refusal)
    × Makes read (unbased_text_fault basis.profile text) (StatesUnbased basis.profile text)
    × MatchResult read
    (λ parts. InTurn basis before now (λ b n. AnswersApply basis.first basis.most b n parts) (λ ok. Some ok.epoch) r)
    (λ e. (r ≡ Err e) × (now ≡ before))

-- why a text is refused as what OSDs carry: a script of plain maps knows none
abbrev pub beside_fault : Profile → ℕ → List ℕ → Option Refusal
beside_fault profile most text = if is_stock profile then load_text_fault most text else Some BadCommand

-- what a plan for this aim answers, the epoch then and the moves
abbrev pub PlansFor : Basis → ℕ → Aim → ℕ → Account → Account → Result Balance Refusal → Type 0
PlansFor basis pool aim limit before now r =
    InTurn basis before now (λ b n. AnswersBalance basis.first basis.most b n pool aim limit) planned_epoch r

-- what a plan answers that counts what OSDs carry, the epoch then and the moves: the text is read, where `Memory` may
-- come in place of any answer; then the plan is committed; a text that is refused changes nothing, and nothing is
-- looked at
abbrev pub PlansBeside : Basis → ℕ → ℕ → Beside → Account → Account → Result Balance Refusal → Type 0
PlansBeside basis pool limit beside before now r =
    (read : Result (List ℤ) Refusal)
    × Makes read (beside_fault basis.profile (length basis.first.presences) beside.loads)
    (StatesLoads (length basis.first.presences) beside.loads)
    × MatchResult read (λ carried. PlansFor basis pool (aim_of carried beside.apart) limit before now r)
    (λ e. (r ≡ Err e) × (now ≡ before))

-- what a plan answers: of a pool by itself, or with what is to be counted beside it
abbrev pub Plans : Basis → ℕ → ℕ → Option Beside → Account → Account → Result Balance Refusal → Type 0
Plans basis pool limit None before now r = PlansFor basis pool (aim_of [] 256) limit before now r
Plans basis pool limit (Some beside) before now r = PlansBeside basis pool limit beside before now r

-- what waiting for an epoch answers: one that is at least that, at the history that its member has seen then, which
-- goes on from the one before; or that the looks are spent, at a history whose epoch is below it; or that its seat has
-- made its draws
abbrev pub Reaches : ClusterMap → ℕ → List Step → List Step → Result ℕ Refusal → Type 0
Reaches first wanted before now r =
    GoesOn first before now
    × MatchResult r (λ epoch. (epoch ≡ (after first now).epoch) × (wanted ≤ epoch))
    (λ e. (e ≡ SeatSpent) ⊎ ((e ≡ AwaitSpent) × ((after first now).epoch < wanted)))

-- what an `await` line answers in the turn of its member, which makes no epoch
abbrev pub Awaits : Basis → ℕ → Account → Account → Result ℕ Refusal → Type 0
Awaits basis wanted before now r = InTurn basis before now (Reaches basis.first wanted) none_made r

-- ---- the follower

-- a follower has gone on as far as it can: to all that its pass has seen, or its map refuses the next change of that
abbrev pub HasCaughtUp : ClusterMap → Track → Type 0
HasCaughtUp first t =
    (t.history ≡ t.seen)
    ⊎ ((step : Step) × (slice_get t.seen (length t.history) ≡ Some step)
    × IsSome (change_fault (after first t.history) step.change))

-- what a question finds in a follower's map, where `Memory` may come in place of any answer
abbrev pub FindsThere : ClusterMap → Question → Result Answer Refusal → Type 0
FindsThere m question r = (r ≡ Err OutOfMemory) ⊎ Finds m question r

-- what a Ceph monitor would leave of a group's exceptions, where `Memory` may come in place of any answer
abbrev pub FindsKept : ClusterMap → Pg → Result Answer Refusal → Type 0
FindsKept m pg (Ok (answer.Kept epoch of left)) =
    (of ≡ pg) × (group_fault m pg ≡ None) × (epoch ≡ m.epoch) × (Some left ≡ remnant_at m pg)
FindsKept m pg (Ok other) = ⊥
FindsKept m pg (Err e) = (e ≡ OutOfMemory) ⊎ (group_fault m pg ≡ Some e)

-- a follower tells what its map says after the same history as before, and has run no rule for it
abbrev pub TellsIdle : Track → Track → Type 0
TellsIdle before now = (now.history ≡ before.history) × (now.runs ≡ before.runs)

-- the same, but that it has run one rule for an answer
abbrev pub TellsByRun : Track → Track → Result Answer Refusal → Type 0
TellsByRun before now r = (now.history ≡ before.history)
    × MatchResult r (λ _. now.runs ≡ min (before.runs + 1) (2 ^ 64 - 1)) (λ _. now.runs ≡ before.runs)

-- what a follower's task answers: the epoch of its history, which goes on from the one before as far as it can; or what
-- its map says, after the same history as before; and how many rules it runs for that
abbrev pub Tells : ClusterMap → Track → Track → Task → Result Answer Refusal → Type 0
Tells first before now task.CatchUp r =
    GoesOn first before.history now.history × OnOk r (HasCaughtUp first now)
    × FindsThere (after first now.history) Epoch r × (now.runs ≡ before.runs)
Tells first before now (task.Up pg) r = TellsByRun before now r × FindsThere (after first now.history) (Up pg) r
Tells first before now task.Dump r = TellsIdle before now × FindsThere (after first now.history) Dump r
Tells first before now (task.Kept pg) r = TellsByRun before now r × FindsKept (after first now.history) pg r

-- what a follower answers of the sets of a pool: what its map says, after the same history as before, and one run for
-- each group; or for some of them where memory runs out
abbrev pub TellsSets : ClusterMap → Track → Track → ℕ → Result PoolSets Refusal → Type 0
TellsSets first before now pool r =
    (now.history ≡ before.history)
    × RunsForSets (pool_at (after first now.history).pools pool) before.runs now.runs r
    × FindsSetsThere (after first now.history) pool r

-- ---- lines

-- what a command answers to a session, and what it has seen then: of the member's history and the follower's one begins
-- the other where the follower has answered; none is a line that is no command
abbrev pub Does : Basis → Sight → Option Command → List ℕ → Sight → Type 0
Does basis before None line now = (line ≡ refusal_text BadCommand) × (now ≡ before)
Does basis before (Some (ask question)) line now =
    IsLineOf (Asks basis question before.member now.member) (answer_text speaker.Monitor) line
    × (now.follower ≡ before.follower)
Does basis before (Some (ups pool)) line now =
    IsLineOf (AsksSets basis pool before.member now.member) (sets_text speaker.Monitor) line
    × (now.follower ≡ before.follower)
Does basis before (Some (change text)) line now =
    IsLineOf (Changes basis text before.member now.member) changed_text line × (now.follower ≡ before.follower)
Does basis before (Some (apply text)) line now =
    IsLineOf (Applies basis text before.member now.member) changed_text line × (now.follower ≡ before.follower)
Does basis before (Some (wait epoch)) line now =
    IsLineOf (Awaits basis epoch before.member now.member) (epoch_text (codes "epoch")) line
    × (now.follower ≡ before.follower)
Does basis before (Some (balance pool limit beside)) line now =
    IsLineOf (Plans basis pool limit beside before.member now.member) planned_text line
    × (now.follower ≡ before.follower)
Does basis before (Some (follower t)) line now =
    IsLineOf (Tells basis.first before.follower now.follower t) (answer_text speaker.Follower) line
    × (now.member ≡ before.member) × OneBegins now.follower.history now.member.history
Does basis before (Some (fups pool)) line now =
    IsLineOf (TellsSets basis.first before.follower now.follower pool) (sets_text speaker.Follower) line
    × (now.member ≡ before.member) × OneBegins now.follower.history now.member.history

-- a history stays, or is longer by one incremental, whose epoch an answer tells
abbrev pub AddsTold : List Step → List ℕ → List Step → Type 0
AddsTold before answer now =
    (now ≡ before)
    ⊎ ((epoch : ℕ) × (change : ChangeParts) × (count : ℕ)
    × (now ≡ before ++ record { epoch = epoch; change = change } ∷ [])
    × ((answer ≡ ok_text epoch count) ⊎ (answer ≡ moved_text count epoch)))

-- a member that has none beside it sees nothing but what its own answers tell
abbrev pub AddsOwn : Bool → List Step → List ℕ → List Step → Type 0
AddsOwn alone before answer now = alone ≡ true → AddsTold before answer now

-- what a line answers, and what the session has seen then
abbrev pub IsAnswered : Basis → Sight → List ℕ → List ℕ → Sight → Type 0
IsAnswered basis before line answer now =
    Does basis before (command_by basis.profile line) answer now
    × AddsOwn basis.alone before.member.history answer now.member.history

-- how a session goes behind a gate
abbrev pub session_by : Basis → (ℕ → Bool → Type 0) → Manner Sight
session_by basis lets = record { answers = IsAnswered basis; lets = lets }
