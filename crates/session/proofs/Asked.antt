-- What questions answer by a state that is shared, and where it is not; and what the answers of commands tell.
use Rattle.std.proofs.Common.{◌≡◌, ◌≢◌, ◌+◌, ◌<◌, ◌≤◌, IfErr, ℕ, Bool, true, List, [], ◌∷◌, length, refl, ap, inl, inr, None, Some, Option, Result, Ok, Err, arith}
use Rattle.refusal.specs.declared.refused.Refusal.{Refusal}
use Rattle.refusal.specs.declared.refused.Refusal.TheVariants.{SeatSpent}
use Rattle.maptypes.specs.declared.change.ChangeParts.{ChangeParts}
use Rattle.maptypes.specs.Incrementals.{Step}
use Rattle.osdmap.specs.Maps.{ClusterMap}
use Rattle.osdmap.specs.Changes.{IsLawful, after}
use Rattle.epochlog.specs.Epochs.{Seen}
use Rattle.balancer.specs.Shares.{Aim}
use Rattle.balancer.specs.Plans.{plan_change}
use Rattle.state.specs.declared.state.Commit.{Commit}
use Rattle.state.specs.declared.balancing.Balance.{Balance}
use Rattle.monitor.specs.declared.question.Answer.{Answer}
use Rattle.monitor.specs.declared.question.Question.{Question}
use Rattle.monitor.specs.Histories.{GoesOn, AddsChange}
use Rattle.monitor.specs.Questions.{Finds}
use Rattle.monitor.specs.Balances.{AddsPlan}
use Rattle.monitor.specs.Making.{HasMade}
use Rattle.monitor.specs.Followers.{Followed}
use Rattle.monitor.specs.declared.member.Member.{Member}
use Rattle.monitor.specs.declared.shared.Shared.{Shared}
use Rattle.monitor.specs.Members.{Monitored, TakesTurn, draws_of, draws_made}
use Rattle.session.specs.declared.reply.Speaker.TheVariants.{Monitor}
use Rattle.session.specs.Texts.{refusal_text, line_of}
use Rattle.session.specs.Replies.{answer_text, changed_text, planned_text}
use Rattle.session.specs.Commands.{ask, command_in, question_in, sets_in, task_in}
use Rattle.session.specs.Transcripts.{TakesLine}
use Rattle.session.specs.Answers.{Basis, Account, Asks, AsksSets, AddsOwn, DrawsFor, none_made, IsLineOf, Sight, IsAnswered, session_by}
use Rattle.session.specs.Sessions.{sight_by, sight_in}
use Rattle.session.specs.declared.pool_sets.PoolSets.{PoolSets}
use Rattle.session.specs.PoolSets.{FindsSets}
use Rattle.session.proofs.Histories.{goes_on_same}
use Rattle.session.proofs.PoolSets.{sets_unspent}
use Rattle.session.proofs.Replies.{takes_line}

-- an answer that is not 31
never_spent : {X : Type 0} (P : Type 0) (r : Result X Refusal) → IfErr r (λ e. e ≢ SeatSpent) → IfErr r (λ e. e ≡ SeatSpent → P)
never_spent P (Ok x) unspent = tt
never_spent P (Err e) unspent = λ is. absurd (unspent is)

-- an answer that tells no epoch of the member's own
none_noted : {X : Type 0} (first : ℕ) (before now : List Bool) (r : Result X Refusal) → now ≡ before → HasMade first before now none_made r
none_noted first before now (Ok x) same = same
none_noted first before now (Err e) same = same

-- what is found in the map after a history to which its member has come, by one draw or none
pub asks_there : (basis : Basis) (before now : Account) (question : Question) (r : Result Answer Refusal) → GoesOn basis.first before.history now.history
    → Finds (after basis.first now.history) question r → IfErr r (λ e. e ≢ SeatSpent) → before.draws ≤ now.draws → now.draws ≤ before.draws + 1
    → now.own ≡ before.own → IsLineOf (Asks basis question before now) (answer_text Monitor) (line_of (answer_text Monitor) r)
asks_there basis before now question r on finds unspent no_less no_more own =
    let draws : DrawsFor basis.draws before.draws now.draws r = record { spent = never_spent _ r unspent; no_less = no_less; no_more = no_more } in
    (r, ((on, inr finds), draws, none_noted basis.first.epoch before.own now.own r own), refl)

-- what is found in the map after a history that its member shares already
pub asks_shared : (basis : Basis) (account : Account) (question : Question) (r : Result Answer Refusal) → IsLawful basis.first account.history
    → Finds (after basis.first account.history) question r → IfErr r (λ e. e ≢ SeatSpent)
    → IsLineOf (Asks basis question account account) (answer_text Monitor) (line_of (answer_text Monitor) r)
asks_shared basis account question r lawful finds unspent =
    asks_there basis account account question r (goes_on_same basis.first account.history lawful) finds unspent (omega arith) (omega arith) refl

-- the seat has made its draws
pub asks_refused : (basis : Basis) (before now : Account) (question : Question) (refusal : Refusal) → GoesOn basis.first before.history now.history
    → refusal ≡ SeatSpent → before.draws ≡ basis.draws → now.draws ≡ before.draws → now.own ≡ before.own
    → IsLineOf (Asks basis question before now) (answer_text Monitor) (refusal_text refusal)
asks_refused basis before now question refusal on is spent same own =
    rw is (Err SeatSpent, ((on, inl refl), record { spent = λ e. spent; no_less = omega (arith, same); no_more = omega (arith, same) }, own), refl)

-- what is found of the sets of a pool, in the map after a history to which its member has come, by one draw or none
pub sets_there : (basis : Basis) (before now : Account) (pool : ℕ) (r : Result PoolSets Refusal) → GoesOn basis.first before.history now.history
    → FindsSets (after basis.first now.history) pool r → before.draws ≤ now.draws → now.draws ≤ before.draws + 1 → now.own ≡ before.own
    → AsksSets basis pool before now r
sets_there basis before now pool r on finds no_less no_more own =
    let unspent = sets_unspent (after basis.first now.history) pool r finds in
    let draws : DrawsFor basis.draws before.draws now.draws r = record { spent = never_spent _ r unspent; no_less = no_less; no_more = no_more } in
    ((on, inr finds), draws, none_noted basis.first.epoch before.own now.own r own)

-- the same where the seat has made its draws
pub sets_refused : (basis : Basis) (before now : Account) (pool : ℕ) (r : Result PoolSets Refusal) (refusal : Refusal) → r ≡ Err refusal
    → GoesOn basis.first before.history now.history → refusal ≡ SeatSpent → before.draws ≡ basis.draws → now.draws ≡ before.draws → now.own ≡ before.own
    → AsksSets basis pool before now r
sets_refused basis before now pool r refusal is on seat spent same own =
    rw (is, seat) ((on, inl refl), record { spent = λ e. spent; no_less = omega (arith, same); no_more = omega (arith, same) }, own)

-- the line of a question is not empty
pub some_line : (line : List ℕ) (question : Question) → command_in line ≡ Some (ask question) → 0 < length line
unfolding command_in question_in sets_in task_in
some_line [] question e = absurd (none_some e)
  where
    none_some : None ≡ Some (ask question) → ⊥
    none_some f = cc
some_line (c ∷ cs) question e = omega arith

-- a question is a command
pub asks_line : (line : List ℕ) (question : Question) → question_in line ≡ Some question → command_in line ≡ Some (ask question)
unfolding command_in
asks_line line question is = rw (command_in, is) refl

-- a line that asks a question is answered so
pub answers_question : (basis : Basis) (before now : Sight) (line : List ℕ) (question : Question) (answer : List ℕ)
    → command_in line ≡ Some (ask question) → IsLineOf (Asks basis question before.member now.member) (answer_text Monitor) answer
    → now.follower ≡ before.follower → AddsOwn basis.alone before.member.history answer now.member.history → IsAnswered basis before line answer now
answers_question basis before now line question answer is asked same own = (rw is (asked, same), own)

-- a line that asks a question is taken as one, where each line is let through
pub takes_question : (basis : Basis) (lets : ℕ → Bool → Type 0) (number : ℕ) (before now : Sight) (line : List ℕ) (question : Question)
    (answer : List ℕ) → ((n : ℕ) → lets n true) → command_in line ≡ Some (ask question) → IsAnswered basis before line answer now
    → TakesLine (session_by basis lets) number before line answer now
takes_question basis lets number before now line question answer passes is answered =
    takes_line (session_by basis lets) number before now line answer (some_line line question is) (passes number) answered

-- what is seen in a hold of the lock is seen behind it
pub same_sight : {K : Type 0} (shared : Shared K) (one other : Member) (follower same : Option Followed) → one.pass ≡ other.pass
    → one.own ≡ other.own → draws_made one ≡ shared.guard.turn.place.draws → follower ≡ same
    → sight_by one follower ≡ sight_in shared other same
same_sight shared one other follower same passed made drawn followed = rw (passed, made, drawn, followed) refl

-- a turn of a member is one draw at most
pub turn_draws : {X : Type 0} (monitor : Monitored) (before after : Member) (r : Result X Refusal) → TakesTurn monitor before after r
    → DrawsFor (draws_of monitor) (draws_made before) (draws_made after) r
turn_draws monitor before after r turn = elim turn.once [
  | inl spent ↦
      let same = ap draws_made (turn.refused spent).1 in
      record { spent = turn.spent; no_less = omega (arith, same); no_more = omega (arith, same) }
  | inr once ↦ record { spent = turn.spent; no_less = omega (arith, once); no_more = omega (arith, once) }
]

-- a member that is alone and has seen no more has its own
pub own_same : (alone : Bool) (before now : Seen) (answer : List ℕ) → (alone ≡ true → now ≡ before)
    → AddsOwn alone before.history answer now.history
own_same alone before now answer same is = inl (ap (λ (pass : Seen). pass.history) (same is))

-- the line of a change that was accepted tells its epoch
pub own_change : (alone : Bool) (before now : List Step) (change : ChangeParts) (r : Result Commit Refusal)
    → (alone ≡ true → AddsChange before now change r) → AddsOwn alone before (line_of changed_text r) now
own_change alone before now change (Ok ok) adds is = inr (ok.epoch, change, ok.evals, adds is, inl refl)
own_change alone before now change (Err e) adds is = inl (adds is)

-- the line of a plan that was accepted tells its epoch
pub own_plan : (first : ClusterMap) (alone : Bool) (before now : List Step) (pool : ℕ) (cs : Aim) (limit : ℕ) (r : Result Balance Refusal)
    → (alone ≡ true → AddsPlan first before now pool cs limit r)
    → AddsOwn alone before (line_of planned_text r) now
own_plan first alone before now pool cs limit (Ok ok) adds is = elim (adds is) [
  | inl none ↦ inl none.1
  | inr more ↦ inr (ok.epoch, plan_change (after first before) pool cs limit, ok.moves, more.1, inr refl)
]
own_plan first alone before now pool cs limit (Err e) adds is = inl (adds is)
