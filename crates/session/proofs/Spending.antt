-- How often the seat of a session's member draws.
use Rattle.std.proofs.Common.{◌≡◌, ◌∙◌, ◌+◌, ◌<◌, ◌≤◌, ℕ, suc, Bool, List, [], ◌∷◌, length, ap, sym, arith, Option, Some, None, Result, Ok, Err}
use Rattle.maptypes.specs.declared.change.ChangeParts.{ChangeParts}
use Rattle.refusal.specs.declared.refused.Refusal.{Refusal}
use Rattle.state.specs.declared.state.Commit.{Commit}
use Rattle.state.specs.declared.balancing.Balance.{Balance}
use Rattle.session.specs.Commands.{Beside, Command, ask, ups, change, apply, wait, balance, follower, fups, command_by}
use Rattle.session.specs.Transcripts.{IsTranscript, TakesLine}
use Rattle.session.specs.Answers.{Basis, Account, Sight, Changes, Applies, Plans, Does, session_by}

-- where nothing has happened, nothing is drawn
none_drawn : (before now : Account) → now ≡ before → now.draws ≤ before.draws + 1
none_drawn before now same = omega (arith, ap (λ (a : Account). a.draws) same)

-- a change draws once at most
change_draws : (basis : Basis) (text : List ℕ) (before now : Account) (r : Result Commit Refusal) → Changes basis text before now r
    → now.draws ≤ before.draws + 1
change_draws basis text before now r (Ok read, makes, (answers, draws, own)) = draws.no_more
change_draws basis text before now r (Err e, makes, (is, same)) = none_drawn before now same

-- so does one without a base
apply_draws : (basis : Basis) (text : List ℕ) (before now : Account) (r : Result Commit Refusal) → Applies basis text before now r
    → now.draws ≤ before.draws + 1
apply_draws basis text before now r (Ok read, makes, (answers, draws, own)) = draws.no_more
apply_draws basis text before now r (Err e, makes, (is, same)) = none_drawn before now same

-- so does a plan
plan_draws : (basis : Basis) (pool limit : ℕ) (beside : Option Beside) (before now : Account) (r : Result Balance Refusal)
    → Plans basis pool limit beside before now r → now.draws ≤ before.draws + 1
plan_draws basis pool limit None before now r (answers, draws, own) = draws.no_more
plan_draws basis pool limit (Some beside) before now r (Ok read, makes, (answers, draws, own)) = draws.no_more
plan_draws basis pool limit (Some beside) before now r (Err e, makes, (is, same)) = none_drawn before now same

-- and each command
command_draws : (basis : Basis) (before now : Sight) (command : Option Command) (line : List ℕ) → Does basis before command line now
    → now.member.draws ≤ before.member.draws + 1
command_draws basis before now None line (is, same) = omega (arith, ap (λ (s : Sight). s.member.draws) same)
command_draws basis before now (Some (ask question)) line ((r, (answers, draws, own), is), same) = draws.no_more
command_draws basis before now (Some (ups pool)) line ((r, (answers, draws, own), is), same) = draws.no_more
command_draws basis before now (Some (change text)) line ((r, answers, is), same) = change_draws basis text before.member now.member r answers
command_draws basis before now (Some (apply text)) line ((r, answers, is), same) = apply_draws basis text before.member now.member r answers
command_draws basis before now (Some (wait epoch)) line ((r, (answers, draws, own), is), same) = draws.no_more
command_draws basis before now (Some (balance pool limit beside)) line ((r, answers, is), same) =
    plan_draws basis pool limit beside before.member now.member r answers
command_draws basis before now (Some (follower t)) line (told, same, begins) = none_drawn before.member now.member same
command_draws basis before now (Some (fups pool)) line (told, same, begins) = none_drawn before.member now.member same

module _ (basis : Basis) (lets : ℕ → Bool → Type 0) where
  -- so does a line
  line_draws : (number : ℕ) (before : Sight) (line answer : List ℕ) (left : Sight) → TakesLine (session_by basis lets) number before line answer left
      → left.member.draws ≤ before.member.draws + 1
  line_draws number before [] answer left (none, same) = omega (arith, ap (λ (s : Sight). s.member.draws) same)
  line_draws number before (c ∷ cs) answer left (passed, answered) =
      command_draws basis before left (command_by basis.profile (c ∷ cs)) answer answered.0

  -- a seat draws at most as often as there are lines: so before each line of a script that has fewer lines than the seat has draws,
  -- draws are left, and the line does not answer 31
  pub few_draws : (number : ℕ) (first : Sight) (lines : List (List ℕ)) (bytes : List ℕ) (last : Sight)
      → IsTranscript (session_by basis lets) number first lines bytes last → last.member.draws ≤ first.member.draws + length lines
  unfolding IsTranscript
  few_draws number first [] bytes last (none, same) = omega (arith, ap (λ (s : Sight). s.member.draws) same)
  few_draws number first (line ∷ lines) bytes last (answer, rest, left, taken, then, out) =
      let once = line_draws number first line answer left taken in
      let others = few_draws (suc number) left lines rest last then in
      omega (arith, once, others)
