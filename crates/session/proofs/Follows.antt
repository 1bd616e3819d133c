-- Whatever a line is, the session's follower loses nothing of its history.
use Rattle.std.proofs.Common.{◌≡◌, ◌∙◌, ℕ, List, [], append-nil, Option, Some, None, Result, ap, sym, subst}
use Rattle.refusal.specs.declared.refused.Refusal.{Refusal}
use Rattle.maptypes.specs.Incrementals.{Step}
use Rattle.osdmap.specs.Maps.{ClusterMap}
use Rattle.epochlog.specs.Epochs.{Begins}
use Rattle.monitor.specs.declared.question.Answer.{Answer}
use Rattle.session.specs.declared.command.Task.{Task}
use Rattle.session.specs.declared.command.Task.TheVariants as task
use Rattle.session.specs.Commands.{Command, ask, ups, change, apply, wait, balance, follower, fups}
use Rattle.session.specs.Answers.{Basis, Track, Sight, Tells, Does}

-- what stays as it is loses nothing
same_begins : (before now : List Step) → now ≡ before → Begins before now
same_begins before now e = ([], append-nil before ∙ sym e)

-- by a line of its own the follower loses nothing
told_task : (first : ClusterMap) (before now : Track) (t : Task) (r : Result Answer Refusal) → Tells first before now t r
    → Begins before.history now.history
told_task first before now task.CatchUp r tells = tells.0.begins
told_task first before now (task.Up pg) r tells = same_begins before.history now.history tells.0.0
told_task first before now task.Dump r tells = same_begins before.history now.history tells.0.0
told_task first before now (task.Kept pg) r tells = same_begins before.history now.history tells.0.0

-- where it is left as it was it loses nothing
pub kept_track : (before now : Sight) → now.follower ≡ before.follower → Begins before.follower.history now.follower.history
kept_track before now e = same_begins before.follower.history now.follower.history (ap (λ (t : Track). t.history) e)

-- by whatever command the session's follower loses nothing
pub follower_begins : (basis : Basis) (before now : Sight) (c : Option Command) (line : List ℕ) → Does basis before c line now
    → Begins before.follower.history now.follower.history
follower_begins basis before now None line d = kept_track before now (ap (λ (s : Sight). s.follower) d.1)
follower_begins basis before now (Some (ask question)) line d = kept_track before now d.1
follower_begins basis before now (Some (ups pool)) line d = kept_track before now d.1
follower_begins basis before now (Some (change text)) line d = kept_track before now d.1
follower_begins basis before now (Some (apply text)) line d = kept_track before now d.1
follower_begins basis before now (Some (wait epoch)) line d = kept_track before now d.1
follower_begins basis before now (Some (balance pool limit beside)) line d = kept_track before now d.1
follower_begins basis before now (Some (follower t)) line ((r, tells, is), same, meets) = told_task basis.first before.follower now.follower t r tells
follower_begins basis before now (Some (fups pool)) line ((r, tells, is), same, meets) = same_begins before.follower.history now.follower.history tells.0
