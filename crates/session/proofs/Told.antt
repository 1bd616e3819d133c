-- A follower for which there is no memory.
use Rattle.std.proofs.Common.{◌≡◌, ◌∙◌, ℕ, List, [], refl, arith, ap, sym, subst, inl, inr, None, Result, Ok, Err}
use Rattle.refusal.specs.declared.refused.Refusal.TheVariants.{Memory as OutOfMemory}
use Rattle.refusal.specs.declared.refused.Refusal.{Refusal}
use Rattle.maptypes.specs.Incrementals.{Step}
use Rattle.std.specs.Result.{IsErrAnd}
use Rattle.osdmap.specs.Maps.{ClusterMap, pool_at}
use Rattle.osdmap.specs.Changes.{after}
use Rattle.epochlog.specs.Epochs.{OneBegins}
use Rattle.monitor.specs.declared.question.Answer.{Answer}
use Rattle.session.specs.declared.pool_sets.PoolSets.{PoolSets}
use Rattle.session.specs.declared.command.Task.{Task}
use Rattle.session.specs.declared.command.Task.TheVariants.{CatchUp, Up, Dump, Kept}
use Rattle.monitor.specs.Followers.{Followed}
use Rattle.session.specs.PoolSets.{FindsSets, RunsForSets}
use Rattle.session.specs.Answers.{Track, Tells, TellsIdle, TellsSets}
use Rattle.session.specs.Sessions.{track, track_of}
use Rattle.session.proofs.Histories.{goes_on_none}

-- each task tells so
pub no_follower : (first : ClusterMap) (task : Task) → Tells first (track_of None) (track_of None) task (Err OutOfMemory)
no_follower first CatchUp = (goes_on_none first, tt, inl refl, refl)
no_follower first (Up pg) = ((refl, refl), inl refl)
no_follower first Dump = ((refl, refl), inl refl)
no_follower first (Kept pg) = ((refl, refl), inl refl)

-- what is handed on tells so
pub no_follower_told : (first : ClusterMap) (task : Task) (before : Track) (now : Track) (r : Result Answer Refusal) → before ≡ track_of None → now ≡ track_of None
    → IsErrAnd r (λ e. e ≡ OutOfMemory) → Tells first before now task r
no_follower_told first task before now (Ok answer) none still is = absurd is
no_follower_told first task before now (Err e) none still is = rw (none, still, is) (no_follower first task)

-- so it tells the sets of a pool
no_sets : (first : ClusterMap) (pool : ℕ) → TellsSets first (track_of None) (track_of None) pool (Err OutOfMemory)
no_sets first pool = (refl, (0, omega arith, refl), inl refl)

-- so it is where there is no follower yet and memory runs out
pub no_sets_told : (first : ClusterMap) (pool : ℕ) (before : Track) (now : Track) (r : Result PoolSets Refusal) → before ≡ track_of None → now ≡ track_of None
    → IsErrAnd r (λ e. e ≡ OutOfMemory) → TellsSets first before now pool r
no_sets_told first pool before now (Ok sets) none still is = absurd is
no_sets_told first pool before now (Err e) none still is = rw (none, still, is) (no_sets first pool)

-- what a follower's map says of the sets of a pool, and how many rules were run for it, tell so
pub sets_told : (before now : Followed) (pool : ℕ) (r : Result PoolSets Refusal) → now ≡ record before { runs = now.runs }
    → before.map ≡ after before.first before.history → RunsForSets (pool_at before.map.pools pool) before.runs now.runs r
    → FindsSets before.map pool r → TellsSets before.first (track before) (track now) pool r
sets_told before now pool r same map ran finds =
    let history : now.history ≡ before.history = ap (λ (f : Followed). f.history) same in
    let there : before.map ≡ after before.first now.history = map ∙ ap (after before.first) (sym history) in (
      history,
      subst (λ (m : ClusterMap). RunsForSets (pool_at m.pools pool) before.runs now.runs r) there ran,
      inr (subst (λ m. FindsSets m pool r) there finds),
    )

-- a follower that has told nothing since tells so too
pub sets_told_since : (first : ClusterMap) (old before now : Track) (pool : ℕ) (r : Result PoolSets Refusal) → TellsIdle old before
    → TellsSets first before now pool r → TellsSets first old now pool r
sets_told_since first old before now pool r (history, runs) (same, ran, finds) =
    (same ∙ history, subst (λ n. RunsForSets (pool_at (after first now.history).pools pool) n now.runs r) runs ran, finds)

-- where nothing has been followed, that begins all
pub none_begins : (followed history : List Step) → followed ≡ [] → OneBegins followed history
none_begins followed history none = subst (λ f. OneBegins f history) (sym none) (inl (history, refl))
