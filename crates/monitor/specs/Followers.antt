-- Followers: who reads the row of epochs without the lock.
use Rattle.std.specs.Prelude.{◌≡◌, ◌⊎◌, ℕ, ◌+◌, ◌-◌, ◌^◌, Bool, true, false, None, Some, IsSome, Result, List, length, min, take, slice_get, MatchResult}
use Rattle.maptypes.specs.Incrementals.{Step}
use Rattle.osdmap.specs.Maps.{ClusterMap}
use Rattle.osdmap.specs.Changes.{change_fault, apply, after, IsLawful, epoch_after}
use Rattle.epochlog.specs.Epochs.{Line, Seen, Begins}
use Rattle.monitor.specs.Members.{Monitored}

-- what callers see of a follower: the first map, the row that it reads, its history, which are the incrementals that it
-- has applied, what its pass has seen, which may be more, its map, and how many runs of rules it has taken
pub record Followed : Type 0 where
  pub first : ClusterMap
  pub row : Line
  pub history : List Step
  pub seen : List Step
  pub map : ClusterMap
  pub runs : ℕ

-- the follower reads the row of this monitor, from the monitor's first map
pub record Follows (monitor : Monitored) (follower : Followed) : Type 0 where
  pub first : follower.first ≡ monitor.first
  pub row : follower.row ≡ monitor.row

-- of what a pass has seen, what leads from the first map to the present one
abbrev pub applied : ClusterMap → ClusterMap → List Step → List Step
applied first now seen = take (now.epoch - first.epoch) seen

-- a follower by its first map, its pass, which may have seen more than it has applied, its present map, and its runs
abbrev pub followed : ClusterMap → Seen → ClusterMap → ℕ → Followed
followed first pass now runs =
    record {
      first = first;
      row = pass.row;
      history = applied first now pass.history;
      seen = pass.history;
      map = now;
      runs = runs;
    }

-- the fact of every follower: its history is lawful from the first map, after whose epoch its row begins, and begins
-- what its pass has seen; and its map is the first map with the history applied in the order of epochs, without gaps
pub record IsFollowed (f : Followed) : Type 0 where
  pub begins : f.row.first ≡ f.first.epoch
  pub front : Begins f.history f.seen
  pub lawful : IsLawful f.first f.history
  pub map : f.map ≡ after f.first f.history
  pub epoch : f.map.epoch ≡ epoch_after f.first f.history

-- a follower now and before: it has lost neither what it had applied nor what its pass had seen, and has run no rule
pub record GoesOnFrom (before now : Followed) : Type 0 where
  pub first : now.first ≡ before.first
  pub row : now.row ≡ before.row
  pub begins : Begins before.history now.history
  pub seen : Begins before.seen now.seen
  pub runs : now.runs ≡ before.runs

-- an incremental is applied to a map that does not refuse its change; or the map stays, as it refuses the change
abbrev pub Steps : ClusterMap → ClusterMap → Step → Bool → Type 0
Steps before now step true = (change_fault before step.change ≡ None) × (now ≡ apply before step)
Steps before now step false = IsSome (change_fault before step.change) × (now ≡ before)

-- a follower has applied all that its pass has seen, or its map refuses the next change of that
abbrev pub IsCaughtUp : Followed → Type 0
IsCaughtUp f =
    (f.history ≡ f.seen)
    ⊎ ((step : Step)
    × (slice_get f.seen (length f.history) ≡ Some step)
    × IsSome (change_fault f.map step.change))

-- a follower applies one incremental more; or it stops, as it has caught up
abbrev pub Advances : Followed → Followed → Bool → Type 0
Advances before now true = length now.history ≡ length before.history + 1
Advances before now false = IsCaughtUp now

-- a follower has run one rule for an answer, and none where it refuses; nothing else of it has changed. The count stays
-- at the greatest number.
abbrev pub RunsForOne : {X E : Type 0} → Followed → Followed → Result X E → Type 0
RunsForOne before now r =
    MatchResult r (λ _. now ≡ record before { runs = min (before.runs + 1) (2 ^ 64 - 1) }) (λ _. now ≡ before)
