-- Threads that play sessions.
use Rattle.std.specs.Prelude.{◌≡◌, ℕ, false, List, [], None, IfSome, count_by, slice_index_or}
use Rattle.std.specs.declared.thread.PromisedHandle.{PromisedHandle}
use Rattle.maptypes.specs.Incrementals.{Step}
use Rattle.monitor.specs.Members.{Monitored, IsPassOf, IsMemberOf, IsNewMemberOf}
use Rattle.monitor.specs.Ends.{IsCounted}
use Rattle.monitor.specs.declared.ended.Ended.{Ended}
use Rattle.monitor.specs.declared.member.Member.{Member}
use Rattle.server.specs.declared.part.Part.{Part}
use Rattle.server.specs.declared.left.Left.{Left}
use Rattle.server.specs.declared.left.LeftOf.{LeftOf}
use Rattle.epochlog.specs.Epochs.{Line, Seen, Begins}
use Rattle.session.specs.Answers.{Sight}
use Rattle.session.specs.Sessions.{sight_by, IsFollowerOf}
use Rattle.server.specs.Pairs.{Pairs}
use Rattle.server.specs.declared.left.Asker.{Asker}
use Rattle.server.specs.Serving.{IsLeftBy, followed_left}

-- a thread that was started for a part, by its number
abbrev pub IsStartedFor : {T K : Type 0} → Monitored → ℕ → PromisedHandle T (LeftOf K) → Part → Type 0
IsStartedFor monitor number player part =
    (player.promise.monitor.now ≡ monitor) × (player.promise.number ≡ number) × (player.promise.part.now ≡ part)

-- how many of what is left have made the epoch at this place
abbrev pub made_by : List Left → ℕ → ℕ
made_by lefts at = count_by (λ left. slice_index_or left.member.own.items at false) lefts

-- what it promised
abbrev pub KeepsPromise : {T K : Type 0} → ℕ → PromisedHandle T (LeftOf K) → Left → Type 0
KeepsPromise number player left =
    IsLeftBy player.promise.monitor.now player.promise.number player.promise.part.now left

-- what is left of the sessions of these parts at a monitor, and a pass that has seen nothing
pub record IsLeftAt (monitor : Monitored) (parts : List Part) (lefts : List Left) (pass : Seen) : Type 0 where
  pub left : Pairs (IsLeftBy monitor) 1 parts lefts
  pub pass_is : IsPassOf monitor pass
  pub none : pass.history ≡ []

-- a member is of the row of what its monitor has ended with, which counts what it has seen
pub record IsCountedIn {K : Type 0} (ended : Ended K) (member : Member) : Type 0 where
  pub row : member.pass.row ≡ ended.state.value.pass.row
  pub counted : IsCounted ended member

-- who plays a session at a monitor: its member and its follower are the monitor's
abbrev pub IsAskerOf : Monitored → Asker → Type 0
IsAskerOf monitor asker = IsMemberOf monitor asker.member × IsFollowerOf monitor asker.follower

-- one who has seen nothing, and has no follower
abbrev pub IsNewAskerOf : Monitored → Asker → Type 0
IsNewAskerOf monitor asker = IsNewMemberOf monitor asker.member × (asker.follower ≡ None)

-- what it has seen
abbrev pub sight_of : Asker → Sight
sight_of asker = sight_by asker.member asker.follower

-- what is left of a session, whose follower begins this history
abbrev pub FollowsIn : List Step → Left → Type 0
FollowsIn all left = Begins (followed_left left) all

-- the follower that is left reads this row
abbrev pub ReadsRow : Line → Left → Type 0
ReadsRow row left = IfSome left.follower (λ f. f.row ≡ row)
