-- What callers see of a monitor, who its members are, and what a member that holds its lock knows.
use Rattle.std.specs.Prelude.{◌≡◌, ◌⊎◌, ℕ, ◌+◌, Bool, true, false, List, [], length, replicate, IsSomeAnd, option_and_then, option_map, unwrap_or, Result, Err, IfErr, OnOk, IfOk}
use Rattle.std.specs.Option.{option_map_or}
use Rattle.refusal.specs.declared.refused.Refusal.{Refusal}
use Rattle.refusal.specs.declared.refused.Refusal.TheVariants.{SeatSpent}
use Rattle.ticketlock.specs.declared.table.Words.{Words}
use Rattle.ticketlock.specs.declared.read_guard.ReadGuard.{ReadGuard}
use Rattle.ticketlock.specs.declared.write_guard.WriteGuard.{WriteGuard}
use Rattle.tip.specs.declared.seen.Seen.{Seen as SeenCount}
use Rattle.ticketlock.specs.Standing.{IsAt}
use Rattle.ticketlock.specs.Callers.{IsNewAt}
use Rattle.ticketlock.specs.Guards.{first_of_read, first_of_write}
use Rattle.maptypes.specs.Incrementals.{Step}
use Rattle.osdmap.specs.Maps.{ClusterMap}
use Rattle.osdmap.specs.Changes.{IsLawful}
use Rattle.mapparts.specs.declared.profile.Profile.{Profile}
use Rattle.epochlog.specs.Epochs.{Line, Seen}
use Rattle.state.specs.States.{StateFacts, opened}
use Rattle.monitor.specs.Histories.{GoesOn}
use Rattle.monitor.specs.declared.locked.Locked.{Locked}
use Rattle.monitor.specs.declared.tally.Tally.{Tally}
use Rattle.monitor.specs.Tallies.{names_of, total_of, IsTallyOf}
use Rattle.monitor.specs.declared.member.Member.{Member}

-- as many changes are counted as a state has made, and as its members have made, each by itself
pub record Counts {K : Type 0} (locked : Locked K) : Type 0 where
  pub tip : locked.tip.count ≡ length locked.state.value.pass.history
  pub total : total_of locked.kept.items ≡ length locked.state.value.pass.history

-- what callers see of a monitor: the first map, the row of epochs, the words of the lock from which its seats draw, the
-- state that the lock was made with, by which profile the texts of its changes are read, and whether there is one
-- member
pub record Monitored : Type 0 where
  pub first : ClusterMap
  pub row : Line
  pub words : Words
  pub made : StateFacts
  -- the count of the state's changes, by its name, and of each member's, by theirs
  pub count : ℕ
  pub tallies : List ℕ
  pub profile : Profile
  pub alone : Bool

-- a monitor by its parts
abbrev pub monitored : {K : Type 0} → ClusterMap → Line → Words → Locked K → Profile → Bool → Monitored
monitored first row words made profile alone =
    record {
      first = first;
      row = row;
      words = words;
      made = made.state.value;
      count = made.tip.name;
      tallies = names_of made.kept.items;
      profile = profile;
      alone = alone;
    }

-- the state is one of this monitor: its first map is the monitor's, and its pass is of the monitor's row
pub record IsStateOf (monitor : Monitored) (state : StateFacts) : Type 0 where
  pub first : state.first ≡ monitor.first
  pub row : state.pass.row ≡ monitor.row

-- the fact of every monitor: its lock was made with a state at its beginning, that of the first map and the monitor's
-- row with nothing in the journal; and the row goes on from the epoch of the first map
pub record IsOpened (monitor : Monitored) : Type 0 where
  pub made : monitor.made ≡ opened monitor.first monitor.row
  pub begins : monitor.row.first ≡ monitor.first.epoch
  pub one : monitor.alone ≡ true → length monitor.tallies ≡ 1

-- the pass is of the monitor's row, with a history that is lawful from the first map
pub record IsPassOf (monitor : Monitored) (pass : Seen) : Type 0 where
  pub row : pass.row ≡ monitor.row
  pub lawful : IsLawful monitor.first pass.history

-- the counts are this monitor's
pub record IsCountedBy {K : Type 0} (monitor : Monitored) (locked : Locked K) : Type 0 where
  pub name : locked.tip.name ≡ monitor.count
  pub tallies : names_of locked.kept.items ≡ monitor.tallies

-- what a member knows of the count of a monitor's changes: that it was where the member's history ends; how many it has
-- made itself; and that these are all of them if it is the only member
pub record Knows (monitor : Monitored) (seen : SeenCount) (tally : Tally) (history : List Step) : Type 0 where
  pub name : seen.name ≡ monitor.count
  pub count : seen.count ≡ length history
  pub own : IsTallyOf monitor.tallies tally
  pub all : monitor.alone ≡ true → tally.mine.count ≡ length history

-- the member has a seat of this monitor; its pass is of the monitor's row, with a history that is lawful from the first
-- map; and it knows of each epoch of the row whether it has made it
pub record IsMemberOf (monitor : Monitored) (member : Member) : Type 0 where
  pub seat : IsSomeAnd member.seat (λ seat. IsAt monitor.words seat.place)
  pub row : member.pass.row ≡ monitor.row
  pub lawful : IsLawful monitor.first member.pass.history
  pub room : length member.own.items ≡ length monitor.row.cells
  pub knows : Knows monitor member.seen member.tally member.pass.history

-- no epoch of the monitor's row is a member's own
abbrev pub none_own : Monitored → List Bool
none_own monitor = replicate (length monitor.row.cells) false

-- the member is one of this monitor that has seen nothing and made no epoch, and its seat has made no step
abbrev pub IsNewMemberOf : Monitored → Member → Type 0
IsNewMemberOf monitor member =
    IsMemberOf monitor member × (member.pass.history ≡ []) × IsSomeAnd member.seat (IsNewAt monitor.words)
    × (member.own.items ≡ none_own monitor)

-- how often a seat of the monitor may draw
abbrev pub draws_of : Monitored → ℕ
draws_of monitor = monitor.words.limit

-- how often the member's seat has drawn
abbrev pub draws_made : Member → ℕ
draws_made member = option_map_or (λ seat. seat.place.draws) member.seat 0

-- how many changes the member has made
abbrev pub changes_made : Member → ℕ
changes_made member = member.tally.mine.count

-- the member's seat has made its draws
abbrev pub IsSpent : Monitored → Member → Type 0
IsSpent monitor member = draws_made member ≡ draws_of monitor

-- a member that has none beside it sees no more than before
abbrev pub StaysAlone : Monitored → Seen → Seen → Type 0
StaysAlone monitor before now = monitor.alone ≡ true → now ≡ before

-- a member has taken a turn at the lock for a call, by one draw of its seat; or it was refused, as its seat had made
-- its draws, and else never for that: it is still one of this monitor
pub record TakesTurn {X : Type 0} (monitor : Monitored) (before after : Member) (r : Result X Refusal) : Type 0 where
  pub member : IsMemberOf monitor after
  pub spent : IfErr r (λ e. e ≡ SeatSpent → IsSpent monitor before)
  pub refused : IsSpent monitor before → (r ≡ Err SeatSpent) × (after ≡ before)
  pub once : IsSpent monitor before ⊎ (draws_made after ≡ draws_made before + 1)

-- a member has drawn once for a hold of the lock, and its history goes on to what the lent state has seen: the hold
-- tells how often its seat has drawn then; or it is refused, as its seat had made its draws, and is as it was
pub record TakesHold {X : Type 0} (monitor : Monitored) (before after : Member) (draws : X → ℕ) (r : Result X Refusal) :
    Type 0 where
  pub goes_on : GoesOn monitor.first before.pass.history after.pass.history
  pub own : after.own ≡ before.own
  pub tally : after.tally ≡ before.tally
  pub alone : StaysAlone monitor before.pass after.pass
  pub unspent : OnOk r (IsSpent monitor before → ⊥)
  pub once : IfOk r (λ hold. draws hold ≡ draws_made before + 1)
  pub spent : IfErr r (λ e. (e ≡ SeatSpent) × IsSpent monitor before × (after ≡ before))

-- ---- who holds the lock

-- the state that a guard lends: while it lends none, the one that the lock was made with
abbrev pub lent : {K : Type 0} → ReadGuard (Locked K) → StateFacts
lent guard =
    unwrap_or (option_and_then (option_map (λ kept. kept.value.state.value)) guard.claim.value)
    (first_of_read guard).state.value

-- the guard shares this monitor's lock
pub record Shares {K : Type 0} (monitor : Monitored) (guard : ReadGuard (Locked K)) : Type 0 where
  pub place : IsAt monitor.words guard.turn.place
  pub first : IsStateOf monitor (first_of_read guard).state.value
  pub counted : IsCountedBy monitor (first_of_read guard)

-- the guard has this monitor's lock alone
pub record Holds {K : Type 0} (monitor : Monitored) (guard : WriteGuard (Locked K)) : Type 0 where
  pub place : IsAt monitor.words guard.turn.place
  pub first : IsStateOf monitor (first_of_write guard).state.value
  pub counted : IsCountedBy monitor (first_of_write guard)
