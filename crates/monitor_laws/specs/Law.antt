-- What every list of events keeps.
use Rattle.std.specs.Prelude.{◌≡◌, ℕ, ◌+◌, ◌≤◌, List, [], ◌∷◌, ◌++◌, length, replicate, Some, None, slice_get}
use mathlib.Core.Option.{some}
use lib.ListN.{get_elem?}
use Rattle.ticketlock.specs.declared.view.View.{View}
use Rattle.ticketlock.specs.Law.{start, IsWriting, IsAlone}
use Rattle.maptypes.specs.Incrementals.{Step}
use Rattle.maptypes.specs.declared.pg.Pg.{Pg}
use Rattle.maptypes.specs.declared.change.ChangeParts.{ChangeParts}
use Rattle.osdmap.specs.Maps.{ClusterMap}
use Rattle.osdmap.specs.Evals.{evals_of}
use Rattle.osdmap.specs.Changes.{IsLawful, after, change_fault}
use Rattle.epochlog.specs.Epochs.{Line, Begins}
use Rattle.pgtable.specs.Tables.{TableFacts, IsTableOf, shown_at, shown_groups, shown_in}
use Rattle.pgtable.specs.Index.{up_at, index_of, count_of, count_in}
use Rattle.state.specs.States.{opened, next_step, ran, committed, IsKept}
use Rattle.monitor_laws.specs.World.{MonitorWorld, Event, Told, look, change, Happens}

-- a monitor as it is opened, with so many seats that are idle and so many followers that have read nothing: the state
-- at its beginning, nothing sealed and nothing told
abbrev pub opening : ClusterMap → Line → TableFacts → ℕ → ℕ → MonitorWorld
opening first row table seats followers = record {
  lock = start seats;
  state = opened first row;
  table = table;
  sealed = [];
  told = [];
  followers = replicate followers [];
}

-- the events, each with the number of its seat or follower, lead from one world to another
abbrev pub RunsTo : ClusterMap → MonitorWorld → List (Event × ℕ) → MonitorWorld → Type 0
RunsTo first w [] last = last ≡ w
RunsTo first w (e ∷ events) last = (next : MonitorWorld) × Happens first e.0 w e.1 next × RunsTo first next events last

-- no seat writes
abbrev pub NoneWrites : List View → Type 0
NoneWrites views = (j : ℕ) (u : View) → get_elem? views j ≡ some u → IsWriting u.stage → ⊥

-- all that was told is of one history, which begins `ahead`: each look was at a state of the first map whose journal is
-- as long as the history then was, and each change stands in it behind what was told before it, with the next epoch
abbrev pub IsOneHistory : ClusterMap → List Step → List Told → Type 0
IsOneHistory first ahead [] = Unit {0}
IsOneHistory first ahead (look seat k t ∷ told) =
    IsKept k t × (k.first ≡ first) × Begins k.pass.history ahead × IsOneHistory first k.pass.history told
IsOneHistory first ahead (change seat before s ∷ told) =
    IsLawful first (before ++ s ∷ []) × (s.epoch ≡ first.epoch + length before + 1)
    × Begins (before ++ s ∷ []) ahead × IsOneHistory first before told

-- what a table stores and counts is what a map defines: each group's up set, and for each OSD the groups in whose up
-- set it stands, how many these are, and how many of a pool
pub record ShowsMap (t : TableFacts) (m : ClusterMap) : Type 0 where
  pub ups : (g : Pg) → shown_at t g ≡ up_at m g
  pub groups : (osd : ℕ) → shown_groups t osd ≡ index_of m osd
  pub counts : (osd : ℕ) → length (shown_groups t osd) ≡ count_of m osd
  pub counts_in : (pool osd : ℕ) → shown_in t pool osd ≡ count_in m pool osd

-- THE HEADLINE, of a monitor after all that its seats and followers did
pub record IsSound (first : ClusterMap) (w : MonitorWorld) : Type 0 where
  -- no writer holds the lock beside another holder
  pub alone : IsAlone w.lock.views
  -- whenever no writer holds it, the map is the first map with the sealed epochs applied
  pub map : NoneWrites w.lock.views → w.state.map ≡ after first w.sealed
  -- in the order of epochs and without gaps, each not refused by the map before it
  pub epochs : (k : ℕ) (s : Step) → slice_get w.sealed k ≡ Some s → s.epoch ≡ first.epoch + 1 + k
  pub lawful : IsLawful first w.sealed
  -- each stored up set is the one that its rule and exceptions define, and the index and counts by OSD are theirs
  pub table : NoneWrites w.lock.views → ShowsMap w.table (after first w.sealed)
  -- all looks and changes, by whomever, are of one history, each look at a beginning of the next, each change in it
  -- once
  pub told : IsOneHistory first w.sealed w.told
  -- and what a follower has read without the lock, whoever holds it, begins that same history
  pub followers : (j : ℕ) (read : List Step) → slice_get w.followers j ≡ Some read → Begins read w.sealed

-- The law: from the opening on it holds after every list of events, of up to 1,024 seats and any number of followers
abbrev pub HasOneHistory : Type 0
HasOneHistory = (first : ClusterMap) (row : Line) (table : TableFacts) (seats followers : ℕ)
    (events : List (Event × ℕ)) (last : MonitorWorld)
    → seats ≤ 1024 → row.first ≡ first.epoch → IsTableOf table first
    → RunsTo first (opening first row table seats followers) events last → IsSound first last

-- It speaks of something: for each map and each change that it does not refuse, some events lead to a world where one
-- seat has made the change and has looked at it, and a follower has read it
abbrev pub HasEvents : Type 0
HasEvents = (first : ClusterMap) (row : Line) (table other : TableFacts) (parts : ChangeParts)
    → row.first ≡ first.epoch → IsTableOf table first → change_fault first parts ≡ None
    → IsTableOf other (after first (next_step first parts ∷ []))
    → (events : List (Event × ℕ)) × (last : MonitorWorld) × RunsTo first (opening first row table 1 1) events last
    × (last.sealed ≡ next_step first parts ∷ [])
    × (last.told ≡ look 0
    (ran (evals_of (after first (next_step first parts ∷ [])) parts) (committed (opened first row) parts)) other
    ∷ change 0 [] (next_step first parts) ∷ [])
    × (last.followers ≡ (next_step first parts ∷ []) ∷ [])
