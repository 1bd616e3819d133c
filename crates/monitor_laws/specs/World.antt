-- A monitor as a world: the words and views of its lock, the state behind it, the row of sealed epochs, what was told
-- of its history so far, and how far each follower has read; and what its seats and followers do.
use Rattle.std.specs.Prelude.{◌≡◌, ℕ, List, [], ◌∷◌, ◌++◌, length, Some, slice_get, slice_set}
use mathlib.Core.Option.{some}
use lib.ListN.{get_elem?}
use Rattle.ticketlock.specs.declared.view.View.{View}
use Rattle.ticketlock.specs.Rule as lock
use Rattle.ticketlock.specs.declared.view.Step.TheVariants as lockstep
use Rattle.ticketlock.specs.declared.view.Step.{Step as LockStep}
use Rattle.ticketlock.specs.Rule.{LockWorld}
use Rattle.ticketlock.specs.Law.{IsWriting, IsReading}
use Rattle.maptypes.specs.Incrementals.{Step}
use Rattle.osdmap.specs.Maps.{ClusterMap}
use Rattle.osdmap.specs.Changes.{IsLawful}
use Rattle.pgtable.specs.Tables.{TableFacts}
use Rattle.state.specs.States.{StateFacts, IsKept}

-- what was told of the history: to a seat that looked, the state and its table; to a seat that sealed, that its
-- incremental stands behind what was sealed before
pub data Told : Type 0 where
  look : ℕ → StateFacts → TableFacts → Told
  change : ℕ → List Step → Step → Told

-- the world of a monitor: its lock and its state, what is sealed and told, and what its followers have read
pub record MonitorWorld : Type 0 where
  pub lock : LockWorld
  -- the state in its slot, or in the hands of a writer
  pub state : StateFacts
  pub table : TableFacts
  -- the incrementals of the epochs that are sealed
  pub sealed : List Step
  -- what was told so far, the last first
  pub told : List Told
  -- what each follower has read, by its number
  pub followers : List (List Step)

-- what a seat does: a step at the words; a look at the state; a writer makes anything of the state, and seals an epoch
pub data Act : Type 0 where
  at_lock : LockStep → Act
  looks : Act
  makes : StateFacts → TableFacts → Act
  seals : Step → Act

-- what happens: a seat acts, or a follower reads the cell of its next epoch, whoever holds the lock
pub data Event : Type 0 where
  acts : Act → Event
  follows : Event

-- the state is that of the first map with the sealed epochs applied, and its table that of its map
pub record IsPresent (first : ClusterMap) (w : MonitorWorld) : Type 0 where
  pub kept : IsKept w.state w.table
  pub from_first : w.state.first ≡ first
  pub journal : w.state.pass.history ≡ w.sealed

-- a writer has put such a state back when it begins to leave
abbrev pub PutsBack : ClusterMap → MonitorWorld → LockStep → Type 0
PutsBack first w (lockstep.Draws kind) = Unit {0}
PutsBack first w lockstep.ReaderLooks = Unit {0}
PutsBack first w lockstep.WriterLooks = Unit {0}
PutsBack first w lockstep.ReaderEnters = Unit {0}
PutsBack first w lockstep.ReaderLeaves = Unit {0}
PutsBack first w lockstep.WriterCloses = IsPresent first w
PutsBack first w lockstep.WriterLeaves = Unit {0}

-- the world once a seat was told of the history, and once an incremental is sealed by a seat
abbrev pub with_look : MonitorWorld → ℕ → MonitorWorld
with_look w seat = record w { told = look seat w.state w.table ∷ w.told }

-- the world once an incremental is sealed by a seat
abbrev pub with_sealed : MonitorWorld → ℕ → Step → MonitorWorld
with_sealed w seat s = record w { sealed = w.sealed ++ s ∷ []; told = change seat w.sealed s ∷ w.told }

-- the seat of the view v does so, and leads from the world w to the world next: a reader may look, a writer may make
-- what it likes of the state and seal what is lawful; each step at the words is one of the seven kinds
abbrev pub Acts : ClusterMap → Act → MonitorWorld → ℕ → View → MonitorWorld → Type 0
Acts first (at_lock s) w seat v next =
    (words : LockWorld) × lock.Takes s w.lock seat v words × PutsBack first w s × (next ≡ record w { lock = words })
Acts first looks w seat v next = IsReading v.stage × (next ≡ with_look w seat)
Acts first (makes k t) w seat v next = IsWriting v.stage × (next ≡ record w { state = k; table = t })
Acts first (seals s) w seat v next =
    IsWriting v.stage × IsLawful first (w.sealed ++ s ∷ []) × (next ≡ with_sealed w seat s)

-- an event of the seat or the follower of a number leads from the world w to the world next
abbrev pub Happens : ClusterMap → Event → MonitorWorld → ℕ → MonitorWorld → Type 0
Happens first (acts a) w seat next =
    (v : View) × (get_elem? w.lock.views seat ≡ some v) × Acts first a w seat v next
Happens first follows w number next =
    (read : List Step) × (s : Step) × (slice_get w.followers number ≡ Some read)
    × (slice_get w.sealed (length read) ≡ Some s)
    × (next ≡ record w { followers = slice_set w.followers number (read ++ s ∷ []) })
