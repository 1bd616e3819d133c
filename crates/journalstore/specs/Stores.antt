-- What a store holds, and what a crash may leave of it.
use Rattle.std.specs.Prelude.{◌≡◌, false, IsTrue}
use Rattle.sqlite.specs.Tree.{Trees}
use Rattle.sqlite.specs.Store.{Ghosts}
use Rattle.sqlite.specs.State.{State, HasCleanDisk}
use Rattle.sqlite.specs.Held.{Held, state}
use Rattle.journalstore.specs.Tables.{IsOfStore}
use Rattle.journalstore.specs.Texts.{Texts, StandsFor}
use Rattle.journalstore.specs.declared.store.TextStore.{TextStore}

-- the database has the tables of a store, and all that it shows is committed
pub record IsSettled (s : State) : Type 0 where
  pub autocommit : s.in_transaction ≡ false
  pub schema : IsOfStore s.now.schema
  pub committed : s.committed ≡ s.now

-- the database is settled and shows these texts, unless a failure has shut it
pub record Shows (s : State) (t : Texts) : Type 0 where
  pub settled : IsSettled s
  pub stands : StandsFor s.now.trees t

-- a transaction is under way, as long as the disk has returned what was written, and the tables are those of a store
abbrev pub IsInWriting : State → Type 0
IsInWriting s = HasCleanDisk s → IsTrue s.in_transaction × IsOfStore s.now.schema

-- a transaction has written these texts, which wait for a commit
pub record IsWritten (s : State) (t : Texts) : Type 0 where
  pub in_transaction : IsTrue s.in_transaction
  pub schema : IsOfStore s.now.schema
  pub stands : StandsFor s.now.trees t

-- as long as the disk has returned what was written
abbrev pub IsRunning : State → Type 0
IsRunning s = HasCleanDisk s → IsTrue s.is_open

-- a state that is open shows these texts, as long as the disk has returned what was written
abbrev pub IsOf : State → Texts → Type 0
IsOf s t = HasCleanDisk s → IsTrue s.is_open → Shows s t

-- whatever a crash leaves is of this kind, as long as the disk has returned what was written
abbrev pub LeavesOnly : State → (Trees → Type 0) → Type 0
LeavesOnly s Kind = HasCleanDisk s → (db : Trees) → s.may_leave db → Kind db

module _ {S : Type 0} (g : Ghosts S) where
  -- the connection is open, has the tables of a store and nothing that waits for a commit, as long as the disk has
  -- returned what was written
  abbrev pub IsReady : Held S → Type 0
  IsReady conn = HasCleanDisk (state g conn) → IsTrue (state g conn).is_open × IsSettled (state g conn)

  -- whatever a crash at this moment leaves is of this kind
  abbrev pub LeavesIn : Held S → (Trees → Type 0) → Type 0
  LeavesIn conn = LeavesOnly (state g conn)

  -- a crash at this moment may leave these texts
  abbrev pub MayLeaveIn : Held S → Texts → Type 0
  MayLeaveIn conn t = HasCleanDisk (state g conn) × ((db : Trees) × (state g conn).may_leave db × StandsFor db t)

  -- the connection is open, holds these texts and has committed them, as long as the disk has returned what was
  -- written; and whatever a crash leaves stands for them
  abbrev pub HoldsIn : Held S → Texts → Type 0
  HoldsIn conn t = IsRunning (state g conn) × IsOf (state g conn) t × LeavesIn conn (λ db. StandsFor db t)

  -- the connection holds these texts, unless a failure of the disk has shut it
  abbrev pub KeepsIn : Held S → Texts → Type 0
  KeepsIn conn = IsOf (state g conn)

  -- the same of a store
  abbrev pub Holds : TextStore S → Texts → Type 0
  Holds store = HoldsIn store.conn

  -- whatever a crash at this moment leaves of a store is of this kind
  abbrev pub Leaves : TextStore S → (Trees → Type 0) → Type 0
  Leaves store = LeavesIn store.conn

  -- a crash at this moment may leave these texts of a store
  abbrev pub MayLeave : TextStore S → Texts → Type 0
  MayLeave store = MayLeaveIn store.conn

  -- a store holds these texts, unless a failure of the disk has shut it
  abbrev pub Keeps : TextStore S → Texts → Type 0
  Keeps store = KeepsIn store.conn
