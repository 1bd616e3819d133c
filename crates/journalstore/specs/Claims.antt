-- What the file of a store says of its log, as SQLite's user version: 0 where the file is the store by itself; else
-- that the log goes with it, which may have the changes behind this epoch.
use Rattle.std.specs.Prelude.{◌≡◌, ◌-◌, ◌^◌, ℕ, min, [], false, IsTrue}
use Rattle.sqlite_disk.specs.declared.Disk.{Ghosts}
use Rattle.sqlite_disk.specs.declared.Files.{Files}
use Rattle.sqlite.specs.Files.{file_state}
use Rattle.sqlite.specs.Held.{Held}
use Rattle.sqlite.specs.State.{HasCleanDisk, Opens}
use Rattle.sqlite_trees.specs.Objects.{with_version}
use Rattle.sqlite_trees.specs.View.{View}
use Rattle.sqlite_store.specs.declared.store.FileStore.{FileStore}
use Rattle.journalstore.specs.Folded.{HoldStill}

-- the claim of a file whose log may have the changes behind an epoch
abbrev pub claim_of : ℕ → ℕ
claim_of epoch = min epoch (2 ^ 32 - 1)

-- the store is open, its last commit is the one from before with this claim, and it shows that
pub record Claims (claim : ℕ) (old new : View) : Type 0 where
  pub was_open : IsTrue old.is_open
  pub is_open : IsTrue new.is_open
  pub numbered : new.is_numbered ≡ old.is_numbered
  pub committed : new.committed ≡ with_version old.committed claim
  pub shown : new.trees ≡ new.committed
  pub sound : new.is_broken ≡ false
  pub unmarked : new.marks ≡ []

module _ {D : Type 0} {g : Ghosts D} where
  -- a connection is the one from before with this claim
  pub record IsWithClaim (claim : ℕ) (old new : Held (FileStore D g)) : Type 0 where
    pub was_clean : HasCleanDisk (file_state old)
    pub was_open : IsTrue (file_state old).is_open
    pub opens : Opens (file_state new)
    pub committed : (file_state new).committed.trees ≡ with_version (file_state old).committed.trees claim

  -- the files of a connection hold its last commit with this claim
  pub record IsClosedWith (claim : ℕ) (old : Held (FileStore D g)) (files : Files D) : Type 0 where
    pub was_clean : HasCleanDisk (file_state old)
    pub still : HoldStill g files (with_version (file_state old).committed.trees claim)
