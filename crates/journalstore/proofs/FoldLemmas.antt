-- What is left of the files of a database once its log is copied into its file.
use Rattle.std.proofs.Common.{◌≡◌, subst}
use Rattle.sqlite_disk.specs.declared.Disk.{Ghosts}
use Rattle.sqlite_disk.specs.declared.Files.{Files}
use Rattle.sqlite.specs.Files.{file_state}
use Rattle.sqlite.specs.Held.{Held}
use Rattle.sqlite.specs.Recovery.{Image}
use Rattle.sqlite.specs.Start.{FindsIn}
use Rattle.sqlite.specs.State.{HasCleanDisk}
use Rattle.sqlite.specs.WalReads.{AreClean}
use Rattle.sqlite_trees.specs.Objects.{with_version}
use Rattle.sqlite_store.specs.declared.store.FileStore.{FileStore}
use Rattle.journalstore.specs.Claims.{IsClosedWith}
use Rattle.journalstore.specs.Folded.{IsFoldedFrom, HoldStill}

-- the files of a database that was found in them, once they are closed without a claim, hold it still
pub folded : {D : Type 0} {g : Ghosts D} (held : Image) (c : Held (FileStore D g)) (files : Files D) → (HasCleanDisk (file_state c) → FindsIn held (file_state c))
    → (AreClean g files.log files.db → IsClosedWith 0 c files) → IsFoldedFrom g held files
folded {g = g} held c files found closed clean db is =
    let it = closed clean in
    let same : (file_state c).committed.trees ≡ db = (found it.was_clean).holds db is in
    subst (λ d. HoldStill g files (with_version d 0)) same it.still
