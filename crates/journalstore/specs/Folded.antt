-- What the two files of a store hold once its log is copied into its file.
use Rattle.sqlite_disk.specs.declared.Disk.{Ghosts}
use Rattle.sqlite_disk.specs.declared.Files.{Files}
use Rattle.sqlite.specs.Tree.{Trees}
use Rattle.sqlite_trees.specs.Objects.{with_version}
use Rattle.sqlite.specs.Files.{HoldsDatabase, image_of}
use Rattle.sqlite.specs.Closing.{HoldsAlone}
use Rattle.sqlite.specs.WalFiles.{outcomes}
use Rattle.sqlite.specs.WalReads.{AreClean}
use Rattle.sqlite.specs.Recovery.{Image}

-- the files hold this database, and so does the file without its log, as they read now and whatever a crash leaves of
-- them
pub record HoldStill {D : Type 0} (g : Ghosts D) (files : Files D) (db : Trees) : Type 0 where
  pub seen : HoldsAlone (image_of g files) db
  pub left : (image : Image) → outcomes g files.log files.db image → HoldsAlone image db

-- as long as the disk has returned what was written, they hold the database that they held before, and claim no log
abbrev pub IsFoldedFrom : {D : Type 0} → Ghosts D → Image → Files D → Type 0
IsFoldedFrom g before files =
    AreClean g files.log files.db → (db : Trees) → HoldsDatabase before db → HoldStill g files (with_version db 0)
