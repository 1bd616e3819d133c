-- The words of the errors.
use Rattle.std.specs.Prelude.{◌≢◌, ◌++◌, ℕ, List, codes}
use Rattle.std.specs.Fmt.{decimal}
use Rattle.journalstore.specs.declared.error.StoreError.{StoreError}
use Rattle.journalstore.specs.declared.error.StoreError.TheVariants.{Missing, LogAlone, LogLost, Taken, NoFolder, NoRight, NoCopy, Moving, Unopened, InUse, Foreign, Mixed, Damaged, Begun, EpochTooLarge, EpochTaken, TextTooLong, Full, Disk, Memory, Shut}

-- what an error says
abbrev pub said : StoreError → List ℕ
said Missing = codes "there is no store at this path"
said LogAlone = codes "there is a log at this path, and no store with it"
said (LogLost epoch) =
    codes "its log is missing: bring it back, or by --without-log " ++ decimal epoch
    ++ codes " lose what it has behind that epoch"
said Taken = codes "there is a file at the path of the copy"
said NoFolder = codes "the folder of the copy is missing"
said NoRight = codes "there is no right to make the copy in its folder"
said NoCopy = codes "the copy cannot be made there"
said Moving = codes "the store was written faster than it was copied"
said Unopened = codes "the file cannot be opened"
said InUse = codes "the store is in use"
said Foreign = codes "the file is not a store"
said Mixed = codes "the store has a change of another store: its log is not its own"
said Damaged = codes "the store is damaged, or another program has written it"
said Begun = codes "the store has a first map already"
said EpochTooLarge = codes "the epoch is above 2^63 - 1"
said EpochTaken = codes "the store has a change with this epoch or a later one"
said TextTooLong = codes "the text is too long for a store"
said Full = codes "the disk is full"
said Disk = codes "the disk failed"
said Memory = codes "memory is short"
said Shut = codes "an earlier failure of the disk has shut the store"

-- it comes from a file and what is in it: it is not that there is none, that it is begun, or that an epoch is too large
abbrev pub IsOfFile : StoreError → Type 0
IsOfFile e = (e ≢ EpochTooLarge) × (e ≢ Missing) × (e ≢ Begun)
