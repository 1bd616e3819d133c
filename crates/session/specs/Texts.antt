-- The bytes of each answer.
use Rattle.std.specs.Prelude.{ℕ, List, [], ◌∷◌, ◌++◌, codes, Option, Result, Ok, Err}
use Rattle.std.specs.Fmt.{decimal}
use Rattle.maptypes.specs.declared.pg.Pg.{Pg}
use Rattle.upmap_cleanup.specs.declared.cause.Cause.{Cause}
use Rattle.upmap_cleanup.specs.declared.cause.Cause.TheVariants.{Crowded, Spread, Outside, Unreached, Out, IdleSet, SetLength, IdlePairs}
use Rattle.upmap_cleanup.specs.declared.kept.Remnant.{Remnant}
use Rattle.upmap_cleanup.specs.declared.kept.Remnant.TheVariants.{All, Fewer, Gone}
use Rattle.refusal.specs.declared.refused.Refusal.{Refusal}
use Rattle.refusal.specs.declared.refused.Refusal.TheVariants.{BadJson, BadField, BadLimit, BadForest, BadRule, BadPool, BadOsd, BadException, StaleEpoch, UnknownOsd, BadWeight, UnknownPool, PoolExists, UnknownGroup, BadNewException, DuplicatePart, JournalFull, BalanceRule, Memory, SeatSpent, NotSealed, BadCommand, AwaitSpent, NotStored}
use Rattle.refusal.specs.Refusals.{number_of, name_of}
use Rattle.maptypes.specs.GroupText.{group_text}
use Rattle.maptypes.specs.Sets.{primary_of}
use Rattle.maptypes.specs.SetText.{osd_text, place_text, list_text, set_text}

-- what ends each answer
abbrev pub newline : List ℕ
newline = 10 ∷ []

-- the primary: its OSD, or -1
abbrev pub primary_text : Option ℕ → List ℕ
primary_text primary = osd_text (codes "-1") primary

-- `WORD EPOCH PG [SET] PRIMARY`
unfoldable pub up_text : List ℕ → ℕ → Pg → List (Option ℕ) → List ℕ
up_text word epoch pg places =
    word ++ codes " " ++ decimal epoch ++ codes " " ++ group_text pg
    ++ codes " [" ++ list_text place_text places ++ codes "] "
    ++ primary_text (primary_of places) ++ newline

-- a set as `up` tells it, behind a space
abbrev pub shown_text : List (Option ℕ) → List ℕ
shown_text places = codes " " ++ set_text places

-- `WORD EPOCH POOL SETS`, each set behind a space
unfoldable pub ups_text : List ℕ → ℕ → ℕ → List ℕ → List ℕ
ups_text word epoch pool sets = word ++ codes " " ++ decimal epoch ++ codes " " ++ decimal pool ++ sets ++ newline

-- `count EPOCH OSD N`
unfoldable pub count_text : ℕ → ℕ → ℕ → List ℕ
count_text epoch osd count =
    codes "count " ++ decimal epoch ++ codes " " ++ decimal osd ++ codes " " ++ decimal count ++ newline

-- `groups EPOCH OSD [PG,PG,..]`
unfoldable pub groups_text : ℕ → ℕ → List Pg → List ℕ
groups_text epoch osd groups =
    codes "groups " ++ decimal epoch ++ codes " " ++ decimal osd
    ++ codes " [" ++ list_text group_text groups ++ codes "]" ++ newline

-- `WORD EPOCH`
unfoldable pub epoch_text : List ℕ → ℕ → List ℕ
epoch_text word epoch = word ++ codes " " ++ decimal epoch ++ newline

-- `WORD TEXT`
unfoldable pub dump_text : List ℕ → List ℕ → List ℕ
dump_text word text = word ++ codes " " ++ text ++ newline

-- a step that chooses leaves, and two OSDs
unfoldable pub crowded_text : ℕ → ℕ → ℕ → List ℕ
crowded_text step one other =
    codes "chooseleaf " ++ decimal step ++ codes " " ++ decimal one ++ codes " " ++ decimal other

-- why all exceptions of a group go: a word, and what it names of steps, places and numbers
abbrev pub cause_text : Cause → List ℕ
cause_text (Crowded step one other) = crowded_text step one other
cause_text (Spread step buckets) = codes "choose " ++ decimal step ++ codes " " ++ decimal buckets
cause_text (Outside step place) = codes "take " ++ decimal step ++ codes " " ++ place_text place
cause_text (Unreached place) = codes "unreached " ++ place_text place
cause_text (Out osd) = codes "out " ++ decimal osd
cause_text IdleSet = codes "idle-set"
cause_text SetLength = codes "set-length"
cause_text IdlePairs = codes "idle-pairs"

-- what is left, and why where that is nothing
abbrev pub remnant_text : Remnant → List ℕ
remnant_text All = codes "all"
remnant_text Fewer = codes "fewer"
remnant_text (Gone cause) = codes "gone " ++ cause_text cause

-- `fkept EPOCH PG LEFT`
unfoldable pub kept_text : ℕ → Pg → Remnant → List ℕ
kept_text epoch pg left =
    codes "fkept" ++ codes " " ++ decimal epoch ++ codes " " ++ group_text pg ++ codes " " ++ remnant_text left
    ++ newline

-- `ok EPOCH evals N`
unfoldable pub ok_text : ℕ → ℕ → List ℕ
ok_text epoch evals = codes "ok " ++ decimal epoch ++ codes " evals " ++ decimal evals ++ newline

-- `moved N epoch EPOCH`
unfoldable pub moved_text : ℕ → ℕ → List ℕ
moved_text moves epoch = codes "moved " ++ decimal moves ++ codes " epoch " ++ decimal epoch ++ newline

-- what a refusal carries beside its name: the current epoch, where the change is for another
abbrev pub detail_of : Refusal → List ℕ
detail_of BadJson = []
detail_of BadField = []
detail_of BadLimit = []
detail_of BadForest = []
detail_of BadRule = []
detail_of BadPool = []
detail_of BadOsd = []
detail_of BadException = []
detail_of (StaleEpoch current) = codes " " ++ decimal current
detail_of UnknownOsd = []
detail_of BadWeight = []
detail_of UnknownPool = []
detail_of PoolExists = []
detail_of UnknownGroup = []
detail_of BadNewException = []
detail_of DuplicatePart = []
detail_of JournalFull = []
detail_of BalanceRule = []
detail_of Memory = []
detail_of SeatSpent = []
detail_of NotSealed = []
detail_of BadCommand = []
detail_of AwaitSpent = []
detail_of NotStored = []

-- `err NUMBER NAME`
unfoldable pub refusal_text : Refusal → List ℕ
refusal_text r = codes "err " ++ decimal (number_of r) ++ codes " " ++ name_of r ++ detail_of r ++ newline

-- the line of what a command answers, or of why it is refused
abbrev pub line_of : {X : Type 0} → (X → List ℕ) → Result X Refusal → List ℕ
line_of text (Ok x) = text x
line_of text (Err refusal) = refusal_text refusal
