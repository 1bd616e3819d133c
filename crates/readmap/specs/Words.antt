-- The words in which it is told why there is no answer, or why a line is not to be given.
use Rattle.std.specs.Prelude.{ℕ, ◌+◌, ◌-◌, ◌^◌, List, ◌++◌, codes, min, Some, None}
use Rattle.std.specs.Fmt.{decimal}
use Rattle.refusal.specs.Refusals.{name_of}
use Rattle.cephbytes.specs.declared.refused.ReadError.{ReadError}
use Rattle.cephbytes.specs.declared.refused.ReadError.TheVariants as read
use Rattle.cephbytes.specs.declared.refused.Refused.TheVariants as refused
use Rattle.cephimport.specs.Why.{why_name}
use Rattle.upmap_cleanup.specs.declared.cause.Cause.{Cause}
use Rattle.upmap_cleanup.specs.declared.cause.Cause.TheVariants.{Crowded, Spread, Outside, Unreached, Out, IdleSet, SetLength, IdlePairs}
use Rattle.verdict.specs.declared.doubt.Doubt.{Doubt}
use Rattle.verdict.specs.declared.doubt.Doubt.TheVariants as doubt
use Rattle.verdict.specs.declared.judging.Doubted.{Doubted}
use Rattle.readmap.specs.declared.text.Untold.{Untold}
use Rattle.readmap.specs.declared.text.Untold.TheVariants as reasons

-- why bytes are no map
abbrev pub fault_words : ReadError → List ℕ
fault_words read.Memory = codes "there is no memory for it"
fault_words (read.Refused refused.Short) = codes "it is cut off, or a length in it lies"
fault_words (read.Refused refused.TooNew) = codes "a part of it is of a later release"
fault_words (read.Refused refused.Trailing) = codes "more stands behind it"
fault_words (read.Refused refused.Unknown) = codes "a part of it is of a kind that is not known"
fault_words (read.Refused refused.WrongSum) = codes "its sum is not that of its bytes"

-- why there is no text of a map
abbrev pub untold_words : Untold → List ℕ
untold_words reasons.Memory = codes "there is no memory for it"
untold_words (reasons.StaysOut why) = codes "it does not come in: " ++ why_name why
untold_words (reasons.Refused refusal) = codes "it is no map: " ++ name_of refusal

-- why a monitor would take all exceptions of a group away
abbrev pub cause_words : Cause → List ℕ
cause_words (Crowded step one other) =
    codes "by step " ++ (decimal step ++ (codes " osd." ++ (decimal one ++ (codes " and osd." ++ (decimal other
    ++ codes " stand below one bucket")))))
cause_words (Spread step buckets) =
    codes "its set stands below " ++ (decimal buckets ++ (codes " buckets, more than step " ++ (decimal step
    ++ codes " chooses")))
cause_words (Outside step place) =
    codes "a place stands outside of what is taken before step " ++ decimal step
cause_words (Unreached (Some osd)) = codes "the rule does not reach osd." ++ decimal osd
cause_words (Unreached None) = codes "a place is empty"
cause_words (Out osd) = codes "osd." ++ decimal osd ++ codes " is out"
cause_words IdleSet = codes "its set is what the rule gives"
cause_words SetLength = codes "its set has another length than the pool's size"
cause_words IdlePairs = codes "none of its pairs does anything"

-- why a line is not to be given
abbrev pub doubt_words : Doubt → List ℕ
doubt_words doubt.Unknown = codes "no command that is known"
doubt_words (doubt.Refused refusal) = codes "the map refuses it: " ++ name_of refusal
doubt_words doubt.Fewer = codes "a monitor would take some of its pairs away again"
doubt_words (doubt.Gone cause) = codes "a monitor would take it away again: " ++ cause_words cause

-- the number of a line before which so many stand
abbrev pub line_number : ℕ → ℕ
line_number line = min (line + 1) (2 ^ 64 - 1)

-- a line that is not to be given, and why
abbrev pub doubted_words : Doubted → List ℕ
doubted_words d = codes "line " ++ decimal (line_number d.line) ++ codes ": in doubt: " ++ doubt_words d.why
