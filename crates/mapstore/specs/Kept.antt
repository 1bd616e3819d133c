-- How many changes an open leaves in a store, and what the store notes of that.
use Rattle.std.specs.Prelude.{ℕ, ◌==◌, if◌then◌else◌, Option, Some, None}
use Rattle.journalstore.specs.declared.facts.Facts.{Facts}
use Rattle.mapstore.specs.declared.keep.Keep.{Keep}
use Rattle.mapstore.specs.declared.keep.Keep.TheVariants.{All, AsNoted, Only}

-- how many an open leaves in a store that notes this of itself
abbrev pub kept_count : Keep → Option Facts → ℕ
kept_count All facts = 4294967295
kept_count AsNoted (Some facts) = facts.keep
kept_count AsNoted None = 1024
kept_count (Only keep) facts = keep

-- the number that the store is to note, where it notes another one
abbrev pub note_of : Keep → Option Facts → Option ℕ
note_of (Only keep) (Some facts) = if facts.keep == keep then None else Some keep
note_of keep facts = None
