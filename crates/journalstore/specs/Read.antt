-- What was read, as the texts of a journal.
use Rattle.std.specs.Prelude.{ℕ, Option, Some, None, map, string_bytes}
use Rattle.journalstore.specs.declared.facts.Facts.{Facts}
use Rattle.journalstore.specs.declared.reading.StoredText.{StoredText}
use Rattle.journalstore.specs.declared.reading.StoredTexts.{StoredTexts}
use Rattle.journalstore.specs.Texts.{Entry, Texts}

-- an epoch and its text
abbrev pub entry_read : StoredText → Entry
entry_read t = (t.epoch, string_bytes t.text)

-- the first map, and the changes
abbrev pub texts_read : StoredTexts → Texts
texts_read t = record { first = entry_read t.first; changes = map entry_read t.changes.items }

-- what a store notes of itself, with another number of changes that a start leaves
abbrev pub noted_with : Option Facts → Option ℕ → Option Facts
noted_with (Some facts) (Some keep) = Some (record facts { keep = keep })
noted_with facts keep = None
