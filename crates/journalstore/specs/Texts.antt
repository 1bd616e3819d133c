-- The texts of a journal, and when a database stands for them.
use Rattle.std.specs.Prelude.{◌≡◌, ◌<◌, ◌==◌, ℕ, pos, List, [], ◌∷◌, ◌++◌, map, All, IsPermutation, if◌then◌else◌, slice_index}
use Rattle.std.specs.List.{after_first}
use Rattle.sqlite.specs.declared.types.Value.{Value}
use Rattle.sqlite.specs.declared.types.Value.TheVariants.{Int, Text as Words}
use Rattle.sqlite.specs.Order.{Row, column, bytes}
use Rattle.sqlite.specs.Tree.{Trees}
use Rattle.sqlite_trees.specs.Tree.{IsAscending}

-- an epoch and its text
abbrev pub Entry : Type 0
Entry = ℕ × List ℕ

-- the first map, and the changes since, in the order of their epochs
pub record Texts : Type 0 where
  pub first : Entry
  pub changes : List Entry

-- the texts that a store begins with
abbrev pub begun_with : ℕ → List ℕ → Texts
begun_with epoch text = record { first = (epoch, text); changes = [] }

-- the texts with one change more
abbrev pub with_change : Texts → Entry → Texts
with_change t change = record t { changes = t.changes ++ change ∷ [] }

-- the epoch is above that of each change
abbrev pub IsAfter : Texts → ℕ → Type 0
IsAfter t epoch = All (λ (e : Entry). e.0 < epoch) t.changes

-- each epoch is below the later ones
abbrev pub AreRising : List Entry → Type 0
AreRising = IsAscending (λ (a b : Entry). a.0 < b.0)

-- the number that a value is, if it is one from 0 on
abbrev pub row_epoch : Value → ℕ
row_epoch (Int (pos n)) = n
row_epoch _ = 0

-- a text without its note, a word in front of it that begins with `l`, and a space
unfoldable pub bare_text : List ℕ → List ℕ
bare_text text = if slice_index text 0 == 108 then after_first (λ c. c == 32) text else text

-- what two values say: an epoch, and a text without its note
abbrev pub entry_in : Value → Value → Entry
entry_in epoch text = (row_epoch epoch, bare_text (bytes text))

-- they are an epoch and a text, with a note or without
abbrev pub IsEntryIn : Value → Value → Type 0
IsEntryIn epoch text = (epoch ≡ Int (pos (row_epoch epoch))) × (text ≡ Words (bytes text))

-- what a row of a table says: its columns are the epoch, one that the epoch stands for, and the text
abbrev pub entry_of : Row → Entry
entry_of row = entry_in (column row 0) (column row 2)

-- the row says an epoch and a text
abbrev pub IsEntryRow : Row → Type 0
IsEntryRow row = IsEntryIn (column row 0) (column row 2)

-- the rows of a table, put in order, say these entries
pub record AreEntries (rows : List Row) (entries : List Entry) : Type 0 where
  pub say : All IsEntryRow rows
  pub same : IsPermutation (map entry_of rows) entries
  pub rise : AreRising entries

-- the database has this first map and these changes
pub record StandsFor (db : Trees) (t : Texts) : Type 0 where
  pub first : AreEntries (db 1) (t.first ∷ [])
  pub changes : AreEntries (db 0) t.changes

-- the same of a row that a question shows: an epoch and a text
abbrev pub entry_shown : Row → Entry
entry_shown row = entry_in (column row 0) (column row 1)

-- the row shows an entry: a whole number and a text
abbrev pub IsEntryShown : Row → Type 0
IsEntryShown row = IsEntryIn (column row 0) (column row 1)
