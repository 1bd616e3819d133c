-- The tables of a store in its two forms, and the statements on them.
use Rattle.std.specs.Prelude.{◌≡◌, true, false, Bool, [], ◌∷◌, Some, codes, List, ℕ, ℤ}
use Rattle.sqlite.specs.Collation.TheVariants.{Binary}
use Rattle.sqlite.specs.declared.types.Value.TheVariants.{Null, Int, Text as Words}
use Rattle.sqlite.specs.Order.{Row}
use Rattle.sqlite.specs.Table.{Table}
use Rattle.sqlite.specs.Schema.{Schema}
use Rattle.sqlite.specs.Kind.{Kind}
use Rattle.sqlite.specs.Kind.TheVariants.{Integer, Text}
use Rattle.sqlite_schema.specs.declared.schema.Column.{Column}

-- a column of a STRICT table with no default
abbrev pub column_of : List ℕ → Kind → Bool → Column
column_of name kind not_null = record {
  name = name;
  kind = kind;
  is_strict = true;
  not_null = not_null;
  default = Null;
  collation = Binary;
}

-- the forms of a store's file: with its texts alone, or with what it notes of itself, too
pub data Form : Type 0 where
  bare : Form
  noted : Form

-- a file of this form has what it notes of itself
abbrev pub is_noted : Form → Bool
is_noted bare = false
is_noted noted = true

-- a table whose first column is the rowid, and which has no rules but those of its columns
abbrev pub table_of : List ℕ → ℕ → List Column → Table
table_of name tree columns = record {
  name = name;
  tree = tree;
  columns = columns;
  key = Some 0;
  primary = 0 ∷ [];
  uniques = [];
  orders = [];
  checks = [];
  references = [];
  computed = [];
  stamps = record { places = []; terms = []; formats = [] };
  is_counted = false;
}

-- a column of whole numbers that is the rowid; one of whole numbers that none may lack; and such a one of texts
abbrev pub key_column : List ℕ → Column
key_column name = column_of name Integer false

-- a column of whole numbers, none of which is missing
abbrev pub number_column : List ℕ → Column
number_column name = column_of name Integer true

-- a column of texts, none of which is missing
abbrev pub text_column : List ℕ → Column
text_column name = column_of name Text true

-- an epoch and a text
abbrev pub text_columns : List ℕ → List Column
text_columns text = key_column (codes "epoch") ∷ text_column text ∷ []

-- the table of the changes
abbrev pub journal_table : Table
journal_table = table_of (codes "journal") 0 (text_columns (codes "change"))

-- the table of the first map
abbrev pub map_table : Table
map_table = table_of (codes "map") 1 (text_columns (codes "text"))

-- the table of what is noted of the store: the number of its life, and how many changes a start leaves
abbrev pub about_table : Table
about_table = table_of (codes "store") 2 (key_column (codes "life") ∷ number_column (codes "keep") ∷ [])

-- the tables of a form
abbrev pub form_tables : Form → List Table
form_tables bare = journal_table ∷ map_table ∷ []
form_tables noted = journal_table ∷ map_table ∷ about_table ∷ []

-- the tables, and nothing else
abbrev pub schema_of : Form → Schema
schema_of f = record { tables = form_tables f; indexes = []; views = [] }

-- a schema is that of a store
abbrev pub IsOfStore : Schema → Type 0
IsOfStore schema = (f : Form) × (schema ≡ schema_of f)

-- the row of an epoch and a text
abbrev pub stored_row : ℤ → List ℕ → Row
stored_row epoch text = Int epoch ∷ Null ∷ Words text ∷ []

-- the statement of an append
abbrev pub insert_text : List ℕ
insert_text = codes "INSERT INTO journal (epoch, change) VALUES (?1, ?2)"

-- the question for the changes
abbrev pub changes_text : List ℕ
changes_text = codes "SELECT epoch, change FROM journal ORDER BY epoch"

-- the question for the first map
abbrev pub map_text : List ℕ
map_text = codes "SELECT epoch, text FROM map"

-- the question for what the store notes of itself
abbrev pub about_text : List ℕ
about_text = codes "SELECT life, keep FROM store"

-- the statements of a checkpoint
abbrev pub delete_text : List ℕ
delete_text = codes "DELETE FROM journal WHERE epoch <= ?1"

-- the statement that deletes the first map
abbrev pub clear_text : List ℕ
clear_text = codes "DELETE FROM map"

-- the statement that inserts the new first map
abbrev pub map_insert_text : List ℕ
map_insert_text = codes "INSERT INTO map (epoch, text) VALUES (?1, ?2)"

-- the one that notes of the store what is told
abbrev pub about_update_text : List ℕ
about_update_text = codes "UPDATE store SET life = ?1, keep = ?2"
