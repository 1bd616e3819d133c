-- What the two questions show.
use Rattle.std.proofs.Common.{◌≡◌, ℕ, pos, negsuc, List, [], ◌∷◌, map, codes, All, false, None, Err, refl, sym, ap, subst, subst₂, ◌∙◌}
use Rattle.std.specs.List.Sorted.{IsPermutation}
use Rattle.std.specs.List.{AllByRecursion, flat_map}
use Rattle.std.proofs.lemmas.List.Sorted.{IsPermutation-map, IsPermutation-sym, All-permutation}
use Rattle.std.proofs.lemmas.List.Elements.{All-from_recursion, recursion_from_All}
use Rattle.std.proofs.lemmas.List.Concat.{flat_map_single}
use Rattle.sqlite.specs.declared.types.Value.TheVariants.{Null, Int}
use Rattle.sqlite.specs.Order.{Row, column}
use Rattle.sqlite.specs.Term.{Term, lit, col}
use Rattle.sqlite.specs.Query.{Query, inner, end, IsAnswer, output, Output}
use Rattle.sqlite.specs.Collation.TheVariants.{Binary}
use Rattle.sqlite_value.specs.Keys.{ascending}
use Rattle.sqlite_value.specs.declared.keys.Key.{Key}
use Rattle.sqlite.specs.Command.TheVariants.{Select}
use Rattle.sqlite.specs.Schema.{Schema}
use Rattle.sqlite.specs.Tree.{Trees}
use Rattle.sqlite_resolve.specs.declared.error.CompileError.{CompileError}
use Rattle.sqlite_tied.specs.Compute.{everything}
use Rattle.sqlite.specs.Program.{overlay}
use Rattle.sqlite.specs.Listing.{listing_schema, understood, reads_listing}
use Rattle.sqlite.specs.State.{State, Shown, ShowsRows, IsUnchanged}
use Rattle.sqlite.specs.Clock.{timed}
use Rattle.sqlite.proofs.Callers.{IsPlain, command_of, reads_as}
use Rattle.journalstore.specs.Tables.{Form, bare, noted, IsOfStore, schema_of, changes_text, map_text, about_text}
use Rattle.sqlite.specs.Effect.{Database}
use Rattle.journalstore.specs.declared.reading.StoredText.{StoredText}
use Rattle.journalstore.specs.Texts.{Entry, entry_of, IsEntryRow, entry_shown, IsEntryShown, AreRising, AreEntries}
use Rattle.journalstore.specs.Read.{entry_read}

-- the question for the entries of a table, in an order
abbrev query_of : ℕ → List (Term × Key) → Query
query_of t order = record {
  from = inner t end;
  filter = [];
  group = None;
  project = col 1 0 ∷ col 1 2 ∷ [];
  distinct = false;
  collations = [];
  order = order;
  limit = lit (Int (negsuc 0));
  offset = lit (Int (pos 0));
}

abbrev changes_query : Query
changes_query = query_of 0 ((col 1 0, ascending Binary) ∷ [])

abbrev map_query : Query
map_query = query_of 1 []

-- the question for the changes is read as that of the journal by epoch, and names no table that is missing
changes_is : (f : Form)
    → (command_of (understood (schema_of f) changes_text) ≡ Select (record { lets = []; body = changes_query }) (codes "epoch" ∷ codes "change" ∷ [])) × (reads_listing (schema_of f) changes_text ≡ false)
unfolding understood everything
changes_is bare = (refl, refl)
changes_is noted = (refl, refl)

-- the question for the first map is read as that of its table, and names no table that is missing
map_is : (f : Form)
    → (command_of (understood (schema_of f) map_text) ≡ Select (record { lets = []; body = map_query }) (codes "epoch" ∷ codes "text" ∷ [])) × (reads_listing (schema_of f) map_text ≡ false)
unfolding understood everything
map_is bare = (refl, refl)
map_is noted = (refl, refl)

-- the question for the changes has no RETURNING, and does not read the time
changes_plain : (f : Form) → IsPlain (understood (schema_of f) changes_text)
unfolding understood everything
changes_plain bare = (refl, refl)
changes_plain noted = (refl, refl)

-- so it is under the schema of a store
pub plain_changes : (s : Schema) → IsOfStore s → IsPlain (understood s changes_text)
plain_changes s of = subst (λ d. IsPlain (understood d changes_text)) (sym of.1) (changes_plain of.0)

-- nor has the question for the first map a RETURNING, and it does not read the time
map_plain : (f : Form) → IsPlain (understood (schema_of f) map_text)
unfolding understood everything
map_plain bare = (refl, refl)
map_plain noted = (refl, refl)

-- the same under the schema of a store
pub plain_map : (s : Schema) → IsOfStore s → IsPlain (understood s map_text)
plain_map s of = subst (λ d. IsPlain (understood d map_text)) (sym of.1) (map_plain of.0)

-- nor has the question for what a store notes of itself
about_plain : IsPlain (understood (schema_of noted) about_text)
unfolding understood everything
about_plain = (refl, refl)

-- which is refused where there is no place for it
about_none : (e : CompileError) × (understood (schema_of bare) about_text ≡ Err e)
unfolding understood listing_schema everything
about_none = (_, refl)

-- the columns that the questions show of a row
abbrev pub shown_of : Row → Row
shown_of row = column row 0 ∷ column row 2 ∷ []

module _ (t : ℕ) (order : List (Term × Key)) (db : Trees) where
  -- of each row the question puts out the epoch and the text
  outputs : (rows : List Row) → map (λ (o : Output). o.1) (map (output (query_of t order)) (map (λ (row : Row). [] ∷ row ∷ []) rows)) ≡ map shown_of rows
  outputs [] = refl
  outputs (row ∷ rows) = ap (λ others. shown_of row ∷ others) (outputs rows)

  -- an answer has each row of the table once
  answered : (rows : List Row) → overlay db [] t ≡ db t → IsAnswer (query_of t order) (overlay db []) [] rows → IsPermutation (map shown_of (db t)) rows
  answered rows here a =
      let envs : a.staged ≡ map (λ (row : Row). [] ∷ row ∷ []) (db t) = a.grouped ∙ ap (flat_map (λ (row : Row). ([] ∷ row ∷ []) ∷ [])) here ∙ flat_map_single (λ (row : Row). [] ∷ row ∷ []) (db t) in
      let kept : map (λ (o : Output). o.1) a.kept ≡ map shown_of (db t) = ap (map (λ (o : Output). o.1)) (a.distinct ∙ ap (map (output (query_of t order))) envs) ∙ outputs (db t) in
      subst₂ IsPermutation kept (sym a.shown) (IsPermutation-map (λ (o : Output). o.1) a.kept a.ordered a.same)

-- the question for the changes shows each row of the journal once, in some order
pub changes_shown : (old new : State) (rows : List Row) → IsOfStore old.now.schema → Shown changes_text [] old new rows → IsPermutation (map shown_of (old.now.trees 0)) rows
changes_shown old new rows of h =
    answered 0 ((col 1 0, ascending Binary) ∷ []) old.now.trees rows refl ((reads_as changes_text [] old new (schema_of of.0) of.1 _ (changes_is of.0).0 (changes_plain of.0) (changes_is of.0).1 rows h).answer Null)

-- the question for the first map shows each row of its table once, in some order
pub map_shown : (old new : State) (rows : List Row) → IsOfStore old.now.schema → Shown map_text [] old new rows → IsPermutation (map shown_of (old.now.trees 1)) rows
map_shown old new rows of h =
    answered 1 [] old.now.trees rows refl ((reads_as map_text [] old new (schema_of of.0) of.1 _ (map_is of.0).0 (map_plain of.0) (map_is of.0).1 rows h).answer Null)

-- a question without RETURNING leaves the database as it was when it has shown its rows
pub same_shown : (sql : List ℕ) (old new : State) (rows : List Row) → IsPlain (understood old.now.schema sql) → Shown sql [] old new rows → IsUnchanged old new
unfolding Shown
same_shown sql old new rows plain h =
    let none = (subst IsPlain h.1.is plain).0 in
    let it = subst (ShowsRows old new sql h.0 (timed [] h.0.formats h.1.now) rows) none h.2 in it.3

-- the question for what a store notes of itself leaves the database as it was
about_same_in : (f : Form) (old new : State) (rows : List Row) → old.now.schema ≡ schema_of f → Shown about_text [] old new rows → IsUnchanged old new
unfolding Shown
about_same_in bare old new rows has h = absurd (let wrong = sym h.1.is ∙ ap (λ s. understood s about_text) has ∙ about_none.1 in cc)
about_same_in noted old new rows has h = same_shown about_text old new rows (subst (λ s. IsPlain (understood s about_text)) (sym has) about_plain) h

-- so it does in a store of either form
pub about_same : (old new : State) (rows : List Row) → IsOfStore old.now.schema → Shown about_text [] old new rows → IsUnchanged old new
about_same old new rows of h = about_same_in of.0 old new rows of.1 h

-- rows of which epochs and texts are shown say an epoch and a text each
unmapped : (rows : List Row) → AllByRecursion IsEntryShown (map shown_of rows) → AllByRecursion IsEntryRow rows
unmapped [] h = tt
unmapped (row ∷ rows) h = (h.0, unmapped rows h.1)

-- what is shown of rows says what the rows say
entries_shown : (rows : List Row) → map entry_shown (map shown_of rows) ≡ map entry_of rows
entries_shown [] = refl
entries_shown (row ∷ rows) = ap (λ es. entry_of row ∷ es) (entries_shown rows)

-- rows that are shown in some order say what the rows of the table say
entries_from : (rows shown : List Row) (es : List Entry) → IsPermutation (map shown_of rows) shown → (es ≡ map entry_shown shown) × All IsEntryShown shown × AreRising es → AreEntries rows es
entries_from rows shown es same read =
    let back = IsPermutation-sym (map shown_of rows) shown same in record {
      say = All-from_recursion IsEntryRow rows (unmapped rows (recursion_from_All IsEntryShown (map shown_of rows) (All-permutation IsEntryShown shown (map shown_of rows) back read.1)));
      same = subst₂ IsPermutation (entries_shown rows) (sym read.0) (IsPermutation-map entry_shown (map shown_of rows) shown same);
      rise = read.2;
    }

module _ (old new : State) (schema : IsOfStore old.now.schema) (shown : List Row) (ts : List StoredText) (read : (map entry_read ts ≡ map entry_shown shown) × All IsEntryShown shown × AreRising (map entry_read ts)) where
  abbrev Entries : ℕ → Type 0
  Entries t = AreEntries (new.now.trees t) (map entry_read ts) × IsUnchanged old new

  -- where a question showed each row of a table once and changed nothing, the table says what was read
  entries_now : (t : ℕ) → IsUnchanged old new → IsPermutation (map shown_of (old.now.trees t)) shown → Entries t
  entries_now t same all = (subst (λ (d : Database). AreEntries (d.trees t) (map entry_read ts)) (sym same.0.now_is) (entries_from (old.now.trees t) shown (map entry_read ts) all read), same)

  -- so the table of the first map says what was read of its question
  pub maps_read : Shown map_text [] old new shown → Entries 1
  maps_read h = entries_now 1 (same_shown map_text old new shown (plain_map old.now.schema schema) h) (map_shown old new shown schema h)

  -- and the journal what was read of the question for the changes
  pub changes_read : Shown changes_text [] old new shown → Entries 0
  changes_read h = entries_now 0 (same_shown changes_text old new shown (plain_changes old.now.schema schema) h) (changes_shown old new shown schema h)
