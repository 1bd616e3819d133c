-- Values whose compact text is read back: integers of 64 bits, texts of ASCII, and keys in order.
use Rattle.std.proofs.Common.{◌≡◌, ℕ, suc, ◌^◌, ◌<◌, ◌≤◌, max, pos, negsuc, Bool, true, false, decimal, [], ◌∷◌, Some, option_map, option_and_then, IsUtf8, refl, sym, ap, ap₂, ◌∙◌, arith, append-nil}
use Rattle.std.specs.Prelude.{⊤}
use Rattle.std.proofs.lemmas.Fmt.{IsAscii-decimal}
use Rattle.std.proofs.lemmas.Str.{IsUtf8-append, IsUtf8-from_ascii}
use Rattle.json.specs.Json as json
use Rattle.json.specs.Lex.{tokens}
use Rattle.json.specs.Tree as tree
use Rattle.json.proofs.Printed.Decimals.{IsNumber-decimal, IsNumber-signed_decimal}
use Rattle.json.proofs.Printed.Tokens.{tokens-print}
use Rattle.json.proofs.Printed.Trees.{value-json_tokens, ArePrintable-json_tokens}
use Rattle.json.proofs.Printed.Utf8.{are_ascii, IsUtf8-are_ascii, IsUtf8-boolean, IsUtf8-quoted}
use Rattle.serde_json.specs.Data.{Num, unsigned, negative, float, Data, null, boolean, number, string, array, object, Items, no_items, item, Members, no_members, member, put, depth, items_depth, members_depth}
use Rattle.serde_json.specs.Read.{read, max_depth, of_json, of_items, of_members}
use Rattle.serde_json.specs.Written.{outline, items_outline, members_outline, comma_if, compact_text, items_text, members_text, number_text}
use Rattle.serde_json.proofs.Numbers.{number_of-decimal, number_of-negative}
use Rattle.serde_json.proofs.Texts.{print-outline}

-- an integer of 64 bits
abbrev pub IsWide : Num → Type 0
IsWide (unsigned n) = n < 2 ^ 64
IsWide (negative (pos n)) = ⊥
IsWide (negative (negsuc n)) = n < 2 ^ 63
IsWide (float x) = ⊥

-- members put in one after another behind those found
abbrev pub built : Members → Members → Members
built found no_members = found
built found (member k d ms) = built (put k d found) ms

abbrev mutual
  -- a value whose numbers are integers of 64 bits, whose texts are ASCII, and whose members stand in the order of their keys
  pub IsReadable : Data → Type 0
  IsReadable null = ⊤
  IsReadable (boolean b) = ⊤
  IsReadable (number n) = IsWide n
  IsReadable (string s) = are_ascii s ≡ true
  IsReadable (array ds) = ItemsReadable ds
  IsReadable (object ms) = MembersReadable ms × (built no_members ms ≡ ms)

  -- the same of each value of a list
  pub ItemsReadable : Items → Type 0
  ItemsReadable no_items = ⊤
  ItemsReadable (item d ds) = IsReadable d × ItemsReadable ds

  -- the same of each member of an object
  pub MembersReadable : Members → Type 0
  MembersReadable no_members = ⊤
  MembersReadable (member k d ms) = (are_ascii k ≡ true) × IsReadable d × MembersReadable ms

-- ---- the value of the JSON

mutual
  -- what is written of a readable value is converted back to it
  of_json-outline : (d : Data) → IsReadable d → of_json (outline d) ≡ Some d
  of_json-outline null h = refl
  of_json-outline (boolean b) h = refl
  of_json-outline (number (unsigned n)) h = ap (option_map number) (number_of-decimal n h)
  of_json-outline (number (negative (pos n))) h = absurd h
  of_json-outline (number (negative (negsuc n))) h = ap (option_map number) (number_of-negative n (omega arith))
  of_json-outline (number (float x)) h = absurd h
  of_json-outline (string s) h = refl
  of_json-outline (array ds) h = ap (option_map array) (of_items-outline ds h)
  of_json-outline (object ms) h = ap (option_map object) (of_members-outline ms no_members h.0 ∙ ap Some h.1)

  -- the same of the values of a list
  of_items-outline : (ds : Items) → ItemsReadable ds → of_items (items_outline ds) ≡ Some ds
  of_items-outline no_items h = refl
  of_items-outline (item d ds) h = rw (of_json-outline d h.0, of_items-outline ds h.1)

  -- the same of the members of an object, behind those found before
  of_members-outline : (ms found : Members) → MembersReadable ms → of_members (members_outline ms) found ≡ Some (built found ms)
  of_members-outline no_members found h = refl
  of_members-outline (member k d ms) found h = rw (of_json-outline d h.1) (of_members-outline ms (put k d found) h.2)

-- ---- the tokens

mutual
  -- each number that is written of a readable value is a number of JSON
  HasNumbers-outline : (d : Data) → IsReadable d → tree.HasNumbers (outline d)
  HasNumbers-outline null h = tt
  HasNumbers-outline (boolean b) h = tt
  HasNumbers-outline (number (unsigned n)) h = IsNumber-decimal n h
  HasNumbers-outline (number (negative (pos n))) h = absurd h
  HasNumbers-outline (number (negative (negsuc n))) h = IsNumber-signed_decimal (negsuc n) h
  HasNumbers-outline (number (float x)) h = absurd h
  HasNumbers-outline (string s) h = tt
  HasNumbers-outline (array ds) h = ItemsHaveNumbers-outline ds h
  HasNumbers-outline (object ms) h = MembersHaveNumbers-outline ms h.0

  -- the same of the values of a list
  ItemsHaveNumbers-outline : (ds : Items) → ItemsReadable ds → tree.ItemsHaveNumbers (items_outline ds)
  ItemsHaveNumbers-outline no_items h = tt
  ItemsHaveNumbers-outline (item d ds) h = (HasNumbers-outline d h.0, ItemsHaveNumbers-outline ds h.1)

  -- the same of the members of an object
  MembersHaveNumbers-outline : (ms : Members) → MembersReadable ms → tree.MembersHaveNumbers (members_outline ms)
  MembersHaveNumbers-outline no_members h = tt
  MembersHaveNumbers-outline (member k d ms) h = (HasNumbers-outline d h.1, MembersHaveNumbers-outline ms h.2)

mutual
  -- what is written of a value nests as deep as the value
  pub depth-outline : (d : Data) → tree.depth (outline d) ≡ depth d
  depth-outline null = refl
  depth-outline (boolean b) = refl
  depth-outline (number n) = refl
  depth-outline (string s) = refl
  depth-outline (array ds) = ap suc (items_depth-outline ds)
  depth-outline (object ms) = ap suc (members_depth-outline ms)

  -- the same of the values of a list
  items_depth-outline : (ds : Items) → tree.items_depth (items_outline ds) ≡ items_depth ds
  items_depth-outline no_items = refl
  items_depth-outline (item d ds) = ap₂ max (depth-outline d) (items_depth-outline ds)

  -- the same of the members of an object
  members_depth-outline : (ms : Members) → tree.members_depth (members_outline ms) ≡ members_depth ms
  members_depth-outline no_members = refl
  members_depth-outline (member k d ms) = ap₂ max (depth-outline d) (members_depth-outline ms)

-- the tokens of the compact text of a readable value are those of its outline
tokens-compact_text : (d : Data) → IsReadable d → tokens (compact_text d) ≡ tree.json_tokens (outline d)
tokens-compact_text d h = ap tokens (sym (print-outline d)) ∙ tokens-print _ (ArePrintable-json_tokens (outline d) (HasNumbers-outline d h))

-- the compact text of a readable value reads back as that value
pub read-compact_text : (d : Data) → IsReadable d → depth d ≤ max_depth → read (compact_text d) ≡ Some d
read-compact_text d h shallow =
    let deep : tree.depth (outline d) ≤ max_depth = omega (arith, depth-outline d) in
    ap (λ o. option_and_then of_json (option_and_then (λ p. json.if_last p.0 p.1) o))
    (ap (json.value max_depth) (tokens-compact_text d h ∙ sym (append-nil _)) ∙ value-json_tokens (outline d) max_depth [] deep)
    ∙ of_json-outline d h

-- ---- the bytes

-- decimal digits are UTF-8
IsUtf8-decimal : (n : ℕ) → n < 2 ^ 64 → IsUtf8 (decimal n)
IsUtf8-decimal n h = IsUtf8-from_ascii _ (IsAscii-decimal n h)

-- the text of a number is UTF-8
IsUtf8-number : (n : Num) → IsWide n → IsUtf8 (number_text n)
IsUtf8-number (unsigned n) h = IsUtf8-decimal n h
IsUtf8-number (negative (pos n)) h = absurd h
IsUtf8-number (negative (negsuc n)) h = IsUtf8-append (45 ∷ []) (decimal (suc n)) (IsUtf8-are_ascii _ refl) (IsUtf8-decimal (suc n) (omega arith))
IsUtf8-number (float x) h = absurd h

-- a comma, or none, is UTF-8
IsUtf8-comma_if : (later : Bool) → IsUtf8 (comma_if later)
IsUtf8-comma_if true = IsUtf8-are_ascii _ refl
IsUtf8-comma_if false = IsUtf8-are_ascii _ refl

mutual
  -- the compact text of a readable value is UTF-8
  pub IsUtf8-compact_text : (d : Data) → IsReadable d → IsUtf8 (compact_text d)
  IsUtf8-compact_text null h = IsUtf8-are_ascii _ refl
  IsUtf8-compact_text (boolean b) h = IsUtf8-boolean b
  IsUtf8-compact_text (number n) h = IsUtf8-number n h
  IsUtf8-compact_text (string s) h = IsUtf8-quoted s (IsUtf8-are_ascii s h)
  IsUtf8-compact_text (array ds) h = IsUtf8-append (91 ∷ []) _ (IsUtf8-are_ascii _ refl) (IsUtf8-items_text false ds h)
  IsUtf8-compact_text (object ms) h = IsUtf8-append (123 ∷ []) _ (IsUtf8-are_ascii _ refl) (IsUtf8-members_text false ms h.0)

  -- the same of the values of a list
  IsUtf8-items_text : (later : Bool) (ds : Items) → ItemsReadable ds → IsUtf8 (items_text later ds)
  IsUtf8-items_text later no_items h = IsUtf8-are_ascii _ refl
  IsUtf8-items_text later (item d ds) h =
      IsUtf8-append _ _ (IsUtf8-comma_if later) (IsUtf8-append _ _ (IsUtf8-compact_text d h.0) (IsUtf8-items_text true ds h.1))

  -- the same of the members of an object
  IsUtf8-members_text : (later : Bool) (ms : Members) → MembersReadable ms → IsUtf8 (members_text later ms)
  IsUtf8-members_text later no_members h = IsUtf8-are_ascii _ refl
  IsUtf8-members_text later (member k d ms) h =
      let value = IsUtf8-append _ _ (IsUtf8-compact_text d h.1) (IsUtf8-members_text true ms h.2) in
      IsUtf8-append _ _ (IsUtf8-comma_if later) (IsUtf8-append _ _ (IsUtf8-quoted k (IsUtf8-are_ascii k h.0)) (IsUtf8-append (58 ∷ []) _ (IsUtf8-are_ascii _ refl) value))
