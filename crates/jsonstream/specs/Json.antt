-- What a JSON value states: numbers, words, lists, and objects with the keys that they may have (RFC 8259).
use Rattle.std.specs.Prelude.{◌≡◌, ℕ, suc, ℤ, ◌==◌, Bool, false, List, [], ◌∷◌, Result, Ok, Err, MatchResult, ◌⊎◌, Option, Some, None, option_map, option_and_then, if◌then◌else◌}
use Rattle.std.specs.List.{list_all, list_any}
use Rattle.std.specs.Option.{option_map_or}
use Rattle.std.specs.Str.{bytes_eq, is_utf8}
use Rattle.serde_json.specs.Data.{Data, Items, no_items, item, Members, no_members, member}
use Rattle.serde_json.specs.Find.{at, as_number, as_integer, as_array}
use Rattle.serde_json.specs.Read.{read}
use Rattle.refusal.specs.declared.refused.Refusal.{Refusal}
use Rattle.refusal.specs.declared.refused.Refusal.TheVariants.{BadJson, BadField, Memory as OutOfMemory}

-- what is made of a value, where there is one
infixl 10 ◌>>=◌
abbrev pub ◌>>=◌ : {A B : Type 0} → Option A → (A → Option B) → Option B
o >>= f = option_and_then f o

-- ---- values

-- a whole number from -2^63 to 2^64 - 1; one with a fraction or an exponent is none, nor is -0
abbrev pub whole_number : Data → Option ℤ
whole_number d = option_and_then as_integer (as_number d)

-- each value of a list, by what states one
abbrev pub entries_of : {X : Type 0} → (Data → Option X) → Items → Option (List X)
entries_of stated no_items = Some []
entries_of stated (item d ds) = option_and_then (λ x. option_map (λ xs. x ∷ xs) (entries_of stated ds)) (stated d)

-- a list, by what states each of its values
abbrev pub stated_list : {X : Type 0} → (Data → Option X) → Data → Option (List X)
stated_list stated d = option_and_then (entries_of stated) (as_array d)

-- ---- lists of a fixed form

-- how many values a list has
abbrev pub item_count : Items → ℕ
item_count no_items = 0
item_count (item d ds) = suc (item_count ds)

-- a list of this many values
abbrev pub has_count : ℕ → Data → Bool
has_count n d = option_map_or (λ ds. item_count ds == n) (as_array d) false

-- the value at a place of a list
abbrev pub place : {X : Type 0} → (Data → Option X) → ℕ → Data → Option X
place stated i d = option_and_then stated (at i d)

-- a list of two values, by what states each
abbrev pub both_of : {X Y : Type 0} → (Data → Option X) → (Data → Option Y) → Data → Option (X × Y)
both_of first second d = if has_count 2 d then (do
  x ← place first 0 d
  y ← place second 1 d
  Some (x, y)) else None

-- a list of three values, by what states each
abbrev pub three_of : {X Y Z : Type 0} → (Data → Option X) → (Data → Option Y) → (Data → Option Z) → Data
    → Option (X × Y × Z)
three_of first second third d = if has_count 3 d then (do
  x ← place first 0 d
  y ← place second 1 d
  z ← place third 2 d
  Some (x, y, z)) else None

-- ---- objects

-- the keys of an object
abbrev pub keys_of : Members → List (List ℕ)
keys_of no_members = []
keys_of (member k d ms) = k ∷ keys_of ms

-- each key is among these names
abbrev pub has_only_keys : List (List ℕ) → Members → Bool
has_only_keys names ms = list_all (λ k. list_any (bytes_eq k) names) (keys_of ms)

-- ---- texts

-- the value of a text in UTF-8, nested no deeper than 127
abbrev pub json_of : List ℕ → Option Data
json_of bytes = if is_utf8 bytes then read bytes else None

-- what a text states; or BadJson where it is no JSON, and BadField where its value states nothing
abbrev pub stated_by : {X : Type 0} → (Data → Option X) → List ℕ → Result X Refusal
stated_by stated bytes =
    option_map_or (λ d. option_map_or (λ x. Ok x) (stated d) (Err BadField)) (json_of bytes) (Err BadJson)

-- ---- outcomes

-- a call answers exactly this, or `Memory`
abbrev pub Answers : {X : Type 0} → Result X Refusal → Result X Refusal → Type 0
Answers r s = MatchResult r (λ x. s ≡ Ok x) (λ e. (e ≡ OutOfMemory) ⊎ (s ≡ Err e))
