-- Values as they come from the tokens of a text (RFC 8259).
use Rattle.std.specs.Prelude.{◌≡◌, ◌++◌, Bool, true, false, List, [], ◌∷◌, ◌⊎◌, ℕ, length, Option, Some, None, option_and_then, Result, MatchResult, option_map, if◌then◌else◌}
use Rattle.serde_json.specs.Find.{get_member}
use Rattle.json.specs.Token.{Token}
use Rattle.json.specs.Json.{value, items, members, parse_map, if_last}
use Rattle.serde_json.specs.Data.{Data, Items, no_items, item, Members, no_members}
use Rattle.serde_json.specs.Read.{of_json, of_items, of_members, converted, max_depth}
use Rattle.refusal.specs.declared.refused.Refusal.{Refusal}
use Rattle.refusal.specs.declared.refused.Refusal.TheVariants.{BadJson, Memory as OutOfMemory}

-- the value that comes next, nested no deeper than the number, and the tokens behind it
abbrev pub next : ℕ → List Token → Option (Data × List Token)
next depth ts = converted of_json (value depth ts)

-- the values up to the bracket that closes a list, and the tokens behind it
abbrev pub rest_of_list : ℕ → List Token → Option (Items × List Token)
rest_of_list depth ts = converted of_items (items (value depth) (length ts) ts)

-- the members up to the bracket that closes an object, and the tokens behind it
abbrev pub rest_of_object : ℕ → List Token → Option (Members × List Token)
rest_of_object depth ts = converted (λ ms. of_members ms no_members) (members (value depth) (length ts) ts)

-- a call takes this off the tokens and leaves those behind it; or no such thing comes, or memory runs out
abbrev pub TakesValue : {X : Type 0} → Option (X × List Token) → Result X Refusal → List Token → Type 0
TakesValue there r left =
    MatchResult r (λ x. there ≡ Some (x, left)) (λ e. (e ≡ OutOfMemory) ⊎ ((e ≡ BadJson) × (there ≡ None)))

-- the same of a call that takes no memory
abbrev pub TakesPlain : {X : Type 0} → Option (X × List Token) → Result X Refusal → List Token → Type 0
TakesPlain there r left = MatchResult r (λ x. there ≡ Some (x, left)) (λ e. (e ≡ BadJson) × (there ≡ None))

-- the tokens behind what was read
abbrev pub tokens_left : {A : Type 0} → Option (A × List Token) → Option (List Token)
tokens_left read = option_map (λ p. p.1) read

-- a call passes this; or no such thing comes
abbrev pub StepsOver : {U X : Type 0} → Option (X × List Token) → Result U Refusal → List Token → Type 0
StepsOver there r rest = MatchResult r (λ _. tokens_left there ≡ Some rest) (λ e. (e ≡ BadJson) × (there ≡ None))

-- what the value of a member states, where the member is there
abbrev pub member_slot : {X : Type 0} → (Data → Option X) → List ℕ → Members → Option (Option X)
member_slot stated key ms = option_map stated (get_member key ms)

-- what a member states, which has to be there
abbrev pub flat : {X : Type 0} → Option (Option X) → Option X
flat None = None
flat (Some x) = x

-- the list that a member states, which is empty where the member is missing
abbrev pub or_empty : {X : Type 0} → Option (Option (List X)) → Option (List X)
or_empty None = Some []
or_empty (Some xs) = xs

-- what a member states, where it is there
abbrev pub if_there : {X : Type 0} → Option (Option X) → Option (Option X)
if_there None = Some None
if_there (Some x) = option_map (λ y. Some y) x

-- the digits of a token that is a number
abbrev pub token_number : Token → Option (List ℕ)
token_number Token.begin_object = None
token_number Token.end_object = None
token_number Token.begin_array = None
token_number Token.end_array = None
token_number (Token.key s) = None
token_number (Token.string s) = None
token_number (Token.number s) = Some s
token_number (Token.boolean b) = None
token_number Token.null = None
token_number Token.bad = None

-- the text of a token that is a string
abbrev pub token_text : Token → Option (List ℕ)
token_text Token.begin_object = None
token_text Token.end_object = None
token_text Token.begin_array = None
token_text Token.end_array = None
token_text (Token.key s) = None
token_text (Token.string s) = Some s
token_text (Token.number s) = None
token_text (Token.boolean b) = None
token_text Token.null = None
token_text Token.bad = None

-- the value of a token that is true or false
abbrev pub token_flag : Token → Option Bool
token_flag Token.begin_object = None
token_flag Token.end_object = None
token_flag Token.begin_array = None
token_flag Token.end_array = None
token_flag (Token.key s) = None
token_flag (Token.string s) = None
token_flag (Token.number s) = None
token_flag (Token.boolean b) = Some b
token_flag Token.null = None
token_flag Token.bad = None

-- with one entry more, where there is one
abbrev pub added : {X : Type 0} → Option (List X) → Option X → Option (List X)
added found entry = option_and_then (λ xs. option_map (λ x. xs ++ x ∷ []) entry) found

-- a token that opens a list
abbrev pub opens_list : Token → Bool
opens_list Token.begin_object = false
opens_list Token.end_object = false
opens_list Token.begin_array = true
opens_list Token.end_array = false
opens_list (Token.key s) = false
opens_list (Token.string s) = false
opens_list (Token.number s) = false
opens_list (Token.boolean b) = false
opens_list Token.null = false
opens_list Token.bad = false

-- a token that opens an object
abbrev pub opens_object : Token → Bool
opens_object Token.begin_object = true
opens_object Token.end_object = false
opens_object Token.begin_array = false
opens_object Token.end_array = false
opens_object (Token.key s) = false
opens_object (Token.string s) = false
opens_object (Token.number s) = false
opens_object (Token.boolean b) = false
opens_object Token.null = false
opens_object Token.bad = false

-- what a call reads of a list: the value that comes and what is left, or no value at its end
abbrev pub ReadsEntry : {X : Type 0} → (Data → Option X) → ℕ → List Token → Option (Option X) → List Token → Type 0
ReadsEntry stated depth ts None rest = rest_of_list depth ts ≡ Some (no_items, rest)
ReadsEntry stated depth ts (Some x) rest =
    (d : Data) × (stated d ≡ x) × (rest_of_list depth ts ≡ parse_map (item d) (rest_of_list depth rest))

-- two values, where both state something and no more come
abbrev pub pair_if : {X Y : Type 0} → Bool → Option X → Option Y → Option (X × Y)
pair_if over first second =
    if over then option_and_then (λ x. option_and_then (λ y. Some (x, y)) second) first else None

-- the same of three
abbrev pub triple_if : {X Y Z : Type 0} → Bool → Option X → Option Y → Option Z → Option (X × Y × Z)
triple_if over first second third =
    if over then option_and_then (λ x. option_and_then (λ y. option_and_then (λ z. Some (x, y, z)) third) second) first
    else None

-- the value that some tokens are
abbrev pub document : List Token → Option Data
document ts = option_and_then of_json (option_and_then (λ p. if_last p.0 p.1) (value max_depth ts))
