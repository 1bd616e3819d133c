-- The first token of a value tells what kind of value it is.
use Rattle.std.proofs.Common.{◌≡◌, ℕ, Bool, true, false, List, [], ◌∷◌, Option, Some, None, option_map, refl, sym, ap, ◌∙◌}
use Rattle.json.specs.Token.{Token}
use Rattle.json.specs.Json as json
use Rattle.json.specs.Json.{Parse, value, value_with, parse_map}
use Rattle.json.proofs.Grammar.{value_is}
use Rattle.serde_json.specs.Data.{Num, Data, null, boolean, number, string, array, object}
use Rattle.serde_json.specs.Read.{number_of, of_json, of_items, of_members, converted}
use Rattle.serde_json.specs.Find.{as_integer, as_bool, as_str, as_array, as_object}
use Rattle.jsonstream.specs.Stream.{next, token_number, token_text, token_flag, opens_list, opens_object}
use Rattle.jsonstream.specs.Json.{whole_number as number_in_data}
use Rattle.jsonstream.proofs.Streams.{converted_some, next_number}

-- the kind of value that a token begins
abbrev token_kind : Token → ℕ
token_kind Token.begin_object = 1
token_kind Token.begin_array = 2
token_kind (Token.string s) = 3
token_kind (Token.number s) = 4
token_kind (Token.boolean b) = 5
token_kind Token.null = 6
token_kind Token.end_object = 0
token_kind Token.end_array = 0
token_kind (Token.key s) = 0
token_kind Token.bad = 0

-- the kind of a value
abbrev data_kind : Data → ℕ
data_kind (object ms) = 1
data_kind (array ds) = 2
data_kind (string s) = 3
data_kind (number n) = 4
data_kind (boolean b) = 5
data_kind null = 6

-- the kind of a value as it is read
abbrev json_kind : json.Json → ℕ
json_kind (json.object ms) = 1
json_kind (json.array ds) = 2
json_kind (json.string s) = 3
json_kind (json.number n) = 4
json_kind (json.boolean b) = 5
json_kind json.null = 6

-- equal values are of one kind
same_data : (e d : Data) → Some e ≡ Some d → data_kind d ≡ data_kind e
same_data e d is = ap (λ o. option_kind o) (sym is) where
  option_kind : Option Data → ℕ
  option_kind None = 0
  option_kind (Some x) = data_kind x

-- what is made of a thing is of the kind that is made
made : {A : Type 0} (f : A → Data) (k : ℕ) → ((a : A) → data_kind (f a) ≡ k) → (o : Option A) (d : Data) → option_map f o ≡ Some d → data_kind d ≡ k
made f k each None d e = absurd (cc)
made f k each (Some a) d e = same_data (f a) d e ∙ each a

-- what is converted is of the kind that was read
converted_kind : (j : json.Json) (d : Data) → of_json j ≡ Some d → data_kind d ≡ json_kind j
converted_kind json.null d e = same_data null d e
converted_kind (json.boolean b) d e = same_data (boolean b) d e
converted_kind (json.number s) d e = made number 4 (λ n. refl) (number_of s) d e
converted_kind (json.string s) d e = same_data (string s) d e
converted_kind (json.array js) d e = made array 2 (λ ds. refl) (of_items js) d e
converted_kind (json.object ms) d e = made object 1 (λ ds. refl) (of_members ms _) d e

-- the kind of a value that was read
abbrev json_kind_of : Option (json.Json × List Token) → ℕ
json_kind_of None = 0
json_kind_of (Some p) = json_kind p.0

-- what is read and made is of the kind that is made
read_made : {A : Type 0} (f : A → json.Json) (k : ℕ) → ((a : A) → json_kind (f a) ≡ k) → (o : Option (A × List Token)) (j : json.Json) (r : List Token) → parse_map f o ≡ Some (j, r) → json_kind j ≡ k
read_made f k each None j r e = absurd (cc)
read_made f k each (Some p) j r e = ap json_kind_of (sym e) ∙ each p.0

-- a value that is read is of the kind of its first token
read_kind : (a : Parse json.Items) (o : Parse json.Members) (t : Token) (ts : List Token) (j : json.Json) (r : List Token) → value_with a o (t ∷ ts) ≡ Some (j, r) → json_kind j ≡ token_kind t
read_kind a o Token.begin_object ts j r e = read_made json.object 1 (λ x. refl) (o ts) j r e
read_kind a o Token.end_object ts j r e = absurd (cc)
read_kind a o Token.begin_array ts j r e = read_made json.array 2 (λ x. refl) (a ts) j r e
read_kind a o Token.end_array ts j r e = absurd (cc)
read_kind a o (Token.key s) ts j r e = absurd (cc)
read_kind a o (Token.string s) ts j r e = ap json_kind_of (sym e)
read_kind a o (Token.number s) ts j r e = ap json_kind_of (sym e)
read_kind a o (Token.boolean b) ts j r e = ap json_kind_of (sym e)
read_kind a o Token.null ts j r e = ap json_kind_of (sym e)
read_kind a o Token.bad ts j r e = absurd (cc)

-- the next value is of the kind of the next token
pub next_kind : (depth : ℕ) (t : Token) (ts : List Token) (d : Data) (r : List Token) → next depth (t ∷ ts) ≡ Some (d, r) → data_kind d ≡ token_kind t
next_kind depth t ts d r e =
    let j = converted_some of_json (value depth (t ∷ ts)) d r e in
    converted_kind j.0 d j.2 ∙ read_kind _ _ t ts j.0 r (sym (value_is depth (t ∷ ts)) ∙ j.1)

-- ---- what a value is not

-- a value of another kind than a number is no number
unlike : (t : Token) (d : Data) → token_number t ≡ None → data_kind d ≡ token_kind t → number_in_data d ≡ None
unlike t null n e = refl
unlike t (boolean b) n e = refl
unlike t (string s) n e = refl
unlike t (array ds) n e = refl
unlike t (object ms) n e = refl
unlike Token.begin_object (number x) n e = absurd (cc)
unlike Token.end_object (number x) n e = absurd (cc)
unlike Token.begin_array (number x) n e = absurd (cc)
unlike Token.end_array (number x) n e = absurd (cc)
unlike (Token.key s) (number x) n e = absurd (cc)
unlike (Token.string s) (number x) n e = absurd (cc)
unlike (Token.number s) (number x) n e = absurd (cc)
unlike (Token.boolean b) (number x) n e = absurd (cc)
unlike Token.null (number x) n e = absurd (cc)
unlike Token.bad (number x) n e = absurd (cc)

-- a value whose first token is no number is none
pub no_number : (depth : ℕ) (t : Token) (ts : List Token) (d : Data) (r : List Token) → token_number t ≡ None → next depth (t ∷ ts) ≡ Some (d, r) → number_in_data d ≡ None
no_number depth t ts d r n e = unlike t d n (next_kind depth t ts d r e)

-- a token that has digits is a number
pub is_number : (t : Token) (s : List ℕ) → token_number t ≡ Some s → t ≡ Token.number s
is_number Token.begin_object s e = absurd (cc)
is_number Token.end_object s e = absurd (cc)
is_number Token.begin_array s e = absurd (cc)
is_number Token.end_array s e = absurd (cc)
is_number (Token.key k) s e = absurd (cc)
is_number (Token.string k) s e = absurd (cc)
is_number (Token.number k) s e = ap (λ o. Token.number (digits o)) e where
  digits : Option (List ℕ) → List ℕ
  digits None = []
  digits (Some x) = x
is_number (Token.boolean b) s e = absurd (cc)
is_number Token.null s e = absurd (cc)
is_number Token.bad s e = absurd (cc)

-- ---- lists and objects
-- a value that does not begin so is none
no_array : (t : Token) (d : Data) → opens_list t ≡ false → data_kind d ≡ token_kind t → as_array d ≡ None
no_array t null n e = refl
no_array t (boolean x) n e = refl
no_array t (number x) n e = refl
no_array t (string x) n e = refl
no_array Token.begin_object (array x) n e = absurd (cc)
no_array Token.end_object (array x) n e = absurd (cc)
no_array Token.begin_array (array x) n e = absurd (cc)
no_array Token.end_array (array x) n e = absurd (cc)
no_array (Token.key s) (array x) n e = absurd (cc)
no_array (Token.string s) (array x) n e = absurd (cc)
no_array (Token.number s) (array x) n e = absurd (cc)
no_array (Token.boolean b) (array x) n e = absurd (cc)
no_array Token.null (array x) n e = absurd (cc)
no_array Token.bad (array x) n e = absurd (cc)
no_array t (object x) n e = refl

-- a value that does not begin so is none
no_object : (t : Token) (d : Data) → opens_object t ≡ false → data_kind d ≡ token_kind t → as_object d ≡ None
no_object t null n e = refl
no_object t (boolean x) n e = refl
no_object t (number x) n e = refl
no_object t (string x) n e = refl
no_object t (array x) n e = refl
no_object Token.begin_object (object x) n e = absurd (cc)
no_object Token.end_object (object x) n e = absurd (cc)
no_object Token.begin_array (object x) n e = absurd (cc)
no_object Token.end_array (object x) n e = absurd (cc)
no_object (Token.key s) (object x) n e = absurd (cc)
no_object (Token.string s) (object x) n e = absurd (cc)
no_object (Token.number s) (object x) n e = absurd (cc)
no_object (Token.boolean b) (object x) n e = absurd (cc)
no_object Token.null (object x) n e = absurd (cc)
no_object Token.bad (object x) n e = absurd (cc)

-- a token that opens it is that token
pub is_begin_array : (t : Token) → opens_list t ≡ true → t ≡ Token.begin_array
is_begin_array Token.begin_object e = absurd (cc)
is_begin_array Token.end_object e = absurd (cc)
is_begin_array Token.begin_array e = refl
is_begin_array Token.end_array e = absurd (cc)
is_begin_array (Token.key s) e = absurd (cc)
is_begin_array (Token.string s) e = absurd (cc)
is_begin_array (Token.number s) e = absurd (cc)
is_begin_array (Token.boolean b) e = absurd (cc)
is_begin_array Token.null e = absurd (cc)
is_begin_array Token.bad e = absurd (cc)

-- a token that opens it is that token
pub is_begin_object : (t : Token) → opens_object t ≡ true → t ≡ Token.begin_object
is_begin_object Token.begin_object e = refl
is_begin_object Token.end_object e = absurd (cc)
is_begin_object Token.begin_array e = absurd (cc)
is_begin_object Token.end_array e = absurd (cc)
is_begin_object (Token.key s) e = absurd (cc)
is_begin_object (Token.string s) e = absurd (cc)
is_begin_object (Token.number s) e = absurd (cc)
is_begin_object (Token.boolean b) e = absurd (cc)
is_begin_object Token.null e = absurd (cc)
is_begin_object Token.bad e = absurd (cc)

-- a value whose first token opens no list is none
pub no_list : (depth : ℕ) (t : Token) (ts : List Token) (d : Data) (r : List Token) → opens_list t ≡ false → next depth (t ∷ ts) ≡ Some (d, r) → as_array d ≡ None
no_list depth t ts d r n e = no_array t d n (next_kind depth t ts d r e)

-- a value whose first token opens no object is none
pub no_members : (depth : ℕ) (t : Token) (ts : List Token) (d : Data) (r : List Token) → opens_object t ≡ false → next depth (t ∷ ts) ≡ Some (d, r) → as_object d ≡ None
no_members depth t ts d r n e = no_object t d n (next_kind depth t ts d r e)

-- a number that was read states what its digits do
number_taken_at : (o : Option Num) (ts : List Token) → parse_map number_in_data (option_map {U = Data × List Token} (λ d. (d, ts)) (option_map number o)) ≡ option_map (λ n. (n, ts)) (option_map as_integer o)
number_taken_at None ts = refl
number_taken_at (Some x) ts = refl

-- a token that is a number states what its digits do
pub number_taken : (depth : ℕ) (s : List ℕ) (ts : List Token) → parse_map number_in_data (next depth (Token.number s ∷ ts)) ≡ option_map (λ n. (n, ts)) (option_map as_integer (number_of s))
number_taken depth s ts = ap (parse_map number_in_data) (next_number depth s ts) ∙ number_taken_at (number_of s) ts

-- ---- texts and flags

-- a value of another kind than a text is no text
untext : (t : Token) (d : Data) → token_text t ≡ None → data_kind d ≡ token_kind t → as_str d ≡ None
untext t null n e = refl
untext t (boolean b) n e = refl
untext t (number x) n e = refl
untext Token.begin_object (string s) n e = absurd (cc)
untext Token.end_object (string s) n e = absurd (cc)
untext Token.begin_array (string s) n e = absurd (cc)
untext Token.end_array (string s) n e = absurd (cc)
untext (Token.key k) (string s) n e = absurd (cc)
untext (Token.string k) (string s) n e = absurd (cc)
untext (Token.number k) (string s) n e = absurd (cc)
untext (Token.boolean k) (string s) n e = absurd (cc)
untext Token.null (string s) n e = absurd (cc)
untext Token.bad (string s) n e = absurd (cc)
untext t (array ds) n e = refl
untext t (object ms) n e = refl

-- a value whose first token is no text is none
pub no_text : (depth : ℕ) (t : Token) (ts : List Token) (d : Data) (r : List Token) → token_text t ≡ None → next depth (t ∷ ts) ≡ Some (d, r) → as_str d ≡ None
no_text depth t ts d r n e = untext t d n (next_kind depth t ts d r e)

-- a token that has a text is that token
pub is_text : (t : Token) (s : List ℕ) → token_text t ≡ Some s → t ≡ Token.string s
is_text Token.begin_object s e = absurd (cc)
is_text Token.end_object s e = absurd (cc)
is_text Token.begin_array s e = absurd (cc)
is_text Token.end_array s e = absurd (cc)
is_text (Token.key k) s e = absurd (cc)
is_text (Token.string k) s e = ap (λ o. Token.string (inner o)) e where
  inner : Option (List ℕ) → List ℕ
  inner None = []
  inner (Some x) = x
is_text (Token.number k) s e = absurd (cc)
is_text (Token.boolean k) s e = absurd (cc)
is_text Token.null s e = absurd (cc)
is_text Token.bad s e = absurd (cc)

-- a token that is a text is the value
pub text_taken : (depth : ℕ) (s : List ℕ) (ts : List Token) → parse_map as_str (next depth (Token.string s ∷ ts)) ≡ Some (Some s, ts)
text_taken depth s ts = ap (λ j. parse_map as_str (converted of_json j)) (value_is depth (Token.string s ∷ ts))

-- a value of another kind than a flag is no flag
unflag : (t : Token) (d : Data) → token_flag t ≡ None → data_kind d ≡ token_kind t → as_bool d ≡ None
unflag t null n e = refl
unflag Token.begin_object (boolean b) n e = absurd (cc)
unflag Token.end_object (boolean b) n e = absurd (cc)
unflag Token.begin_array (boolean b) n e = absurd (cc)
unflag Token.end_array (boolean b) n e = absurd (cc)
unflag (Token.key k) (boolean b) n e = absurd (cc)
unflag (Token.string k) (boolean b) n e = absurd (cc)
unflag (Token.number k) (boolean b) n e = absurd (cc)
unflag (Token.boolean k) (boolean b) n e = absurd (cc)
unflag Token.null (boolean b) n e = absurd (cc)
unflag Token.bad (boolean b) n e = absurd (cc)
unflag t (number x) n e = refl
unflag t (string s) n e = refl
unflag t (array ds) n e = refl
unflag t (object ms) n e = refl

-- a value whose first token is no flag is none
pub no_flag : (depth : ℕ) (t : Token) (ts : List Token) (d : Data) (r : List Token) → token_flag t ≡ None → next depth (t ∷ ts) ≡ Some (d, r) → as_bool d ≡ None
no_flag depth t ts d r n e = unflag t d n (next_kind depth t ts d r e)

-- a token that has a flag is that token
pub is_flag : (t : Token) (s : Bool) → token_flag t ≡ Some s → t ≡ Token.boolean s
is_flag Token.begin_object s e = absurd (cc)
is_flag Token.end_object s e = absurd (cc)
is_flag Token.begin_array s e = absurd (cc)
is_flag Token.end_array s e = absurd (cc)
is_flag (Token.key k) s e = absurd (cc)
is_flag (Token.string k) s e = absurd (cc)
is_flag (Token.number k) s e = absurd (cc)
is_flag (Token.boolean k) s e = ap (λ o. Token.boolean (inner o)) e where
  inner : Option (Bool) → Bool
  inner None = false
  inner (Some x) = x
is_flag Token.null s e = absurd (cc)
is_flag Token.bad s e = absurd (cc)

-- a token that is a flag is the value
pub flag_taken : (depth : ℕ) (s : Bool) (ts : List Token) → parse_map as_bool (next depth (Token.boolean s ∷ ts)) ≡ Some (Some s, ts)
flag_taken depth s ts = ap (λ j. parse_map as_bool (converted of_json j)) (value_is depth (Token.boolean s ∷ ts))
