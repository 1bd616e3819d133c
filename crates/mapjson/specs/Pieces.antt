-- What is written token by token: the tokens of a value (RFC 8259), and that they are read as that value.
use Rattle.std.specs.Prelude.{◌≡◌, ℕ, List, [], ◌∷◌, flat_map, Option, Some, None, ⊤}
use Rattle.json.specs.Token.{Token, key}
use Rattle.json.specs.Tree.{json_tokens}
use Rattle.serde_json.specs.Data.{Data}
use Rattle.serde_json.specs.Read.{of_json}
use Rattle.serde_json.specs.Written.{outline}

-- the tokens of a value
abbrev pub tokens_of : Data → List Token
tokens_of d = json_tokens (outline d)

-- the tokens of values, one behind the other
abbrev pub all_tokens : List Data → List Token
all_tokens = flat_map tokens_of

-- the tokens of a value, where there is one
abbrev pub tokens_of_some : Option Data → List Token
tokens_of_some None = []
tokens_of_some (Some d) = tokens_of d

-- the tokens of members, each behind its key
abbrev pub member_tokens : List (List ℕ × Data) → List Token
member_tokens = flat_map (λ m. key m.0 ∷ tokens_of m.1)

-- what is written of a value is read as that value: its numbers are integers of 64 bits, its keys stand in order
abbrev pub IsReadBack : Data → Type 0
IsReadBack d = of_json (outline d) ≡ Some d

-- the same of a value, where there is one
abbrev pub IsSomeReadBack : Option Data → Type 0
IsSomeReadBack None = ⊤
IsSomeReadBack (Some d) = IsReadBack d

-- the same of each member
abbrev pub AreReadBack : List (List ℕ × Data) → Type 0
AreReadBack [] = ⊤
AreReadBack (m ∷ ms) = IsReadBack m.1 × AreReadBack ms
