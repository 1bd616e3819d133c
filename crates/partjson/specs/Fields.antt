-- Objects by the list of their fields: the form that defines what an object states, and what a table of fields holds.
use Rattle.std.specs.Prelude.{◌≡◌, ℕ, ℤ, pos, Bool, true, false, List, [], ◌∷◌, ◌++◌, Result, MatchResult, Option, Some, None, ◌⊎◌, option_and_then, option_map, if◌then◌else◌}
use Rattle.std.specs.List.{list_any}
use Rattle.std.specs.Option.{option_map_or}
use Rattle.std.specs.Str.{bytes_eq}
use Rattle.json.specs.Token.{Token}
use Rattle.serde_json.specs.Data.{Data, Members, put}
use Rattle.serde_json.specs.Find.{as_object, get_member}
use Rattle.refusal.specs.declared.refused.Refusal.{Refusal}
use Rattle.refusal.specs.declared.refused.Refusal.TheVariants.{BadJson, Memory as OutOfMemory}
use Rattle.jsonstream.specs.Json.{stated_list, has_only_keys}

-- ---- what members state

-- what the value of a key states, which has to be there
abbrev pub at_key : {X : Type 0} → (Data → Option X) → List ℕ → Members → Option X
at_key stated key ms = option_and_then stated (get_member key ms)

-- the same of one that may be missing
abbrev pub if_at_key : {X : Type 0} → (Data → Option X) → List ℕ → Members → Option (Option X)
if_at_key stated key ms = option_map_or (λ d. option_map (λ x. Some x) (stated d)) (get_member key ms) (Some None)

-- the list of a key, which is empty where the key is missing
abbrev pub list_at_key : {X : Type 0} → (Data → Option X) → List ℕ → Members → Option (List X)
list_at_key stated key ms = option_map_or (stated_list stated) (get_member key ms) (Some [])

-- 0 for a key that must not be there
abbrev pub zero_but_at_key : List ℕ → Members → Option ℤ
zero_but_at_key key ms = option_map_or (λ _. None) (get_member key ms) (Some (pos 0))

-- one thing and another
abbrev pub both : {X Y : Type 0} → Option X → Option Y → Option (X × Y)
both x y = option_and_then (λ a. option_and_then (λ b. Some (a, b)) y) x

-- ---- forms

-- the form of an object: the keys that it may have, and what its members state
pub record Form (X : Type 0) : Type 0 where
  pub keys : List (List ℕ)
  pub states : Members → Option X

-- a key that has to be there
abbrev pub must : {X : Type 0} → List ℕ → (Data → Option X) → Form X
must key stated = record { keys = key ∷ []; states = at_key stated key }

-- a key that may be missing
abbrev pub may : {X : Type 0} → List ℕ → (Data → Option X) → Form (Option X)
may key stated = record { keys = key ∷ []; states = if_at_key stated key }

-- the key of a list that is empty where it is missing
abbrev pub may_list : {X : Type 0} → List ℕ → (Data → Option X) → Form (List X)
may_list key stated = record { keys = key ∷ []; states = list_at_key stated key }

-- a key that must not be there, and stands for 0
abbrev pub unstated : List ℕ → Form ℤ
unstated key = record { keys = key ∷ []; states = zero_but_at_key key }

-- no more keys
abbrev pub no_more : Form (Unit {0})
no_more = record { keys = []; states = λ _. Some tt }

-- some keys and others
infixr 5 ◌&◌
abbrev pub ◌&◌ : {X Y : Type 0} → Form X → Form Y → Form (X × Y)
a & b = record { keys = a.keys ++ b.keys; states = λ ms. both (a.states ms) (b.states ms) }

-- what an object states that has no keys but these
abbrev pub object_of : {X : Type 0} → List (List ℕ) → (Members → Option X) → Data → Option X
object_of names states d = option_and_then (λ ms. if has_only_keys names ms then states ms else None) (as_object d)

-- what an object of a form states
abbrev pub stated_object : {X : Type 0} → Form X → Data → Option X
stated_object form d = object_of form.keys form.states d

-- what is made of the parts of its fields
abbrev pub stated_as : {X Y : Type 0} → Form X → (X → Y) → Data → Option Y
stated_as form made d = option_map made (stated_object form d)

-- ---- tables of fields

-- what a list of names states by its first and by the others
abbrev pub first_of : {X Y : Type 0} → (List ℕ → Members → Option X) → (List (List ℕ) → Members → Option Y)
    → List (List ℕ) → Members → Option (X × Y)
first_of one rest [] ms = None
first_of one rest (n ∷ ns) ms = both (one n ms) (rest ns ms)

-- 0 where no value has come
abbrev pub zero_if : {X : Type 0} → Option X → Option ℤ
zero_if None = Some (pos 0)
zero_if (Some x) = None

-- a call takes a member whose key is among the names, and reads nothing of another
abbrev pub TakesField : {F : Type 0} → (F → Members → Type 0) → (F → List (List ℕ)) → List ℕ
    → Option (Data × List Token) → List Token → F → Result Bool Refusal → F → List Token → Type 0
TakesField hold names key there ts before r after rest = MatchResult r
    (λ taken. (list_any (bytes_eq key) (names before) ≡ taken) × (names after ≡ names before)
    × (taken ≡ true → (d : Data) × (there ≡ Some (d, rest))
    × ((ms : Members) → hold before ms → hold after (put key d ms)))
    × (taken ≡ false → (rest ≡ ts) × (after ≡ before)))
    (λ e. (e ≡ OutOfMemory) ⊎ ((e ≡ BadJson) × (there ≡ None)))

-- a table of these names, and whether all keys are known, hold the members
abbrev pub Holds : {F : Type 0} → (F → List (List ℕ)) → (F → Members → Type 0) → List (List ℕ) → F → Bool
    → Members → Type 0
Holds names hold all f known ms = (names f ≡ all) × (hold f ms) × (known ≡ has_only_keys all ms)
