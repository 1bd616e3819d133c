-- What is written token by token: what it is read as, and the tokens of lists and objects.
use Rattle.std.proofs.Common.{All, ◌≡◌, ℕ, suc, ◌<◌, ◌≤◌, ◌^◌, ℤ, pos, negsuc, List, [], ◌∷◌, ◌++◌, map, Option, Some, None, option_map, option_and_then, w64, SFits, refl, sym, ap, subst, ◌∙◌, arith, append_assoc, append-nil}
use Rattle.std.specs.List.{cons_option}
use Rattle.std.proofs.lemmas.List.Elements.{All-push}
use Rattle.json.specs.Token.{Token, end_array, begin_object, end_object}
use Rattle.json.specs.Json as json
use Rattle.json.specs.Lex.{tokens}
use Rattle.json.specs.Tree as tree
use Rattle.json.proofs.Printed.Trees.{value-json_tokens}
use Rattle.serde_json.specs.Data.{Data, number, array, object, Members, no_members, put, depth}
use Rattle.serde_json.specs.View.{items_of}
use Rattle.serde_json.specs.Read.{read, max_depth, of_json, of_items, of_members}
use Rattle.serde_json.specs.Written.{outline, items_outline, members_outline}
use Rattle.serde_json.proofs.Numbers.{number_of-decimal, number_of-negative}
use Rattle.mapjson.specs.Written.{number_data, list_data, members, object_of}
use Rattle.mapjson.specs.Pieces.{tokens_of, all_tokens, tokens_of_some, member_tokens, IsReadBack, IsSomeReadBack, AreReadBack}
use Rattle.mapjson.proofs.Readable.{built, depth-outline}

-- ---- what is read

-- a number of 64 bits that is not negative is read as itself
pub natural_read : (n : ℕ) → n < 2 ^ 64 → IsReadBack (number_data (pos n))
natural_read n h = ap (option_map number) (number_of-decimal n h)

-- so is one that may be negative
pub integer_read : (z : ℤ) → SFits w64 z → IsReadBack (number_data z)
integer_read (pos n) fits = natural_read n (omega arith)
integer_read (negsuc n) fits = ap (option_map number) (number_of-negative n (omega arith))

-- the values of a list are read as themselves where each of them is
items_read : {X : Type 0} (entry : X → Data) (xs : List X) → All (λ x. IsReadBack (entry x)) xs → of_items (items_outline (items_of (map entry xs))) ≡ Some (items_of (map entry xs))
items_read entry [] all = refl
items_read entry (x ∷ xs) all = rw (all 0 x (omega arith), items_read entry xs (λ k d below. all (suc k) d (omega (arith, below))))

-- so is the list
pub list_read : {X : Type 0} (entry : X → Data) (xs : List X) → All (λ x. IsReadBack (entry x)) xs → IsReadBack (list_data entry xs)
list_read entry xs all = ap (option_map array) (items_read entry xs all)

-- members are put in one after the other where each of their values is read as itself
members_read : (ms : List (List ℕ × Data)) (found : Members) → AreReadBack ms → of_members (members_outline (members ms)) found ≡ Some (built found (members ms))
members_read [] found all = refl
members_read (m ∷ ms) found all = rw all.0 (members_read ms (put m.0 m.1 found) all.1)

-- so an object is read as itself where its keys stand in order
pub object_read : (ms : List (List ℕ × Data)) → AreReadBack ms → built no_members (members ms) ≡ members ms → IsReadBack (object_of ms)
object_read ms all order = ap (option_map object) (members_read ms no_members all ∙ ap (λ found. Some found) order)

-- members of two lists are read as themselves where those of each are
pub both_read : (ms ns : List (List ℕ × Data)) → AreReadBack ms → AreReadBack ns → AreReadBack (ms ++ ns)
both_read [] ns first second = second
both_read (m ∷ ms) ns first second = (first.0, both_read ms ns first.1 second)

-- a text of a value's tokens is read as that value
pub read_tokens : (d : Data) (text : List ℕ) → tokens text ≡ tokens_of d → IsReadBack d → depth d ≤ max_depth → read text ≡ Some d
read_tokens d text same back shallow =
    let deep : tree.depth (outline d) ≤ max_depth = omega (arith, depth-outline d, shallow) in
    ap (λ o. option_and_then of_json (option_and_then (λ p. json.if_last p.0 p.1) o))
    (ap (json.value max_depth) (same ∙ sym (append-nil _)) ∙ value-json_tokens (outline d) max_depth [] deep)
    ∙ back

-- ---- the tokens

-- those of lists that stand behind one another
all_tokens-append : (ds es : List Data) → all_tokens (ds ++ es) ≡ all_tokens ds ++ all_tokens es
all_tokens-append [] es = refl
all_tokens-append (d ∷ ds) es = ap (λ ts. tokens_of d ++ ts) (all_tokens-append ds es) ∙ sym (append_assoc (tokens_of d) (all_tokens ds) (all_tokens es))

-- those of a list's values, and then its end
pub items_tokens-all : (ds : List Data) → tree.items_tokens (items_outline (items_of ds)) ≡ all_tokens ds ++ end_array ∷ []
items_tokens-all [] = refl
items_tokens-all (d ∷ ds) = ap (λ ts. tokens_of d ++ ts) (items_tokens-all ds) ∙ sym (append_assoc (tokens_of d) (all_tokens ds) (end_array ∷ []))

-- those of members that stand behind one another
pub member_tokens-append : (ms ns : List (List ℕ × Data)) → member_tokens (ms ++ ns) ≡ member_tokens ms ++ member_tokens ns
member_tokens-append [] ns = refl
member_tokens-append (m ∷ ms) ns =
    ap (λ ts. (Token.key m.0 ∷ tokens_of m.1) ++ ts) (member_tokens-append ms ns) ∙ sym (append_assoc (Token.key m.0 ∷ tokens_of m.1) (member_tokens ms) (member_tokens ns))

-- those of an object's members, and then its end
pub members_tokens-all : (ms : List (List ℕ × Data)) → tree.members_tokens (members_outline (members ms)) ≡ member_tokens ms ++ end_object ∷ []
members_tokens-all [] = refl
members_tokens-all (m ∷ ms) =
    ap (λ ts. Token.key m.0 ∷ (tokens_of m.1 ++ ts)) (members_tokens-all ms) ∙ sym (append_assoc (Token.key m.0 ∷ tokens_of m.1) (member_tokens ms) (end_object ∷ []))

-- the tokens of members behind those that are there, one member after the other
abbrev pub put_all : List Token → List (List ℕ × Data) → List Token
put_all ts [] = ts
put_all ts (m ∷ ms) = put_all (ts ++ Token.key m.0 ∷ tokens_of m.1) ms

-- so they stand behind them
pub put_all-is : (ts : List Token) (ms : List (List ℕ × Data)) → put_all ts ms ≡ ts ++ member_tokens ms
put_all-is ts [] = sym (append-nil ts)
put_all-is ts (m ∷ ms) = put_all-is (ts ++ Token.key m.0 ∷ tokens_of m.1) ms ∙ append_assoc ts (Token.key m.0 ∷ tokens_of m.1) (member_tokens ms)

-- tokens behind what something else is equal to
pub behind : {base before now : List Token} (last : List Token) → now ≡ before ++ last → before ≡ base → now ≡ base ++ last
behind last e same = e ∙ ap (λ ts. ts ++ last) same

-- what stands between an opening token and a closing one
pub enclosed : (ts us : List Token) (front back : Token) → ((ts ++ front ∷ []) ++ us) ++ back ∷ [] ≡ ts ++ front ∷ (us ++ back ∷ [])
enclosed ts us front back = append_assoc (ts ++ front ∷ []) us (back ∷ []) ∙ append_assoc ts (front ∷ []) (us ++ back ∷ [])

-- the tokens of an object, one member after the other
pub object_tokens : (ts : List Token) (ms : List (List ℕ × Data)) → put_all (ts ++ begin_object ∷ []) ms ++ end_object ∷ [] ≡ ts ++ tokens_of (object_of ms)
object_tokens ts ms =
    ap (λ us. us ++ end_object ∷ []) (put_all-is (ts ++ begin_object ∷ []) ms) ∙ enclosed ts (member_tokens ms) begin_object end_object
    ∙ ap (λ us. ts ++ begin_object ∷ us) (sym (members_tokens-all ms))

-- ---- a list of which one more may be written

-- the tokens of values, and of one more where there is one
pub tokens_more : {X : Type 0} (f : X → Data) (xs : List X) (o : Option X) → all_tokens (map f (xs ++ cons_option o [])) ≡ all_tokens (map f xs) ++ tokens_of_some (option_map f o)
tokens_more f [] None = refl
tokens_more f [] (Some x) = append-nil (tokens_of (f x))
tokens_more f (y ∷ xs) o = ap (λ ts. tokens_of (f y) ++ ts) (tokens_more f xs o) ∙ sym (append_assoc (tokens_of (f y)) (all_tokens (map f xs)) (tokens_of_some (option_map f o)))

-- what is read of values, and of one more where there is one
pub read_more : {X : Type 0} (f : X → Data) (xs : List X) (o : Option X) → All (λ x. IsReadBack (f x)) xs → IsSomeReadBack (option_map f o) → All (λ x. IsReadBack (f x)) (xs ++ cons_option o [])
read_more f xs None all one = subst (λ ys. All (λ x. IsReadBack (f x)) ys) (sym (append-nil xs)) all
read_more f xs (Some x) all one = All-push (λ y. IsReadBack (f y)) xs x all one
