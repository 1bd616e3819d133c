-- Values as they come from tokens, a turn at a time.
use Rattle.std.proofs.Common.{◌≡◌, ℕ, ℤ, true, Result, Ok, Err, zero, suc, ◌-◌, ◌<◌, ◌≤◌, List, [], ◌∷◌, length, Option, Some, None, option_map, option_and_then, refl, ap, ◌∙◌}
use Rattle.json.specs.Token.{Token}
use Rattle.json.specs.Json as json
use Rattle.json.specs.Reads.{opens}
use Rattle.json.specs.Json.{Parse, value, parse_map, after_end_array, read_key, items_step, items, members}
use Rattle.json.proofs.Grammar.{left, left_some, left-parse_map, value_is, value-begin_array, value-begin_object, items_end, items_more, members_end, members_no_key, members_more}
use Rattle.serde_json.specs.Data.{Num, Data, number, array, object, no_items, item, Members, no_members, put}
use Rattle.serde_json.specs.Read.{number_of, of_json, of_items, of_members, converted}
use Rattle.serde_json.specs.Find.{as_integer}
use Rattle.refusal.specs.declared.refused.Refusal.{Refusal}
use Rattle.jsonstream.specs.Stream.{next, rest_of_list, rest_of_object, StepsOver}

-- what is there, or another
abbrev pick : {A : Type 0} → A → Option A → A
pick d None = d
pick d (Some a) = a

-- a value found stands before the tokens that are left
found : {A B : Type 0} (a : A) (r s : List Token) (x : Option B) (b : B) → option_map {U = B × List Token} (λ y. (y, r)) x ≡ Some (b, s) → (r ≡ s) × (x ≡ Some b)
found a r s None b e = absurd (cc)
found a r s (Some y) b e = let same = ap (pick (y, r)) e in (ap (λ p. p.1) same, ap (λ p. Some p.0) same)

-- what was converted had been read
pub converted_some : {A B : Type 0} (f : A → Option B) (o : Option (A × List Token)) (b : B) (r : List Token) → converted f o ≡ Some (b, r) → (a : A) × (o ≡ Some (a, r)) × (f a ≡ Some b)
converted_some f None b r e = absurd (cc)
converted_some f (Some p) b r e = let both = found p.0 p.1 r (f p.0) b e in (p.0, ap (λ s. Some (p.0, s)) both.0, both.1)

-- a value refused is none
refused : {B : Type 0} (r : List Token) (x : Option B) → option_map {U = B × List Token} (λ y. (y, r)) x ≡ None → x ≡ None
refused r None e = refl
refused r (Some y) e = absurd (cc)

-- one thing made of another, in two ways
twice : {A B : Type 0} (g : A → B) (r : List Token) (x : Option A) → option_map (λ b. (b, r)) (option_map g x) ≡ parse_map g (option_map (λ a. (a, r)) x)
twice g r None = refl
twice g r (Some a) = refl

-- a list is what is left of it behind its bracket
pub converted_array : (o : Option (json.Items × List Token)) → converted of_json (parse_map json.array o) ≡ parse_map array (converted of_items o)
converted_array None = refl
converted_array (Some p) = twice array p.1 (of_items p.0)

-- an object is what is left of it behind its bracket
pub converted_object : (o : Option (json.Members × List Token)) → converted of_json (parse_map json.object o) ≡ parse_map object (converted (λ ms. of_members ms no_members) o)
converted_object None = refl
converted_object (Some p) = twice object p.1 (of_members p.0 no_members)

-- a value in front of a list is converted with it
with_item : (j : json.Json) (d : Data) → of_json j ≡ Some d → (o : Option (json.Items × List Token)) → converted of_items (parse_map (json.item j) o) ≡ parse_map (item d) (converted of_items o)
with_item j d e None = refl
with_item j d e (Some p) = rw e (twice (item d) p.1 (of_items p.0))

-- a value that converts to nothing leaves no list
without_item : (j : json.Json) → of_json j ≡ None → (o : Option (json.Items × List Token)) → converted of_items (parse_map (json.item j) o) ≡ None
without_item j e None = refl
without_item j e (Some p) = rw e

-- a member in front of an object is put in first
with_member : (k : List ℕ) (j : json.Json) (d : Data) (old : Members) → of_json j ≡ Some d → (o : Option (json.Members × List Token))
    → converted (λ ms. of_members ms old) (parse_map (json.member k j) o) ≡ converted (λ ms. of_members ms (put k d old)) o
with_member k j d old e None = refl
with_member k j d old e (Some p) = rw e

-- a member whose value converts to nothing leaves no object
without_member : (k : List ℕ) (j : json.Json) (old : Members) → of_json j ≡ None → (o : Option (json.Members × List Token)) → converted (λ ms. of_members ms old) (parse_map (json.member k j) o) ≡ None
without_member k j old e None = refl
without_member k j old e (Some p) = rw e

module _ (p : Parse json.Json) where
  -- a list of which one value more has been read
  pub item_read : (n : ℕ) (ts r : List Token) (d : Data) → 0 < n → after_end_array ts ≡ None → converted of_json (p ts) ≡ Some (d, r)
      → converted of_items (items p n ts) ≡ parse_map (item d) (converted of_items (items p (n - 1) r))
  item_read n ts r d some going e = let j = converted_some of_json (p ts) d r e in ap (converted of_items) (items_more p n ts r j.0 some going j.1) ∙ with_item j.0 d j.2 _

  -- a list whose next value converts to nothing
  no_item : (more : Parse json.Items) (o : Option (json.Json × List Token)) → converted of_json o ≡ None → converted of_items (option_and_then (λ q. parse_map (json.item q.0) (more q.1)) o) ≡ None
  no_item more None e = refl
  no_item more (Some q) e = without_item q.0 (refused q.1 (of_json q.0) e) (more q.1)

  -- a list whose next value is refused
  pub item_refused : (n : ℕ) (ts : List Token) → after_end_array ts ≡ None → converted of_json (p ts) ≡ None → converted of_items (items p n ts) ≡ None
  unfolding items
  item_refused zero ts going e = refl
  item_refused (suc n) ts going e = ap (λ o. converted of_items (items_step p (items p n) ts o)) going ∙ no_item (items p n) (p ts) e

  -- a list at its end
  pub items_over : (n : ℕ) (ts r : List Token) → length ts ≤ n → after_end_array ts ≡ Some r → converted of_items (items p n ts) ≡ Some (no_items, r)
  items_over n ts r enough e = ap (converted of_items) (items_end p n ts r enough e)

  -- a list of which one value more is passed
  pub item_passed : (n : ℕ) (ts r : List Token) → 0 < n → after_end_array ts ≡ None → left (converted of_json (p ts)) ≡ Some r
      → left (converted of_items (items p n ts)) ≡ left (converted of_items (items p (n - 1) r))
  item_passed n ts r some going e = let d = left_some _ r e in ap left (item_read n ts r d.0 some going d.1) ∙ left-parse_map _ _

  module _ (old : Members) where
    -- an object of which one member more has been read
    pub member_read : (n : ℕ) (k : List ℕ) (ts s r : List Token) (d : Data) → 0 < n → read_key ts ≡ Some (Some k, s) → converted of_json (p s) ≡ Some (d, r)
        → converted (λ ms. of_members ms old) (members p n ts) ≡ converted (λ ms. of_members ms (put k d old)) (members p (n - 1) r)
    member_read n k ts s r d some key e =
        let j = converted_some of_json (p s) d r e in
        ap (converted (λ ms. of_members ms old)) (members_more p n k ts s r j.0 some key j.1) ∙ with_member k j.0 d old j.2 _

    -- an object whose next value converts to nothing
    no_member : (k : List ℕ) (more : Parse json.Members) (o : Option (json.Json × List Token)) → converted of_json o ≡ None
        → converted (λ ms. of_members ms old) (option_and_then (λ q. parse_map (json.member k q.0) (more q.1)) o) ≡ None
    no_member k more None e = refl
    no_member k more (Some q) e = without_member k q.0 old (refused q.1 (of_json q.0) e) (more q.1)

    -- an object whose next member is refused
    pub member_refused : (n : ℕ) (k : List ℕ) (ts s : List Token) → read_key ts ≡ Some (Some k, s) → converted of_json (p s) ≡ None → converted (λ ms. of_members ms old) (members p n ts) ≡ None
    unfolding members
    member_refused zero k ts s key e = refl
    member_refused (suc n) k ts s key e = rw key (no_member k (members p n) (p s) e)

    -- an object in which no key comes
    pub key_refused : (n : ℕ) (ts : List Token) → read_key ts ≡ None → converted (λ ms. of_members ms old) (members p n ts) ≡ None
    key_refused n ts e = ap (converted (λ ms. of_members ms old)) (members_no_key p n ts e)

    -- an object at its end
    pub members_over : (n : ℕ) (ts r : List Token) → length ts ≤ n → read_key ts ≡ Some (None, r) → converted (λ ms. of_members ms old) (members p n ts) ≡ Some (old, r)
    members_over n ts r enough e = ap (converted (λ ms. of_members ms old)) (members_end p n ts r enough e)

-- ---- the value behind a token

-- a number is what its text states
pub next_number : (depth : ℕ) (s : List ℕ) (ts : List Token) → next depth (Token.number s ∷ ts) ≡ option_map (λ d. (d, ts)) (option_map number (number_of s))
next_number depth s ts = ap (converted of_json) (value_is depth (Token.number s ∷ ts))

-- a list is what is left of it
pub next_list : (depth : ℕ) (ts : List Token) → 0 < depth → next depth (Token.begin_array ∷ ts) ≡ parse_map array (rest_of_list (depth - 1) ts)
next_list depth ts deep = ap (converted of_json) (value-begin_array depth ts deep) ∙ converted_array (items (value (depth - 1)) (length ts) ts)

-- an object is what is left of it
pub next_object : (depth : ℕ) (ts : List Token) → 0 < depth → next depth (Token.begin_object ∷ ts) ≡ parse_map object (rest_of_object (depth - 1) ts)
next_object depth ts deep = ap (converted of_json) (value-begin_object depth ts deep) ∙ converted_object (members (value (depth - 1)) (length ts) ts)

-- no list and no object at the depth at which none may stand
pub next_too_deep : (t : Token) (ts : List Token) → opens (t ∷ ts) ≡ true → next 0 (t ∷ ts) ≡ None
unfolding value
next_too_deep Token.begin_object ts e = refl
next_too_deep Token.end_object ts e = absurd (cc)
next_too_deep Token.begin_array ts e = refl
next_too_deep Token.end_array ts e = absurd (cc)
next_too_deep (Token.key s) ts e = absurd (cc)
next_too_deep (Token.string s) ts e = absurd (cc)
next_too_deep (Token.number s) ts e = absurd (cc)
next_too_deep (Token.boolean b) ts e = absurd (cc)
next_too_deep Token.null ts e = absurd (cc)
next_too_deep Token.bad ts e = absurd (cc)

-- a number that is there is passed
number_passed_at : (o : Option Num) (n : Option ℤ) (ts : List Token) → option_map as_integer o ≡ Some n → left (option_map {U = Data × List Token} (λ d. (d, ts)) (option_map number o)) ≡ Some ts
number_passed_at None n ts e = absurd (cc)
number_passed_at (Some x) n ts e = refl

-- a number within the floats is passed
pub number_passed : (depth : ℕ) (s : List ℕ) (n : Option ℤ) (ts : List Token) → option_map as_integer (number_of s) ≡ Some n → left (next depth (Token.number s ∷ ts)) ≡ Some ts
number_passed depth s n ts e = ap left (next_number depth s ts) ∙ number_passed_at (number_of s) n ts e

-- a number that is not there is refused
number_refused_at : (o : Option Num) (ts : List Token) → option_map as_integer o ≡ None → option_map {U = Data × List Token} (λ d. (d, ts)) (option_map number o) ≡ None
number_refused_at None ts e = refl
number_refused_at (Some x) ts e = absurd (cc)

-- a number past every float is refused
pub number_refused : (depth : ℕ) (s : List ℕ) (ts : List Token) → option_map as_integer (number_of s) ≡ None → next depth (Token.number s ∷ ts) ≡ None
number_refused depth s ts e = next_number depth s ts ∙ number_refused_at (number_of s) ts e

-- what passes a thing passes what is made of it
pub passes_made : {U A B : Type 0} (f : A → B) (o : Option (A × List Token)) (p : Option (B × List Token)) (r : Result U Refusal) (rest : List Token) → p ≡ parse_map f o → StepsOver o r rest → StepsOver p r rest
passes_made f o p (Ok u) rest e h = ap left e ∙ left-parse_map f o ∙ h
passes_made f o p (Err x) rest e h = (h.0, e ∙ ap (parse_map f) h.1)

-- no value without a token
pub next_nothing : (depth : ℕ) → next depth [] ≡ None
next_nothing depth = ap (converted of_json) (value_is depth [])
