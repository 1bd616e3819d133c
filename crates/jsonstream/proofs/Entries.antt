-- Entries of a list, as they come one after another.
use Rattle.std.proofs.Common.{◌≡◌, ℕ, zero, suc, false, ◌-◌, ◌==◌, ◌≤◌, arith, ◌<◌, List, [], ◌∷◌, ◌++◌, length, Option, Some, None, option_map, option_and_then, refl, sym, ap, ◌∙◌, ◌⊎◌, inl, inr}
use Rattle.std.proofs.Math.Dec.{eqb-suc-zero}
use Rattle.std.proofs.lemmas.Bool.{ne_eqb}
use Rattle.std.proofs.lemmas.List.{append_assoc, append-nil}
use Rattle.json.specs.Token.{Token}
use Rattle.json.specs.Json as json
use Rattle.json.specs.Json.{Parse, parse_map, value, after_end_array}
use Rattle.json.proofs.Grammar.{left, skip_value-shorter, items_end, items_fail, items_more}
use Rattle.serde_json.specs.Data.{Data, array, Items, no_items, item}
use Rattle.serde_json.specs.Read.{of_json, of_items, converted}
use Rattle.jsonstream.specs.Stream.{next, rest_of_list, added, pair_if, triple_if}
use Rattle.jsonstream.specs.Json.{entries_of, stated_list, item_count, both_of, three_of}
use Rattle.serde_json.specs.Find.{as_array}
use Rattle.refusal.specs.declared.refused.Refusal.{Refusal}
use Rattle.refusal.specs.declared.refused.Refusal.TheVariants.{BadJson, Memory as OutOfMemory}
use Rattle.jsonstream.proofs.Streams.{converted_some, item_read, item_refused, items_over}

-- the entries found and those that are still to come
abbrev pub joined : {X : Type 0} → (Data → Option X) → Option (List X) → Items → Option (List X)
joined stated found ds = option_and_then (λ xs. option_map (λ ys. xs ++ ys) (entries_of stated ds)) found

-- nothing in front changes nothing
with_none : {X : Type 0} (o : Option (List X)) → option_map (λ ys. [] ++ ys) o ≡ o
with_none None = refl
with_none (Some xs) = refl

-- before the first entry all are to come
pub joined_first : {X : Type 0} (stated : Data → Option X) (o : Option (Items × List Token)) → parse_map (entries_of stated) o ≡ parse_map (joined stated (Some [])) o
joined_first stated None = refl
joined_first stated (Some p) = ap (λ x. Some (x, p.1)) (sym (with_none (entries_of stated p.0)))

-- one entry more in front is one entry less behind
one_more : {X : Type 0} (xs : List X) (x : X) (o : Option (List X)) → option_map (λ ys. xs ++ ys) (option_map (λ ys. x ∷ ys) o) ≡ option_map (λ ys. (xs ++ x ∷ []) ++ ys) o
one_more xs x None = refl
one_more xs x (Some ys) = ap (λ zs. Some zs) (sym (append_assoc xs (x ∷ []) ys))

-- so it is where the entries found or the entry may be none
item_joined : {X : Type 0} (found : Option (List X)) (x : Option X) (o : Option (List X)) → option_and_then (λ xs. option_map (λ ys. xs ++ ys) (option_and_then (λ y. option_map (λ ys. y ∷ ys) o) x)) found ≡ option_and_then (λ xs. option_map (λ ys. xs ++ ys) o) (added found x)
item_joined None x o = refl
item_joined (Some xs) None o = refl
item_joined (Some xs) (Some x) o = one_more xs x o

-- an entry that is read goes from those to come to those found
pub joined_more : {X : Type 0} (stated : Data → Option X) (found : Option (List X)) (d : Data) (o : Option (Items × List Token)) → parse_map (joined stated found) (parse_map (item d) o) ≡ parse_map (joined stated (added found (stated d))) o
joined_more stated found d None = refl
joined_more stated found d (Some p) = ap (λ x. Some (x, p.1)) (item_joined found (stated d) (entries_of stated p.0))

-- at the end those found are all
pub joined_all : {X : Type 0} (stated : Data → Option X) (found : Option (List X)) → joined stated found no_items ≡ found
joined_all stated None = refl
joined_all stated (Some xs) = ap (λ ys. Some ys) (append-nil xs)

-- the tokens behind what was read, or others
abbrev pick_rest : {B : Type 0} → List Token → Option (B × List Token) → List Token
pick_rest r None = r
pick_rest r (Some p) = p.1

-- what was read, or another
abbrev pick_first : {B : Type 0} → B → Option (B × List Token) → B
pick_first b None = b
pick_first b (Some p) = p.0

-- what is made of something had been read
pub mapped_some : {A B : Type 0} (f : A → B) (o : Option (A × List Token)) (b : B) (r : List Token) → parse_map f o ≡ Some (b, r) → (a : A) × (o ≡ Some (a, r)) × (f a ≡ b)
mapped_some f None b r e = absurd (cc)
mapped_some f (Some p) b r e = (p.0, ap (λ s. Some (p.0, s)) (ap (pick_rest r) e), ap (pick_first b) e)

-- nothing is made of nothing
pub mapped_none : {A B : Type 0} (f : A → B) (o : Option (A × List Token)) → parse_map f o ≡ None → o ≡ None
mapped_none f None e = refl
mapped_none f (Some p) e = absurd (cc)

-- a value takes at least one token
pub next_shorter : (depth : ℕ) (ts : List Token) (d : Data) (r : List Token) → next depth ts ≡ Some (d, r) → length r < length ts
next_shorter depth ts d r e = let j = converted_some of_json (value depth ts) d r e in skip_value-shorter depth ts r (ap left j.1)

-- a list is what is left of it behind its bracket
pub list_made : {X : Type 0} (stated : Data → Option X) (o : Option (Items × List Token)) → parse_map (stated_list stated) (parse_map array o) ≡ parse_map (entries_of stated) o
list_made stated None = refl
list_made stated (Some p) = refl

-- what is made of nothing is nothing
pub made_none : {A B C : Type 0} (f : A → B) (g : B → C) (o : Option (A × List Token)) → parse_map f o ≡ None → parse_map g (parse_map f o) ≡ None
made_none f g o e = ap (parse_map g) e

-- no list states nothing
pub none_listed : {X : Type 0} (stated : Data → Option X) (o : Option (Data × List Token)) (r : List Token) → parse_map as_array o ≡ Some (None, r) → parse_map (stated_list stated) o ≡ Some (None, r)
none_listed stated o r e = let d = mapped_some as_array o None r e in ap (parse_map (stated_list stated)) d.1 ∙ ap (λ a. Some (option_and_then (entries_of stated) a, r)) d.2

-- what refuses a part refuses the whole
pub still_refused : {X Y : Type 0} (e : Refusal) (o : Option X) (p : Option Y) → (o ≡ None → p ≡ None) → (e ≡ OutOfMemory) ⊎ ((e ≡ BadJson) × (o ≡ None)) → (e ≡ OutOfMemory) ⊎ ((e ≡ BadJson) × (p ≡ None))
still_refused e o p f (inl h) = inl h
still_refused e o p f (inr h) = inr (h.0, f h.1)

-- ---- one turn more

-- a list read with either number of turns, by what comes next
enough_at : (p : Parse json.Json) → (n m : ℕ) (ts : List Token) → length ts ≤ n → length ts ≤ m
    → ((j : json.Json) (r : List Token) → p ts ≡ Some (j, r) → length r < length ts)
    → ((r : List Token) → length r < length ts → json.items p (n - 1) r ≡ json.items p (m - 1) r)
    → (o : Option (List Token)) → after_end_array ts ≡ o → (q : Option (json.Json × List Token)) → p ts ≡ q → json.items p n ts ≡ json.items p m ts
enough_at p n m ts a b sh later (Some r) end q is = items_end p n ts r a end ∙ sym (items_end p m ts r b end)
enough_at p n m ts a b sh later None end None is = items_fail p n ts end is ∙ sym (items_fail p m ts end is)
enough_at p n m ts a b sh later None end (Some j) is =
    let less = sh j.0 j.1 is in
    items_more p n ts j.1 j.0 (omega (arith, less)) end is ∙ ap (parse_map (json.item j.0)) (later j.1 less) ∙ sym (items_more p m ts j.1 j.0 (omega (arith, less)) end is)

-- the turns that are allowed play no part where they are enough
items_enough : (p : Parse json.Json) → ((ts : List Token) (j : json.Json) (r : List Token) → p ts ≡ Some (j, r) → length r < length ts) → (n m : ℕ) (ts : List Token) → length ts ≤ n → length ts ≤ m → json.items p n ts ≡ json.items p m ts
items_enough p sh zero m ts a b = enough_at p zero m ts a b (sh ts) (λ r less. absurd (never r ts less a)) (after_end_array ts) refl (p ts) refl where
  never : (r ts : List Token) → length r < length ts → length ts ≤ 0 → ⊥
  never r ts less a = omega (arith, less, a)
items_enough p sh (suc n) m ts a b = enough_at p (suc n) m ts a b (sh ts) (λ r less. let one : suc n - 1 ≡ n = omega arith in ap (λ k. json.items p k r) one ∙ items_enough p sh n (m - 1) r (omega (arith, less, a)) (omega (arith, less, b))) (after_end_array ts) refl (p ts) refl

-- a value takes at least one token
value-shorter : (depth : ℕ) (ts : List Token) (j : json.Json) (r : List Token) → value depth ts ≡ Some (j, r) → length r < length ts
value-shorter depth ts j r e = skip_value-shorter depth ts r (ap left e)

-- a list with a value in front is that value and what is left
pub list_more : (depth : ℕ) (ts r : List Token) (d : Data) → after_end_array ts ≡ None → next depth ts ≡ Some (d, r) → rest_of_list depth ts ≡ parse_map (item d) (rest_of_list depth r)
list_more depth ts r d going e =
    let less = next_shorter depth ts d r e in
    item_read (value depth) (length ts) ts r d (omega (arith, less)) going e
    ∙ ap (λ o. parse_map (item d) (converted of_items o)) (items_enough (value depth) (value-shorter depth) (length ts - 1) (length r) r (omega (arith, less)) (omega arith))

-- a list whose next value is refused
pub list_refused : (depth : ℕ) (ts : List Token) → after_end_array ts ≡ None → next depth ts ≡ None → rest_of_list depth ts ≡ None
list_refused depth ts going e = item_refused (value depth) (length ts) ts going e

-- a list at its end
pub list_over : (depth : ℕ) (ts r : List Token) → after_end_array ts ≡ Some r → rest_of_list depth ts ≡ Some (no_items, r)
list_over depth ts r e = items_over (value depth) (length ts) ts r (omega arith) e

-- a number and one is not 0
no_zero : (n : ℕ) → (suc n == 0) ≡ false
no_zero n = eqb-suc-zero n

-- a list that is not at its end has values to come, by its next value
begun_at : (depth : ℕ) (ts : List Token) (ds : Items) (r : List Token) → after_end_array ts ≡ None → (q : Option (Data × List Token)) → next depth ts ≡ q → rest_of_list depth ts ≡ Some (ds, r) → (item_count ds == 0) ≡ false
begun_at depth ts ds r going None is e = let none = list_refused depth ts going is in absurd (cc)
begun_at depth ts ds r going (Some q) is e =
    let more = mapped_some (item q.0) (rest_of_list depth q.1) ds r (sym (list_more depth ts q.1 q.0 going is) ∙ e) in
    ap (λ xs. item_count xs == 0) (sym more.2) ∙ no_zero (item_count more.0)

-- a list that is not at its end has values to come
pub list_begun : (depth : ℕ) (ts : List Token) (ds : Items) (r : List Token) → after_end_array ts ≡ None → rest_of_list depth ts ≡ Some (ds, r) → (item_count ds == 0) ≡ false
list_begun depth ts ds r going e = begun_at depth ts ds r going (next depth ts) refl e

-- two more than none are two, and no other
two_more : (n : ℕ) → (suc (suc n) == 2) ≡ (n == 0)
two_more zero = refl
two_more (suc n) = ne_eqb (suc (suc (suc n))) 2 (λ e. omega (arith, e)) ∙ sym (no_zero n)

-- a list of at least two values is a pair where it has no more
pub both_made : {X Y : Type 0} (s : Data → Option X) (t : Data → Option Y) (x : Option X) (y : Option Y) (d e : Data) (ds : Items) → s d ≡ x → t e ≡ y → both_of s t (array (item d (item e ds))) ≡ pair_if (item_count ds == 0) x y
both_made s t x y d e ds is also = rw (two_more (item_count ds), is, also) refl

-- three more than none are three, and no other
three_more : (n : ℕ) → (suc (suc (suc n)) == 3) ≡ (n == 0)
three_more zero = refl
three_more (suc n) = ne_eqb (suc (suc (suc (suc n)))) 3 (λ e. omega (arith, e)) ∙ sym (no_zero n)

-- a list of at least three values is those three where it has no more
pub three_made : {X Y Z : Type 0} (s : Data → Option X) (t : Data → Option Y) (u : Data → Option Z) (x : Option X) (y : Option Y) (z : Option Z) (d e f : Data) (ds : Items) → s d ≡ x → t e ≡ y → u f ≡ z
    → three_of s t u (array (item d (item e (item f ds)))) ≡ triple_if (item_count ds == 0) x y z
three_made s t u x y z d e f ds is also last = rw (three_more (item_count ds), is, also, last) refl
