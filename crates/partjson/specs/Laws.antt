-- What fields hold as members come, and what they make of them: the laws of fields, which the code itself names.
use Rattle.std.specs.Prelude.{◌≡◌, ℕ, Bool, ◌||◌, true, false, List, ◌∷◌, Option, Some, None, option_map, option_and_then, if◌then◌else◌, [], pos}
use Rattle.std.specs.List.{list_any}
use Rattle.std.specs.Option.{option_map_or}
use Rattle.std.specs.Str.{bytes_eq}
use Rattle.std.proofs.Common.{refl, sym, ap, ◌∙◌, true≢false}
use Rattle.std.proofs.lemmas.Slice.Eq.{bytes_eq-Decides}
use Rattle.serde_json.specs.Data.{Data, Members, put, object}
use Rattle.serde_json.specs.Find.{get_member}
use Rattle.serde_json.proofs.Views.{get_member-put}
use Rattle.jsonstream.specs.Json.{stated_list}
use Rattle.jsonstream.specs.Stream.{member_slot, flat, or_empty, if_there}
use Rattle.jsonstream.proofs.Puts.{slot_kept}
use Rattle.partjson.specs.Fields.{at_key, if_at_key, list_at_key, zero_but_at_key, zero_if, both, object_of, Holds}

-- ---- one field

-- texts that are not equal byte by byte differ
apart : (k q : List ℕ) → bytes_eq k q ≡ false → k ≡ q → ⊥
apart k q e same = true≢false (sym ((bytes_eq-Decides k q).1 same) ∙ e)

-- a slot stays as it is at another key
pub slot_stays : {X : Type 0} (stated : Data → Option X) (q k : List ℕ) (d : Data) (ms : Members)
    (s : Option (Option X)) → bytes_eq k q ≡ false → s ≡ member_slot stated q ms → s ≡ member_slot stated q (put k d ms)
slot_stays stated q k d ms s other e = e ∙ sym (slot_kept stated q k d ms (apart k q other))

-- and has what its own key states
pub slot_came : {X : Type 0} (stated : Data → Option X) (q : List ℕ) (d : Data) (ms : Members)
    → Some (stated d) ≡ member_slot stated q (put q d ms)
slot_came stated q d ms = sym (ap (option_map stated) (get_member-put q d ms))

-- what members state of a key that has to be there is what its slot makes
flat_map : {X : Type 0} (stated : Data → Option X) (o : Option Data)
    → option_and_then stated o ≡ flat (option_map stated o)
flat_map stated None = refl
flat_map stated (Some d) = refl

-- what a key that has to be there states is what its slot has
pub slot_states : {X : Type 0} (stated : Data → Option X) (q : List ℕ) (ms : Members) (s : Option (Option X))
    → s ≡ member_slot stated q ms → at_key stated q ms ≡ flat s
slot_states stated q ms s e = flat_map stated (get_member q ms) ∙ ap flat (sym e)

-- so it is of one that may be missing
there_map : {X : Type 0} (stated : Data → Option X) (o : Option Data)
    → option_map_or (λ d. option_map (λ x. Some x) (stated d)) o (Some None) ≡ if_there (option_map stated o)
there_map stated None = refl
there_map stated (Some d) = refl

-- what a key that may be missing states is what its slot has, if it has anything
pub slot_there : {X : Type 0} (stated : Data → Option X) (q : List ℕ) (ms : Members) (s : Option (Option X))
    → s ≡ member_slot stated q ms → if_at_key stated q ms ≡ if_there s
slot_there stated q ms s e = there_map stated (get_member q ms) ∙ ap if_there (sym e)

-- of a list that is empty where it is missing
list_map : {X : Type 0} (stated : Data → Option X) (o : Option Data)
    → option_map_or (stated_list stated) o (Some []) ≡ or_empty (option_map (stated_list stated) o)
list_map stated None = refl
list_map stated (Some d) = refl

-- the list of a key that may be missing is what its slot has, and else empty
pub slot_listed : {X : Type 0} (stated : Data → Option X) (q : List ℕ) (ms : Members) (s : Option (Option (List X)))
    → s ≡ member_slot (stated_list stated) q ms → list_at_key stated q ms ≡ or_empty s
slot_listed stated q ms s e = list_map stated (get_member q ms) ∙ ap or_empty (sym e)

-- and of a number that must not be there
zero_map : {X : Type 0} (stated : Data → Option X) (o : Option Data)
    → option_map_or (λ _. None) o (Some (pos 0)) ≡ zero_if (option_map stated o)
zero_map stated None = refl
zero_map stated (Some d) = refl

-- a key that must not be there states 0 where its slot is empty
pub slot_zero : {X : Type 0} (stated : Data → Option X) (q : List ℕ) (ms : Members) (s : Option (Option X))
    → s ≡ member_slot stated q ms → zero_but_at_key q ms ≡ zero_if s
slot_zero stated q ms s e = zero_map stated (get_member q ms) ∙ ap zero_if (sym e)

-- ---- a field and those behind it

-- neither of two is
neither : (a b : Bool) → (a || b) ≡ false → (a ≡ false) × (b ≡ false)
neither true b e = absurd (true≢false e)
neither false b e = (refl, e)

-- they stay at another key
pub both_stay : {F G : Type 0} (name : F → List ℕ) (holds : F → Members → Type 0) (names : G → List (List ℕ))
    (hold : G → Members → Type 0)
    → ((f : F) (k : List ℕ) (d : Data) (ms : Members) → bytes_eq k (name f) ≡ false → holds f ms → holds f (put k d ms))
    → ((s : G) (k : List ℕ) (d : Data) (ms : Members) → list_any (bytes_eq k) (names s) ≡ false → hold s ms
    → hold s (put k d ms))
    → (f : F) (s : G) (k : List ℕ) (d : Data) (ms : Members) → list_any (bytes_eq k) (name f ∷ names s) ≡ false
    → (holds f ms) × (hold s ms) × (list_any (bytes_eq (name f)) (names s) ≡ false)
    → (holds f (put k d ms)) × (hold s (put k d ms)) × (list_any (bytes_eq (name f)) (names s) ≡ false)
both_stay name holds names hold stays stay f s k d ms other h =
    let others = neither (bytes_eq k (name f)) (list_any (bytes_eq k) (names s)) other in
    (stays f k d ms others.0 h.0, stay s k d ms others.1 h.1, h.2)

-- what is made of two that are the same is the same
pub both_made : {X Y : Type 0} {a b : Option X} {c d : Option Y} → a ≡ b → c ≡ d → both a c ≡ both b d
both_made {a} {b} {c} {d} e f = ap (λ x. both x c) e ∙ ap (λ y. both b y) f

-- ---- an object

-- it states what a table that holds its members makes
pub object_made : {F X : Type 0} (names : F → List (List ℕ)) (hold : F → Members → Type 0)
    (states : List (List ℕ) → Members → Option X) (made : F → Option X)
    → ((f : F) (ms : Members) → hold f ms → states (names f) ms ≡ made f)
    → (all : List (List ℕ)) (f : F) (known : Bool) (ms : Members) → Holds names hold all f known ms
    → object_of all (states all) (object ms) ≡ (if known then made f else None)
object_made names hold states made law all f known ms h =
    ap (λ b. if b then states all ms else None) (sym h.2)
    ∙ ap (λ o. if known then o else None) (ap (λ a. states a ms) (sym h.0) ∙ law f ms h.1)
