-- What a table of fields holds after one member more.
use Rattle.std.proofs.Common.{◌≡◌, ◌&&◌, ℕ, Bool, true, false, List, bytes_eq, Option, Some, refl, sym, ap, subst, ◌∙◌}
use Rattle.std.specs.List.{list_any}
use Rattle.std.proofs.lemmas.Slice.Eq.{bytes_eq-Decides}
use Rattle.json.specs.Token.{Token}
use Rattle.serde_json.specs.Data.{Data, Members, put}
use Rattle.jsonstream.specs.Json.{has_only_keys}
use Rattle.jsonstream.proofs.Puts.{known_put}
use Rattle.partjson.specs.Fields.{Holds}

-- a field that takes its member holds it, and those behind it stay
pub first_takes : {F G : Type 0} (name : F → List ℕ) (holds : F → Members → Type 0) (names : G → List (List ℕ)) (hold : G → Members → Type 0)
    → ((s : G) (k : List ℕ) (d : Data) (ms : Members) → list_any (bytes_eq k) (names s) ≡ false → hold s ms → hold s (put k d ms))
    → (key : List ℕ) (d : Data) (f after : F) (s : G) → bytes_eq key (name f) ≡ true → name after ≡ name f
    → ((ms : Members) → holds after (put (name f) d ms)) → (ms : Members)
    → (holds f ms) × (hold s ms) × (list_any (bytes_eq (name f)) (names s) ≡ false)
    → (holds after (put key d ms)) × (hold s (put key d ms)) × (list_any (bytes_eq (name after)) (names s) ≡ false)
first_takes name holds names hold stay key d f after s e named came ms h =
    let same : key ≡ name f = (bytes_eq-Decides key (name f)).0 e in
    let apart : list_any (bytes_eq key) (names s) ≡ false = ap (λ n. list_any (bytes_eq n) (names s)) same ∙ h.2 in
    (subst (λ n. holds after (put n d ms)) (sym same) (came ms), stay s key d ms apart h.1, ap (λ n. list_any (bytes_eq n) (names s)) named ∙ h.2)

-- a table that took a member holds it
pub held_in : {F : Type 0} (names : F → List (List ℕ)) (hold : F → Members → Type 0) (k : List ℕ) (d : Data) (f g : F)
    → list_any (bytes_eq k) (names f) ≡ true → names g ≡ names f → ((ms : Members) → hold f ms → hold g (put k d ms))
    → (known : Bool) (ms : Members) → Holds names hold (names f) f known ms → Holds names hold (names f) g (true && known) (put k d ms)
held_in names hold k d f g e same took known ms h = (same, took ms h.1, h.2 ∙ sym (known_put (names f) k d ms ∙ ap (λ b. b && has_only_keys (names f) ms) e))

-- one that a call left as it was holds it too, and a key is unknown then
pub held_past : {F : Type 0} (names : F → List (List ℕ)) (hold : F → Members → Type 0) (stay : (f : F) (k : List ℕ) (d : Data) (ms : Members) → list_any (bytes_eq k) (names f) ≡ false → hold f ms → hold f (put k d ms))
    (k : List ℕ) (f after : F) → after ≡ f → list_any (bytes_eq k) (names f) ≡ false
    → (d : Data) (known : Bool) (ms : Members) → Holds names hold (names f) f known ms → Holds names hold (names f) after (false && known) (put k d ms)
held_past names hold stay k f after same e d known ms h =
    subst (λ g. Holds names hold (names f) g false (put k d ms)) (sym same) (refl, stay f k d ms e h.1, sym (known_put (names f) k d ms ∙ ap (λ b. b && has_only_keys (names f) ms) e))

-- one step more under the names of the beginning
pub held_on : {F : Type 0} (names : F → List (List ℕ)) (hold : F → Members → Type 0) (all : List (List ℕ)) (f g : F) (known after : Bool) (ms next : Members)
    → (Holds names hold (names f) f known ms → Holds names hold (names f) g after next)
    → Holds names hold all f known ms → Holds names hold all g after next
held_on names hold all f g known after ms next step h = subst (λ a. Holds names hold a g after next) h.0 (step (refl, h.1, h.2 ∙ ap (λ a. has_only_keys a ms) (sym h.0)))

-- a member that is passed where a call left the tokens as they were
pub passed : (read : List Token → Option (Data × List Token)) (ts left rest : List Token) (says : Data → Type 0) → left ≡ ts
    → (d : Data) × (read left ≡ Some (d, rest)) → ((d : Data) → says d)
    → (d : Data) × (read ts ≡ Some (d, rest)) × says d
passed read ts left rest says e h f = (h.0, ap read (sym e) ∙ h.1, f h.0)
