-- Members of an object, as they are put in one after another.
use Rattle.std.proofs.Common.{◌≡◌, ℕ, Bool, true, false, ◌&&◌, List, Ordering, Less, Equal, Greater, nat_cmp, is_eq, bytes_eq, true≢false, Option, option_map, refl, sym, ap, ◌∙◌}
use Rattle.std.specs.List.{list_any}
use Rattle.std.specs.Ordering.{match_ordering}
use Rattle.std.specs.Cmp.Lexicographic.{slice_cmp}
use Rattle.std.proofs.lemmas.Slice.Eq.{bytes_eq-Decides}
use Rattle.std.proofs.lemmas.Map.Text.{is_eq-slice_cmp}
use Rattle.serde_json.specs.Data.{Data, Members, no_members, member, put}
use Rattle.serde_json.proofs.Views.{get_member-put_other}
use Rattle.jsonstream.specs.Stream.{member_slot}
use Rattle.jsonstream.specs.Json.{has_only_keys}

-- a test twice is that test
twice : (a b : Bool) → (a && b) ≡ (a && (a && b))
twice true b = refl
twice false b = refl

-- two tests in turn
turned : (a b c : Bool) → (a && (b && c)) ≡ (b && (a && c))
turned true true c = refl
turned true false c = refl
turned false true c = refl
turned false false c = refl

-- texts that are not equal byte by byte differ
apart : (q k : List ℕ) → bytes_eq q k ≡ false → q ≡ k → ⊥
apart q k e same = true≢false (sym ((bytes_eq-Decides q k).1 same) ∙ e)

-- the keys after one member more, by the order of the first two
known_at : (o : Ordering) (names : List (List ℕ)) (k l : List ℕ) (d e : Data) (ms : Members) → slice_cmp nat_cmp k l ≡ o
    → has_only_keys names (put k d ms) ≡ (list_any (bytes_eq k) names && has_only_keys names ms)
    → has_only_keys names (match_ordering o (member k d (member l e ms)) (member l d ms) (member l e (put k d ms))) ≡ (list_any (bytes_eq k) names && (list_any (bytes_eq l) names && has_only_keys names ms))
known_at Less names k l d e ms is later = refl
known_at Equal names k l d e ms is later =
    let same : k ≡ l = (bytes_eq-Decides k l).0 (sym (is_eq-slice_cmp k l) ∙ ap is_eq is) in
    rw same (twice (list_any (bytes_eq l) names) (has_only_keys names ms))
known_at Greater names k l d e ms is later = ap (λ b. list_any (bytes_eq l) names && b) later ∙ turned (list_any (bytes_eq l) names) (list_any (bytes_eq k) names) (has_only_keys names ms)

-- an object has no other keys where the one put in is among the names
pub known_put : (names : List (List ℕ)) (k : List ℕ) (d : Data) (ms : Members) → has_only_keys names (put k d ms) ≡ (list_any (bytes_eq k) names && has_only_keys names ms)
known_put names k d no_members = refl
known_put names k d (member l e ms) = known_at _ names k l d e ms refl (known_put names k d ms)

-- a member that is put in at another key changes no slot
pub slot_kept : {X : Type 0} (stated : Data → Option X) (q k : List ℕ) (d : Data) (ms : Members) → (k ≡ q → ⊥) → member_slot stated q (put k d ms) ≡ member_slot stated q ms
slot_kept stated q k d ms other = ap (option_map stated) (get_member-put_other q k d ms (λ same. other (sym same)))
