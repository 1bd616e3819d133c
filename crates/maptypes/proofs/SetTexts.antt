-- The text of a set, place by place.
use Rattle.std.proofs.Common.{◌≡◌, ℕ, ◌+◌, ◌<◌, List, [], ◌∷◌, ◌++◌, length, drop, get_or, Option, refl, ap, ◌∙◌, append_assoc, drop-cons, add-one}
use Rattle.maptypes.specs.SetText.{more_texts, place_text}

-- the next of the places that are left, behind its comma
pub next_place : (done whole : List ℕ) (places : List (Option ℕ)) (i : ℕ) (place other : Option ℕ) → i < length places
    → place ≡ get_or places i other → done ++ more_texts place_text (drop i places) ≡ whole
    → ((done ++ 44 ∷ []) ++ place_text place) ++ more_texts place_text (drop (i + 1) places) ≡ whole
next_place done whole places i place other within is so_far =
    append_assoc (done ++ 44 ∷ []) (place_text place) _ ∙ append_assoc done (44 ∷ []) _
    ∙ ap (λ t. done ++ t) (rw (is, add-one i, drop-cons places i other within) refl) ∙ so_far
