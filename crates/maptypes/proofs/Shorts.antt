-- A row of twenty places with one more filled.
use Rattle.std.proofs.Common.{◌≡◌, sym, ap, ◌∙◌, ℕ, zero, suc, ◌+◌, ◌-◌, ◌<◌, List, [], ◌∷◌, take, drop, set, refl, replicate, arith, drop-drop}
use Rattle.std.proofs.lemmas.List.{length-set, drop-set-lt, drop-replicate}
use Rattle.maptypes.specs.Shorts.{IsFilled}

-- an entry in the first blank place leaves the places behind it blank
pub IsFilled-set : {T : Type 0} (blank : T) (len : ℕ) (places : List T) (entry : T) → IsFilled blank len places → len < 20 → IsFilled blank (len + 1) (set places len entry)
IsFilled-set blank len places entry filled room = record {
  few = omega (arith, room);
  twenty = length-set places len entry ∙ filled.twenty;
  none_behind = drop-set-lt (len + 1) places len entry (omega arith) ∙ (sym (drop-drop 1 len places) ∙ ap (drop 1) filled.none_behind ∙ drop-replicate 1 (20 - len) blank) ∙ ap (λ n. replicate n blank) (omega arith);
}

-- another entry in a place of the list leaves what is behind the list blank
pub IsFilled-put : {T : Type 0} (blank : T) (len : ℕ) (places : List T) (i : ℕ) (entry : T) → IsFilled blank len places → i < len → IsFilled blank len (set places i entry)
IsFilled-put blank len places i entry filled inside = record {
  few = filled.few;
  twenty = length-set places i entry ∙ filled.twenty;
  none_behind = drop-set-lt len places i entry inside ∙ filled.none_behind;
}

-- and changes the list in that place
pub take-put : {T : Type 0} (n : ℕ) (places : List T) (i : ℕ) (entry : T) → i < n → take n (set places i entry) ≡ set (take n places) i entry
take-put zero places i entry inside = absurd (omega arith)
take-put (suc n) [] i entry inside = refl
take-put (suc n) (p ∷ places) zero entry inside = refl
take-put (suc n) (p ∷ places) (suc i) entry inside = ap (λ rest. p ∷ rest) (take-put n places i entry (omega arith))
