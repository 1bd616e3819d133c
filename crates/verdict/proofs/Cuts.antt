-- A text that is cut at the first byte of a kind.
use Rattle.std.proofs.Common.{◌≡◌, ◌∙◌, ℕ, ◌+◌, ◌≤◌, false, List, [], ◌∷◌, ◌++◌, take, drop, length, get_or, get_or-take, length-take-le, take-append-drop, drop-cons, Some, None, add-one, eqb, eq-eqb, refl, sym, ap, arith}
use Rattle.std.proofs.lemmas.Grind.{common_steps}
use Rattle.std.proofs.lemmas.List.Elements.{All-from_get_or}
use Rattle.std.proofs.lemmas.List.Quantifiers.{position-Some}
use Rattle.std.proofs.lemmas.List.Splits.{slice_split_none, slice_split_at}
use Rattle.std.proofs.lemmas.List.Sums.{fails_before_first}
use Rattle.std.proofs.lemmas.Bool.{eqb-true}
use Rattle.std.specs.List.{All, position, position_or_len, slice_split}

-- where no byte of the kind is found, the text is the one part
pub cut_none : (at : ℕ) (text : List ℕ) → position (λ c. eqb c at) text ≡ None → slice_split (λ c. eqb c at) text ≡ text ∷ []
cut_none at text e =
    let past : length text ≤ position_or_len (λ c. eqb c at) text = grind (arith, common_steps) in
    slice_split_none (λ c. eqb c at) text
    (All-from_get_or (λ b. eqb b at ≡ false) text 0 (λ i lt. fails_before_first (λ c. eqb c at) text i 0 (omega (arith, past, lt))))

-- before the first of them stands none
before_first_one : (at : ℕ) (text : List ℕ) (end : ℕ) → position (λ c. eqb c at) text ≡ Some end → All (λ b. eqb b at ≡ false) (take end text)
before_first_one at text end e =
    let (within, here, before) = position-Some (λ c. eqb c at) text end 0 e in
    let long = length-take-le end text (omega (arith, within)) in
    All-from_get_or (λ b. eqb b at ≡ false) (take end text) 0
    (λ i lt. rw (get_or-take end text i 0 (omega (arith, long, lt))) (before i (omega (arith, long, lt))))

-- a text in its parts before and behind it
in_two : (at : ℕ) (text : List ℕ) (end : ℕ) → position (λ c. eqb c at) text ≡ Some end → text ≡ take end text ++ at ∷ drop (end + 1) text
in_two at text end e =
    let (within, here, before) = position-Some (λ c. eqb c at) text end 0 e in
    let same : get_or text end 0 ≡ at = eqb-true _ _ here in
    sym (take-append-drop end text) ∙ ap (λ t. take end text ++ t) (drop-cons text end 0 within ∙ rw (same, add-one end) refl)

-- where one is found, what stands before it is the first part
pub cut_some : (at : ℕ) (text : List ℕ) (end : ℕ) → position (λ c. eqb c at) text ≡ Some end
    → slice_split (λ c. eqb c at) text ≡ take end text ∷ slice_split (λ c. eqb c at) (drop (end + 1) text)
cut_some at text end e =
    ap (slice_split (λ c. eqb c at)) (in_two at text end e)
    ∙ slice_split_at (λ c. eqb c at) (take end text) at (drop (end + 1) text) (before_first_one at text end e) (eq-eqb at at refl)
