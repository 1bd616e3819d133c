-- Lines, and texts with no newline.
use Rattle.std.proofs.Common.{◌≡◌, ◌∙◌, ℕ, ◌+◌, ◌<◌, ◌≤◌, false, List, [], ◌∷◌, ◌++◌, take, drop, length, get_or, get_or-take, length-take-le, take-append-drop, drop-cons, Some, None, add-one, refl, sym, ap, arith}
use Rattle.std.proofs.lemmas.Grind.{common_steps}
use Rattle.std.proofs.lemmas.List.Elements.{All-head, All-tail, All-from_get_or}
use Rattle.std.proofs.lemmas.List.Quantifiers.{position-Some}
use Rattle.std.proofs.lemmas.List.Sums.{fails_before_first}
use Rattle.std.proofs.lemmas.Bool.{eqb-true}
use Rattle.std.specs.List.{position, position_or_len}
use Rattle.session.specs.Commands.{is_newline, lines_in}
use Rattle.session.specs.Readings.{IsUnended}

-- what a part and a newline make a line of
pub lines_in-part : (part others : List ℕ) → IsUnended part → lines_in (part ++ 10 ∷ others) ≡ part ∷ lines_in others
unfolding lines_in
lines_in-part [] others none = refl
lines_in-part (c ∷ cs) others none =
    rw (All-head (λ b. is_newline b ≡ false) c cs none, lines_in-part cs others (All-tail (λ b. is_newline b ≡ false) c cs none)) refl

-- a part with nothing behind it is a line, where it is not empty
pub lines_in-last : (part : List ℕ) → IsUnended part → 0 < length part → lines_in part ≡ part ∷ []
unfolding lines_in
lines_in-last [] none some = absurd (omega arith)
lines_in-last (c ∷ []) none some = rw (All-head (λ b. is_newline b ≡ false) c [] none) refl
lines_in-last (c ∷ d ∷ cs) none some =
    rw (All-head (λ b. is_newline b ≡ false) c (d ∷ cs) none, lines_in-last (d ∷ cs) (All-tail (λ b. is_newline b ≡ false) c (d ∷ cs) none) (omega arith)) refl

-- no newline is found in a part alone
pub part_none : (text : List ℕ) → position is_newline text ≡ None → IsUnended text
part_none text e =
    let past : length text ≤ position_or_len is_newline text = grind (arith, common_steps) in
    All-from_get_or (λ b. is_newline b ≡ false) text 0 (λ i lt. fails_before_first is_newline text i 0 (omega arith))

-- before the first newline stands a part
pub part_before : (text : List ℕ) (end : ℕ) → position is_newline text ≡ Some end → IsUnended (take end text)
part_before text end e =
    let (within, here, before) = position-Some is_newline text end 0 e in
    let long = length-take-le end text (omega arith) in
    All-from_get_or (λ b. is_newline b ≡ false) (take end text) 0
    (λ i lt. rw (get_or-take end text i 0 (omega (arith, long))) (before i (omega (arith, long))))

-- behind what stands before the first newline comes the newline
pub cut_at : (text : List ℕ) (end : ℕ) → position is_newline text ≡ Some end → text ≡ take end text ++ 10 ∷ drop (end + 1) text
cut_at text end e =
    let (within, here, before) = position-Some is_newline text end 0 e in
    let ten : get_or text end 0 ≡ 10 = eqb-true _ _ here in
    sym (take-append-drop end text) ∙ ap (λ t. take end text ++ t) (drop-cons text end 0 within ∙ rw (ten, add-one end) refl)

-- an empty text has no lines
pub lines_in-none : lines_in [] ≡ []
unfolding lines_in
lines_in-none = refl
