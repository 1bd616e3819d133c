-- Sets stored side by side: one more, another in the place of one, and what stands in a place.
use Rattle.std.proofs.Common.{◌≡◌, ℕ, zero, suc, ◌+◌, ◌-◌, ◌*◌, ◌<◌, ◌≤◌, Bool, true, false, not, List, [], ◌∷◌, ◌++◌, map, length, get_or, take, drop, set, replicate, refl, ap, sym, ◌∙◌, add-one, arith, drop-drop}
use mathlib.Core.Bool.{false≢true}
use Rattle.std.specs.List.{list_all, suffix_len}
use Rattle.std.proofs.lemmas.Nat.{mul-le}
use Rattle.std.proofs.lemmas.List.Sums.{suffix_len_is}
use Rattle.std.proofs.lemmas.List.Folds.{list_all-append, list_all_at}
use Rattle.std.proofs.lemmas.List.{get_or-take, get_or-drop, get_or-replicate, length-append, length-drop, length-map, length-take-le, take_at, drop_at, take-append-le, drop-append-le, drop-take, take-take, take_all, length-set, take_more_set, drop-set-lt, drop-replicate}
use Rattle.maptypes.specs.Sets.{Places}
use Rattle.grouptable.specs.Sets.{is_end, place_stored, set_stored, set_of}
use Rattle.grouptable.specs.Stored.{IsPadded, AreSideBySide, sets_stored, overwritten}

-- a number below the length of a filled set is no end
filled_by : (b : Bool) (xs : List ℕ) (i d : ℕ) → is_end (get_or xs i d) ≡ b → i < length xs → list_all (λ n. not (is_end n)) xs ≡ true → is_end (get_or xs i d) ≡ false
filled_by true xs i d e inside all = absurd (false≢true (sym (list_all_at (λ n. not (is_end n)) xs i d inside (ap not e)) ∙ all))
filled_by false xs i d e inside all = e

-- so it is of every such number
filled_at : (xs : List ℕ) (i d : ℕ) → i < length xs → list_all (λ n. not (is_end n)) xs ≡ true → is_end (get_or xs i d) ≡ false
filled_at xs i d inside all = filled_by (is_end (get_or xs i d)) xs i d refl inside all

-- behind a filled set each place is an end
end_at : (len : ℕ) (places : List ℕ) (width k d : ℕ) → IsPadded len places → len ≤ k → k < width → width ≤ 20 → is_end (get_or (take width places) k d) ≡ true
end_at len places width k d is past inside few =
    let behind : get_or places k d ≡ 65534 =
    ap (λ n. get_or places n d) (omega (arith, past)) ∙ sym (get_or-drop len places (k - len) d) ∙ ap (λ xs. get_or xs (k - len) d) is.behind ∙ get_or-replicate (20 - len) (k - len) 65534 d (omega (arith, past, inside, few)) in
    ap is_end (get_or-take width places k d inside ∙ behind)

-- the row of a set has its places, and ends behind them
pub row_is : (len : ℕ) (places : List ℕ) (width : ℕ) → IsPadded len places → len ≤ width → width ≤ 20 → take (length (take width places) - suffix_len is_end (take width places)) (take width places) ≡ take len places
row_is len places width is fits few =
    let long : length (take width places) ≡ width = length-take-le width places (omega (arith, is.all, few)) in
    let last : 0 < len → is_end (get_or (take width places) (len - 1) 0) ≡ false =
    (λ some. ap is_end (get_or-take width places (len - 1) 0 (omega (arith, some, fits)) ∙ sym (get_or-take len places (len - 1) 0 (omega (arith, some)))) ∙ filled_at (take len places) (len - 1) 0 (omega (arith, some, length-take-le len places (omega (arith, is.all, is.few)))) is.filled) in
    let ends : suffix_len is_end (take width places) ≡ length (take width places) - len =
    suffix_len_is is_end (take width places) len 0 (omega (arith, long, fits)) (λ k past inside. end_at len places width k 0 is past (omega (arith, inside, long)) few) last in
    ap (λ n. take n (take width places)) (omega (arith, ends, long, fits)) ∙ take-take len width places fits

-- a set with one more place
pub push_filled : (len : ℕ) (places : List ℕ) (x : ℕ) → IsPadded len places → len < 20 → is_end x ≡ false → IsPadded (len + 1) (set places len x)
push_filled len places x is room none = record {
  few = omega (arith, room);
  all = length-set places len x ∙ is.all;
  filled =
      rw (take_more_set places len x (omega (arith, is.all, room)), list_all-append (λ n. not (is_end n)) (take len places) (x ∷ []), is.filled, none) refl;
  behind =
      drop-set-lt (len + 1) places len x (omega arith)
      ∙ (sym (drop-drop 1 len places) ∙ ap (drop 1) is.behind ∙ drop-replicate 1 (20 - len) 65534)
      ∙ ap (λ n. replicate n 65534) (omega arith);
}

-- there are as many sets as there should be
pub sets_count : (width n : ℕ) (places : List ℕ) → length (sets_stored width n places) ≡ n
sets_count width zero places = refl
sets_count width (suc n) places = ap suc (sets_count width n (drop width places))

-- the set of a number
pub set_number : (width n : ℕ) (places : List ℕ) (k : ℕ) (d : Places) → k < n → get_or (sets_stored width n places) k d ≡ set_stored (take width (drop (k * width) places))
set_number width zero places k d below = absurd (omega arith)
set_number width (suc n) places zero d below = let none : 0 * width ≡ 0 = omega arith in rw none refl
set_number width (suc n) places (suc k) d below =
    let far : suc k * width ≡ width + k * width = omega arith in
    set_number width n (drop width places) k d (omega arith)
    ∙ ap (λ ps. set_stored (take width ps)) (drop-drop (k * width) width places)
    ∙ ap (λ m. set_stored (take width (drop m places))) (sym far)

-- its numbers are there
pub number_within : (width n k : ℕ) → k < n → k * width + width ≤ n * width
number_within width n k below =
    let far : suc k * width ≡ width + k * width = omega arith in
    omega (arith, mul-le (suc k) width n width (omega arith) (omega arith), far)

-- one more set
set_more : (width n : ℕ) (places row : List ℕ) → length places ≡ n * width → length row ≡ width → sets_stored width (suc n) (places ++ row) ≡ sets_stored width n places ++ set_stored row ∷ []
set_more width zero [] row all wide = ap (λ r. set_stored r ∷ []) (take_all width row (omega arith))
set_more width zero (p ∷ places) row all wide = absurd (omega arith)
set_more width (suc n) places row all wide =
    let far : suc n * width ≡ width + n * width = omega arith in
    let long : width ≤ length places = omega (arith, all, far) in
    let rest : length (drop width places) ≡ n * width = length-drop width places ∙ omega (arith, all, far) in
    ap (λ ps. set_stored ps ∷ sets_stored width (suc n) (drop width (places ++ row))) (take-append-le width places row long)
    ∙ ap (λ ps. set_stored (take width places) ∷ sets_stored width (suc n) ps) (drop-append-le width places row long)
    ∙ ap (λ ss. set_stored (take width places) ∷ ss) (set_more width n (drop width places) row rest wide)

-- the same where they are counted up
pub set_pushed : (width n : ℕ) (places row : List ℕ) → length places ≡ n * width → length row ≡ width → sets_stored width (n + 1) (places ++ row) ≡ sets_stored width n places ++ set_stored row ∷ []
set_pushed width n places row all wide = rw add-one (set_more width n places row all wide)

-- the sets of two lists side by side
pub sets_append : (width n m : ℕ) (places others : List ℕ) → length places ≡ n * width → sets_stored width (n + m) (places ++ others) ≡ sets_stored width n places ++ sets_stored width m others
sets_append width zero m [] others all = ap (λ k. sets_stored width k others) (omega arith)
sets_append width zero m (p ∷ places) others all = absurd (omega arith)
sets_append width (suc n) m places others all =
    let far : suc n * width ≡ width + n * width = omega arith in
    let long : width ≤ length places = omega (arith, all, far) in
    let rest : length (drop width places) ≡ n * width = length-drop width places ∙ omega (arith, all, far) in
    let next : suc n + m ≡ suc (n + m) = omega arith in
    rw next (
    ap (λ ps. set_stored ps ∷ sets_stored width (n + m) (drop width (places ++ others))) (take-append-le width places others long)
    ∙ ap (λ ps. set_stored (take width places) ∷ sets_stored width (n + m) ps) (drop-append-le width places others long)
    ∙ ap (λ ss. set_stored (take width places) ∷ ss) (sets_append width n m (drop width places) others rest)
    )

-- what is written behind the first numbers leaves them, and is written among the others
first_left : (width m : ℕ) (row places : List ℕ) → width ≤ length places → m ≤ length places - width → take width (overwritten (width + m) row places) ≡ take width places
first_left width m row places long fits =
    take-append-le width (take (width + m) places) _ (omega (arith, length-take-le (width + m) places (omega (arith, long, fits))))
    ∙ take-take width (width + m) places (omega arith)

-- and the others are written as by themselves
others_written : (width m : ℕ) (row places : List ℕ) → width ≤ length places → m ≤ length places - width → drop width (overwritten (width + m) row places) ≡ overwritten m row (drop width places)
others_written width m row places long fits =
    drop-append-le width (take (width + m) places) _ (omega (arith, length-take-le (width + m) places (omega (arith, long, fits))))
    ∙ ap (λ front. front ++ (row ++ drop (width + m + length row) places)) (drop-take width m places)
    ∙ ap (λ back. take m (drop width places) ++ (row ++ back)) (ap (λ n. drop n places) (omega arith) ∙ sym (drop-drop (m + length row) width places))

-- so many numbers stay
pub length_written : (at : ℕ) (row numbers : List ℕ) → at + length row ≤ length numbers → length (overwritten at row numbers) ≡ length numbers
length_written at row numbers fits =
    omega (arith, length-append (take at numbers) (row ++ drop (at + length row) numbers), length-append row (drop (at + length row) numbers), length-take-le at numbers (omega (arith, fits)), length-drop (at + length row) numbers, fits)

-- another set in the place of one
pub set_put : (width n : ℕ) (places row : List ℕ) (k : ℕ) → length places ≡ n * width → length row ≡ width → k < n → sets_stored width n (overwritten (k * width) row places) ≡ set (sets_stored width n places) k (set_stored row)
set_put width zero places row k all wide below = absurd (omega arith)
set_put width (suc n) places row zero all wide below =
    let none : 0 * width ≡ 0 = omega arith in
    let back : 0 + length row ≡ width = omega (arith, wide) in
    rw none (
    ap (λ ps. set_stored ps ∷ sets_stored width n (drop width (row ++ drop (0 + length row) places))) (take_at row (drop (0 + length row) places) width wide)
    ∙ ap (λ ps. set_stored row ∷ sets_stored width n ps) (drop_at row (drop (0 + length row) places) width wide ∙ ap (λ m. drop m places) back)
    )
set_put width (suc n) places row (suc k) all wide below =
    let far : suc n * width ≡ width + n * width = omega arith in
    let farther : suc k * width ≡ width + k * width = omega arith in
    let within = number_within width n k (omega arith) in
    let long : width ≤ length places = omega (arith, all, far) in
    let rest : length (drop width places) ≡ n * width = length-drop width places ∙ omega (arith, all, far) in
    let fits : k * width ≤ length places - width = omega (arith, all, far, within) in
    rw farther (
    ap (λ ps. set_stored ps ∷ sets_stored width n (drop width (overwritten (width + k * width) row places))) (first_left width (k * width) row places long fits)
    ∙ ap (λ ps. set_stored (take width places) ∷ sets_stored width n ps) (others_written width (k * width) row places long fits)
    ∙ ap (λ ss. set_stored (take width places) ∷ ss) (set_put width n (drop width places) row k rest wide (omega arith))
    )

-- a set is as long as it says
pub filled_len : (len : ℕ) (places : List ℕ) → IsPadded len places → length (map place_stored (take len places)) ≡ len
filled_len len places is = length-map (take len places) place_stored ∙ length-take-le len places (omega (arith, is.few, is.all))

-- the numbers of a group's set are there
pub set_within : (width n : ℕ) (places : List ℕ) (k : ℕ) → AreSideBySide width n places → k < length (sets_stored width n places) → k * width + width ≤ length places
set_within width n places k is below =
    omega (arith, is.all, number_within width n k (omega (arith, below, sets_count width n places)))

-- they are its set
pub set_there : (width n : ℕ) (places : List ℕ) (k : ℕ) → k < length (sets_stored width n places) → set_stored (take width (drop (k * width) places)) ≡ set_of (sets_stored width n places) k
set_there width n places k below = sym (set_number width n places k [] (omega (arith, below, sets_count width n places)))

-- another set in its place
pub set_replaced : (width n : ℕ) (places row : List ℕ) (k : ℕ) → AreSideBySide width n places → length row ≡ width → k < length (sets_stored width n places) → sets_stored width n (overwritten (k * width) row places) ≡ set (sets_stored width n places) k (set_stored row)
set_replaced width n places row k is wide below = set_put width n places row k is.all wide (omega (arith, below, sets_count width n places))
