-- The text of a group names that group.
use Rattle.std.proofs.Common.{◌≡◌, ℕ, ◌+◌, ◌*◌, ◌/◌, ◌%◌, ◌^◌, ◌<◌, ◌≤◌, ◌==◌, Bool, true, false, List, [], ◌∷◌, ◌++◌, length, take, drop, Some, zero, suc, refl, ◌∙◌, subst, arith, one-add, add-one, lit≤, length-append}
use Rattle.std.specs.List.{position, position_or_len}
use Rattle.std.proofs.lemmas.List.{take_all, take-append-le}
use Rattle.std.proofs.lemmas.Nat.{div-add-mod', div_below, mod_below}
use Rattle.std.proofs.Math.Nat.{pow-zero, pow-suc}
use Rattle.std.specs.Fmt.{digits, digits_onto, digit_glyph, decimal}
use Rattle.maptypes.specs.declared.pg.Pg.{Pg}
use Rattle.mapparts.specs.Digits.{digit_of, value_after, number_in}
use Rattle.mapparts.specs.PgText.{is_point, within, parts_in}
use Rattle.maptypes.specs.GroupText.{group_in, group_text}

-- ---- one digit

-- the glyph of a digit is read as that digit
digit_of-glyph : (base d : ℕ) → d < base → base ≤ 16 → digit_of base (digit_glyph false d) ≡ Some d
unfolding digit_of
digit_of-glyph base d low high = grind arith

-- a further digit
value_after-glyph : (base n : ℕ) (acc : List ℕ) → 2 ≤ base → base ≤ 16
    → value_after base (n / base) (digit_glyph false (n % base) ∷ acc) ≡ value_after base n acc
unfolding value_after
value_after-glyph base n acc low high =
    rw (digit_of-glyph base (n % base) (mod_below n base (omega arith)) high, div-add-mod' n base) refl

-- ---- the digits of a number

-- digits before others make the number before them
abbrev ReadsBack : ℕ → ℕ → Type 0
ReadsBack k base = (n : ℕ) (acc : List ℕ) → n < base ^ k → value_after base 0 (digits_onto k base false n acc) ≡ value_after base n acc

-- the digits of a number are read back, by its last digit and the digits before
by_last : (k base n : ℕ) (acc : List ℕ) (b : Bool) → 2 ≤ base → base ≤ 16 → n < base ^ suc k → (n / base == 0) ≡ b → ReadsBack k base
    → value_after base 0 (digits_onto (suc k) base false n acc) ≡ value_after base n acc
by_last k base n acc true low high small e more =
    let none : n / base ≡ 0 = grind (arith, e) in
    let read : value_after base 0 (digit_glyph false (n % base) ∷ acc) ≡ value_after base n acc =
    subst (λ m. value_after base m (digit_glyph false (n % base) ∷ acc) ≡ value_after base n acc) none (value_after-glyph base n acc low high) in
    rw e read
by_last k base n acc false low high small e more =
    let front : n / base < base ^ k = div_below n base (base ^ k) (omega arith) (rw (← pow-suc base k) small) in
    rw e (more (n / base) (digit_glyph false (n % base) ∷ acc) front ∙ value_after-glyph base n acc low high)

-- the digits of a number are read back as that number
reads_back : (k base : ℕ) → 2 ≤ base → base ≤ 16 → ReadsBack k base
reads_back zero base low high n acc small =
    let below : n < 1 = rw (← pow-zero base) small in
    let none : n ≡ 0 = omega arith in
    rw none refl
reads_back (suc k) base low high n acc small = by_last k base n acc (n / base == 0) low high small refl (reads_back k base low high)

-- ---- no leading zeros

-- the first digit is not 0
abbrev Leads : List ℕ → Type 0
Leads text = (d : ℕ) × (cs : List ℕ) × (text ≡ digit_glyph false d ∷ cs) × (0 < d)

-- the digits of a number above 0 do not begin with 0, by its last digit and the digits before
leads_by : (k base n : ℕ) (acc : List ℕ) (b : Bool) → 2 ≤ base → 0 < n → n < base ^ suc k → (n / base == 0) ≡ b
    → ((m : ℕ) (more : List ℕ) → 0 < m → m < base ^ k → Leads (digits_onto k base false m more)) → Leads (digits_onto (suc k) base false n acc)
leads_by k base n acc true low some small e more =
    let none : n / base ≡ 0 = grind (arith, e) in
    let whole : n / base * base + n % base ≡ n = div-add-mod' n base in
    (n % base, acc, rw e refl, grind (arith, none, whole))
leads_by k base n acc false low some small e more =
    let front : n / base < base ^ k = div_below n base (base ^ k) (omega arith) (rw (← pow-suc base k) small) in
    rw e (more (n / base) (digit_glyph false (n % base) ∷ acc) (grind arith) front)

-- the digits of a number above 0 do not begin with 0
leads : (k base : ℕ) → 2 ≤ base → (n : ℕ) (acc : List ℕ) → 0 < n → n < base ^ k → Leads (digits_onto k base false n acc)
leads zero base low n acc some small =
    let below : n < 1 = rw (← pow-zero base) small in
    absurd (omega arith)
leads (suc k) base low n acc some small = leads_by k base n acc (n / base == 0) low some small refl (leads k base low)

-- a text that does not begin with 0 is read digit by digit
number_in-leads : (base : ℕ) (text : List ℕ) → Leads text → number_in base text ≡ value_after base 0 text
unfolding number_in
number_in-leads base text (d, [], e, some) = rw e refl
number_in-leads base text (d, c ∷ cs, e, some) =
    let other : (digit_glyph false d == 48) ≡ false = grind arith in
    rw (e, other) refl

-- the decimal text of a number is read as that number
number_in-decimal : (n : ℕ) → n < 2 ^ 32 → number_in 10 (decimal n) ≡ Some n
unfolding digits number_in value_after digit_of
number_in-decimal zero small = refl
number_in-decimal (suc n) small =
    let large : 2 ^ 32 ≤ 10 ^ 64 = lit≤ tt in
    let fits : suc n < 10 ^ 64 = omega (arith, small, large) in
    number_in-leads 10 _ (leads 64 10 (lit≤ tt) (suc n) [] (omega arith) fits) ∙ reads_back 64 10 (lit≤ tt) (lit≤ tt) (suc n) [] fits

-- so is its hexadecimal text
number_in-hexadecimal : (n : ℕ) → n < 2 ^ 32 → number_in 16 (digits 16 false n) ≡ Some n
unfolding digits number_in value_after digit_of
number_in-hexadecimal zero small = refl
number_in-hexadecimal (suc n) small =
    let large : 2 ^ 32 ≤ 16 ^ 64 = lit≤ tt in
    let fits : suc n < 16 ^ 64 = omega (arith, small, large) in
    number_in-leads 16 _ (leads 64 16 (lit≤ tt) (suc n) [] (omega arith) fits) ∙ reads_back 64 16 (lit≤ tt) (lit≤ tt) (suc n) [] fits

-- ---- the point

-- no byte is a point
abbrev Pointless : List ℕ → Type 0
Pointless [] = Unit {0}
Pointless (c ∷ cs) = (is_point c ≡ false) × Pointless cs

-- digits have no point, by the last one and those before
pointless_by : (k base n : ℕ) (acc : List ℕ) (b : Bool) → (n / base == 0) ≡ b → Pointless acc
    → ((m : ℕ) (more : List ℕ) → Pointless more → Pointless (digits_onto k base false m more)) → Pointless (digits_onto (suc k) base false n acc)
pointless_by k base n acc true e others more = rw e (grind arith, others)
pointless_by k base n acc false e others more = rw e (more (n / base) (digit_glyph false (n % base) ∷ acc) (grind arith, others))

-- digits have no point
pointless : (k base n : ℕ) (acc : List ℕ) → Pointless acc → Pointless (digits_onto k base false n acc)
pointless zero base n acc others = others
pointless (suc k) base n acc others = pointless_by k base n acc (n / base == 0) refl others (pointless k base)

-- the point stands behind a text without one
place_of_point : (xs ys : List ℕ) → Pointless xs → position_or_len is_point (xs ++ 46 ∷ ys) ≡ length xs
place_of_point [] ys none = refl
place_of_point (x ∷ xs) ys none = rw (none.0, place_of_point xs ys none.1, one-add (length xs)) refl

-- it is found there
position-point : (xs ys : List ℕ) → Pointless xs → position is_point (xs ++ 46 ∷ ys) ≡ Some (length xs)
position-point xs ys none = grind (arith, place_of_point xs ys none, length-append xs (46 ∷ ys))

-- behind it is the rest
drop-point : (xs ys : List ℕ) → drop (length xs + 1) (xs ++ 46 ∷ ys) ≡ ys
drop-point [] ys = refl
drop-point (x ∷ xs) ys =
    let behind : drop (suc (length xs)) (xs ++ 46 ∷ ys) ≡ ys = subst (λ n. drop n (xs ++ 46 ∷ ys) ≡ ys) (add-one (length xs)) (drop-point xs ys) in
    rw (add-one (suc (length xs))) behind

-- the text of a number has no point
pointless_digits : (base n : ℕ) → Pointless (digits base false n)
unfolding digits
pointless_digits base n = pointless 64 base n [] tt

-- ---- the whole text

-- the text of a group is read back as that group
pub group_in-text : (pg : Pg) → pg.pool < 2 ^ 32 → pg.number < 2 ^ 32 → group_in (group_text pg) ≡ Some pg
unfolding parts_in
group_in-text pg pool number =
    let none : Pointless (decimal pg.pool) = pointless_digits 10 pg.pool in
    let front = decimal pg.pool in
    let back = digits 16 false pg.number in
    let cut : take (length front) (front ++ 46 ∷ back) ≡ front = take-append-le (length front) front (46 ∷ back) (omega arith) ∙ take_all (length front) front (omega arith) in
    let low_pool : within pg.pool ≡ Some pg.pool = grind (arith, pool) in
    let low_number : within pg.number ≡ Some pg.number = grind (arith, number) in
    rw (position-point front back none, cut, drop-point front back, number_in-decimal pg.pool pool, number_in-hexadecimal pg.number number, low_pool, low_number) refl
