-- The lists of the groups that stand on each OSD: how they are made, and kept.
use Rattle.std.proofs.Common.{◌≡◌, ◌≢◌, ◌∙◌, refl, sym, ap, subst, ℕ, suc, ◌+◌, ◌==◌, ◌<◌, Bool, true, false, List, [], ◌∷◌, ◌++◌, append-nil, append_assoc, length, get_or, take, set, Option, Some, None, eqb, inl, inr, arith}
use mathlib.Core.Bool.{false≢true, or-true}
use Rattle.std.specs.Prelude.{◌||◌}
use Rattle.std.specs.List.{All, list_any}
use Rattle.std.proofs.lemmas.Bool.{cases_Bool, cases_lt, eqb-true, eq-eqb}
use Rattle.std.proofs.lemmas.List.{length-set, length-take-le, get_or-set_same, get_or-set_other, get_or-take, get_or_default, set_past}
use Rattle.std.proofs.lemmas.List.Elements.{All-nil, All-append, All-push, All-weaker}
use Rattle.std.proofs.lemmas.List.Folds.{list_any_more, list_any-append}
use Rattle.maptypes.specs.Sets.{is_of, stands}
use Rattle.balancer.specs.declared.group.Group.{Group}
use Rattle.balancer.specs.Standing.{row_of, put_in, HasNumber, IsKnownAt, AreLonger, AreRowsOf}

-- a number that stands in a list does so where it gets longer
in_more : (n : ℕ) (row more : List ℕ) → HasNumber n row → HasNumber n (row ++ more)
in_more n row more there = list_any-append (λ k. k == n) row more ∙ rw there refl

-- so does one that comes behind
in_end : (n : ℕ) (row : List ℕ) → HasNumber n (row ++ n ∷ [])
in_end n row = list_any-append (λ k. k == n) row (n ∷ []) ∙ rw (eq-eqb n n refl) (or-true (list_any (λ k. k == n) row))

-- it does so at a place
pub place_in : (n : ℕ) (row : List ℕ) → HasNumber n row → (k : ℕ) × (k < length row) × (get_or row k n ≡ n)
place_in n [] there = absurd (false≢true there)
place_in n (x ∷ xs) there = elim (cases_Bool (eqb x n)) [
  | inl here ↦ (0, omega arith, eqb-true x n here)
  | inr other ↦ let (k, inside, is) = place_in n xs (rw other at there) in (suc k, omega (arith, inside), is)
]

-- two numbers that are not the same
apart_if : (a b : ℕ) → eqb a b ≡ false → a ≢ b
apart_if a b other = λ e. absurd (false≢true (sym other ∙ eq-eqb a b e))

-- ---- a number comes

-- lists that have not changed
pub longer_same : (n : ℕ) (rows : List (List ℕ)) → AreLonger n rows rows
longer_same n rows = record { many = refl; each = λ osd. ([], sym (append-nil (row_of rows osd)), All-nil (λ k. k ≡ n)) }

-- a number comes behind those of an OSD
pub longer_put : (n osd : ℕ) (before rows : List (List ℕ)) → AreLonger n before rows → AreLonger n before (put_in rows osd n)
longer_put n osd before rows longer = record { many = length-set rows osd (row_of rows osd ++ n ∷ []) ∙ longer.many; each = each }
  where
    each : (other : ℕ) → (more : List ℕ) × (row_of (put_in rows osd n) other ≡ row_of before other ++ more) × All (λ k. k ≡ n) more
    each other = elim (cases_Bool (eqb other osd)) [
      | inr apart ↦
          let (more, is, all) = longer.each other in
          (more, get_or-set_other rows osd other (row_of rows osd ++ n ∷ []) [] (apart_if other osd apart) ∙ is, all)
      | inl here ↦ elim (cases_lt osd (length rows)) [
        | inr past ↦
            let (more, is, all) = longer.each other in
            (more, ap (λ rs. row_of rs other) (set_past rows osd (row_of rows osd ++ n ∷ []) past) ∙ is, all)
        | inl inside ↦
            let same = eqb-true other osd here in
            let (more, is, all) = longer.each osd in (
              more ++ n ∷ [],
              rw same (get_or-set_same rows osd (row_of rows osd ++ n ∷ []) [] inside ∙ ap (λ r. r ++ n ∷ []) is ∙ append_assoc (row_of before osd) more (n ∷ [])),
              All-push (λ k. k ≡ n) more n all refl,
            )
      ]
    ]

-- what is known stays known
known_longer : (n k osd : ℕ) (before after : List (List ℕ)) → AreLonger n before after → HasNumber k (row_of before osd) → HasNumber k (row_of after osd)
known_longer n k osd before after longer there = let (more, is, all) = longer.each osd in rw is (in_more k (row_of before osd) more there)

-- at one place more there is no OSD
pub known_hole : (n : ℕ) (rows : List (List ℕ)) (places : List (Option ℕ)) (i : ℕ) (d : Option ℕ) → i < length places → get_or places i d ≡ None
    → IsKnownAt n rows (λ osd. stands osd (take i places) ≡ true) → IsKnownAt n rows (λ osd. stands osd (take (i + 1) places) ≡ true)
known_hole n rows places i d inside hole known = λ osd below stood.
    let both : (stands osd (take i places) || is_of osd (get_or places i d)) ≡ true = sym (list_any_more (is_of osd) places i d inside) ∙ stood in
    known osd below (before (stands osd (take i places)) (rw hole at both))
  where
    before : (b : Bool) → (b || false) ≡ true → b ≡ true
    before true h = refl
    before false h = h

-- at one place more there is one, of which it becomes known
pub known_put : (n osd : ℕ) (rows : List (List ℕ)) (places : List (Option ℕ)) (i : ℕ) (d : Option ℕ) → i < length places → get_or places i d ≡ Some osd
    → IsKnownAt n rows (λ other. stands other (take i places) ≡ true) → IsKnownAt n (put_in rows osd n) (λ other. stands other (take (i + 1) places) ≡ true)
known_put n osd rows places i d inside here known = λ other below stood.
    let room : other < length rows = omega (arith, length-set rows osd (row_of rows osd ++ n ∷ []), below) in
    let both : (stands other (take i places) || eqb osd other) ≡ true = rw here at (sym (list_any_more (is_of other) places i d inside) ∙ stood) in
    elim (cases_Bool (stands other (take i places))) [
      | inl before ↦ known_longer n n other rows (put_in rows osd n) (longer_put n osd rows rows (longer_same n rows)) (known other room before)
      | inr not ↦
          let same : osd ≡ other = eqb-true osd other (rw not at both) in
          let at_end : row_of (put_in rows osd n) osd ≡ row_of rows osd ++ n ∷ [] = get_or-set_same rows osd (row_of rows osd ++ n ∷ []) [] (rw same room) in
          subst (λ o. HasNumber n (row_of (put_in rows osd n) o)) same (rw at_end (in_end n (row_of rows osd)))
    ]

-- ---- the groups that stand on each OSD

-- no group stands anywhere
pub rows_none : (count : ℕ) (rows : List (List ℕ)) → ((osd : ℕ) → row_of rows osd ≡ []) → AreRowsOf [] rows
rows_none count rows none = record {
  there = λ osd. rw (none osd) (All-nil (λ n. n < 0));
  each = λ osd n g below inside is stood. absurd (omega (arith, inside));
}

-- one group more
pub rows_more : (gs : List Group) (i : ℕ) (g : Group) (before after : List (List ℕ)) → AreRowsOf (take i gs) before → i < length gs → g ≡ get_or gs i g
    → AreLonger i before after → IsKnownAt i after (λ osd. stands osd g.places ≡ true) → AreRowsOf (take (i + 1) gs) after
rows_more gs i g before after rows inside at longer known = record { there = there; each = each }
  where
    long : length (take i gs) ≡ i
    long = length-take-le i gs (omega (arith, inside))

    longer_by : length (take (i + 1) gs) ≡ i + 1
    longer_by = length-take-le (i + 1) gs (omega (arith, inside))

    there : (osd : ℕ) → All (λ n. n < length (take (i + 1) gs)) (row_of after osd)
    there osd =
        let (more, is, all) = longer.each osd in
        rw is (All-append (λ n. n < length (take (i + 1) gs)) (row_of before osd) more
        (All-weaker (λ n. n < length (take i gs)) (λ n. n < length (take (i + 1) gs)) (λ n low. omega (arith, low, long, longer_by)) (row_of before osd) (rows.there osd))
        (All-weaker (λ n. n ≡ i) (λ n. n < length (take (i + 1) gs)) (λ n same. omega (arith, same, longer_by)) more all))

    each : (osd n : ℕ) (h : Group) → osd < length after → n < length (take (i + 1) gs) → get_or (take (i + 1) gs) n h ≡ h → stands osd h.places ≡ true → HasNumber n (row_of after osd)
    each osd n h below low is stood = elim (cases_lt n i) [
      | inl earlier ↦
          let was : get_or (take i gs) n h ≡ h = get_or-take i gs n h earlier ∙ sym (get_or-take (i + 1) gs n h (omega (arith, earlier))) ∙ is in
          known_longer i n osd before after longer (rows.each osd n h (omega (arith, longer.many, below)) (omega (arith, long, earlier)) was stood)
      | inr late ↦
          let same : n ≡ i = omega (arith, late, low, longer_by) in
          let is_g : h ≡ g = sym is ∙ get_or-take (i + 1) gs n h (omega (arith, same)) ∙ ap (λ k. get_or gs k h) same ∙ get_or_default gs i h g inside ∙ sym at in
          rw same (known osd below (rw is_g at stood))
    ]

-- where a number has come of a group that is there, they are as they should be
pub rows_kept : (gs : List Group) (v : ℕ) (before after : List (List ℕ)) → AreRowsOf gs before → v < length gs → AreLonger v before after → AreRowsOf gs after
rows_kept gs v before after rows inside longer = record {
  there = λ osd.
      let (more, is, all) = longer.each osd in
      rw is (All-append (λ n. n < length gs) (row_of before osd) more (rows.there osd)
      (All-weaker (λ n. n ≡ v) (λ n. n < length gs) (λ n same. omega (arith, same, inside)) more all));
  each = λ osd n g below low is stood. known_longer v n osd before after longer (rows.each osd n g (omega (arith, longer.many, below)) low is stood);
}

-- so they are once the group stands elsewhere, where it is known
pub rows_moved : (gs : List Group) (v : ℕ) (g : Group) (before after : List (List ℕ)) → AreRowsOf gs before → v < length gs → AreLonger v before after
    → IsKnownAt v after (λ osd. stands osd g.places ≡ true) → AreRowsOf (set gs v g) after
rows_moved gs v g before after rows inside longer known =
    let kept = rows_kept gs v before after rows inside longer in
    let long : length (set gs v g) ≡ length gs = length-set gs v g in
    record {
      there = λ osd. rw long (kept.there osd);
      each = λ osd n h below low is stood. elim (cases_Bool (eqb n v)) [
        | inl here ↦
            let same : n ≡ v = eqb-true n v here in
            let is_g : h ≡ g = sym is ∙ ap (λ k. get_or (set gs v g) k h) same ∙ get_or-set_same gs v g h inside in
            rw same (known osd below (rw is_g at stood))
        | inr apart ↦
            kept.each osd n h below (omega (arith, long, low)) (sym (get_or-set_other gs v n g h (apart_if n v apart)) ∙ is) stood
      ];
    }
