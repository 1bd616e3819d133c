-- The OSDs that the parts of a map list, looked up by number.
use Rattle.std.proofs.Common.{◌≡◌, ◌≢◌, ℕ, zero, suc, ◌+◌, ◌<◌, ◌≤◌, Bool, true, false, not, eqb, cond, List, [], ◌∷◌, map, length, get_or, Option, Some, None, nat_abs, refl, sym, inl, inr, arith, eq-eqb}
use mathlib.Core.Bool.{false≢true}
use Rattle.std.specs.Prelude.{filter_map, slice_get, slice_index, if◌then◌else◌, ◌||◌, nat_le}
use Rattle.std.specs.List.{list_any, list_all, range_with_len}
use Rattle.std.specs.Option.{option_map_or}
use Rattle.std.proofs.lemmas.Bool.{cases_eq, ne_eqb}
use Rattle.std.proofs.lemmas.Bool.Decides.{nat_tests}
use Rattle.std.proofs.lemmas.List.FromFn.{fill_by_all}
use Rattle.std.proofs.lemmas.Option.{slice_get-get_or, slice_get_within}
use Rattle.keylist.proofs.Each.{list_all-at}
use Rattle.maptypes.specs.declared.osd.Presence.{Presence}
use Rattle.maptypes.specs.declared.osd.OsdState.{OsdState}
use Rattle.mapparts.specs.declared.parts.OsdPart.{OsdPart}
use Rattle.keylist.specs.Keys.{is_distinct}
use Rattle.osdmap.specs.Maps.{ClusterMap, is_presence, HoldsTogether}
use Rattle.mapparts.specs.Parts.{osd_fits, osd_fits_in}
use Rattle.osdmap.specs.Stated.{osd_ok, listed_osd, presence_in, weight_in}
use Rattle.osdmap.specs.PartsOf.{osd_part, is_notable, part_listed, osd_parts}
use Rattle.mapjson.proofs.OwnValues.{natural_fits}

-- ---- lists of what some numbers give, each under its own number

module _ (f : ℕ → Option OsdPart) (own : (n : ℕ) (o : OsdPart) → f n ≡ Some o → nat_abs o.id ≡ n) where
  absent : (a n k : ℕ) → k < a → listed_osd (filter_map f (range_with_len a n)) k ≡ None
  absent a zero k below = refl
  absent a (suc n) k below = by_first (f a) refl (absent (a + 1) n k (omega arith))
    where
      by_first : (o : Option OsdPart) → f a ≡ o → listed_osd (filter_map f (range_with_len (a + 1) n)) k ≡ None → listed_osd (filter_map f (range_with_len a (suc n))) k ≡ None
      by_first None is rest = rw is rest
      by_first (Some o) is rest = rw (is, own a o is, ne_eqb a k (λ same. omega (arith, same, below))) rest

  found : (a n k : ℕ) → a ≤ k → k < a + n → listed_osd (filter_map f (range_with_len a n)) k ≡ f k
  found a zero k low high = absurd (omega arith)
  found a (suc n) k low high = elim (cases_eq a k) [
    | inl same ↦ rw (← same) (by_first (f a) refl)
    | inr other ↦ by_other (f a) refl (found (a + 1) n k (omega (arith, other, low)) (omega arith)) other
  ]
    where
      by_first : (o : Option OsdPart) → f a ≡ o → listed_osd (filter_map f (range_with_len a (suc n))) a ≡ f a
      by_first None is = rw is (absent (a + 1) n a (omega arith))
      by_first (Some o) is = rw (is, own a o is, eq-eqb a a refl) refl

      by_other : (o : Option OsdPart) → f a ≡ o → listed_osd (filter_map f (range_with_len (a + 1) n)) k ≡ f k → a ≢ k → listed_osd (filter_map f (range_with_len a (suc n))) k ≡ f k
      by_other None is rest other = rw is rest
      by_other (Some o) is rest other = rw (is, own a o is, ne_eqb a k other) rest

  none_named : (k : ℕ) (os : List OsdPart) → listed_osd os k ≡ None → list_any (λ j. eqb j k) (map (λ o. nat_abs o.id) os) ≡ false
  none_named k [] none = refl
  none_named k (o ∷ os) none = by_test (eqb (nat_abs o.id) k) refl (none_named k os)
    where
      by_test : (b : Bool) → eqb (nat_abs o.id) k ≡ b → (listed_osd os k ≡ None → list_any (λ j. eqb j k) (map (λ o. nat_abs o.id) os) ≡ false) → list_any (λ j. eqb j k) (map (λ o. nat_abs o.id) (o ∷ os)) ≡ false
      by_test true is others = let wrong : Some o ≡ None = rw is at none in cc
      by_test false is others = let rest : listed_osd os k ≡ None = rw is at none in rw is (others rest)

  apart : (a n : ℕ) → is_distinct (map (λ o. nat_abs o.id) (filter_map f (range_with_len a n))) ≡ true
  unfolding is_distinct
  apart a zero = refl
  apart a (suc n) = by_first (f a) refl (apart (a + 1) n)
    where
      by_first : (o : Option OsdPart) → f a ≡ o → is_distinct (map (λ o. nat_abs o.id) (filter_map f (range_with_len (a + 1) n))) ≡ true → is_distinct (map (λ o. nat_abs o.id) (filter_map f (range_with_len a (suc n)))) ≡ true
      by_first None is rest = rw is rest
      by_first (Some o) is rest = rw (is, own a o is, none_named a (filter_map f (range_with_len (a + 1) n)) (absent (a + 1) n a (omega arith)), rest) refl

  all_listed : (q : OsdPart → Bool) → ((k : ℕ) (o : OsdPart) → f k ≡ Some o → q o ≡ true) → (ks : List ℕ) → list_all q (filter_map f ks) ≡ true
  all_listed q so [] = refl
  all_listed q so (k ∷ ks) = by_first (f k) refl (all_listed q so ks)
    where
      by_first : (o : Option OsdPart) → f k ≡ o → list_all q (filter_map f ks) ≡ true → list_all q (filter_map f (k ∷ ks)) ≡ true
      by_first None is rest = rw is rest
      by_first (Some o) is rest = rw (is, so k o is, rest) refl

-- ---- one OSD

-- what is listed of an OSD of a map
pub record IsListed (m : ClusterMap) (n : ℕ) (o : OsdPart) : Type 0 where
  pub presence : Presence
  pub there : slice_get m.presences n ≡ Some presence
  pub is : o ≡ osd_part n (record { exists = presence.exists; up = presence.up; weight = slice_index m.weights n })

-- an OSD that is listed is stated as it is
notable_is : (n : ℕ) (s : OsdState) (o : OsdPart) (b : Bool) → cond b (Some (osd_part n s)) None ≡ Some o → o ≡ osd_part n s
notable_is n s o true h = cc
notable_is n s o false h = cc

-- it is listed at its number
is_listed_of : (m : ClusterMap) (n : ℕ) (o : OsdPart) → part_listed m n ≡ Some o → IsListed m n o
is_listed_of m n o is = by_row (slice_get m.presences n) refl
  where
    by_row : (p : Option Presence) → slice_get m.presences n ≡ p → IsListed m n o
    by_row None none = let wrong : None ≡ Some o = rw none at is in cc
    by_row (Some p) here = record {
      presence = p;
      there = here;
      is = notable_is n _ o _ (rw here at is);
    }

-- with its own number
own_number : (m : ClusterMap) (n : ℕ) (o : OsdPart) → part_listed m n ≡ Some o → nat_abs o.id ≡ n
own_number m n o is = let listed_is = is_listed_of m n o is in rw listed_is.is refl

-- and found there among the parts
pub own_listed : (m : ClusterMap) (n : ℕ) → n < length m.presences → listed_osd (osd_parts m) n ≡ part_listed m n
own_listed m n inside = found (part_listed m) (own_number m) 0 (length m.presences) n (omega arith) (omega arith)

-- no OSD is listed twice
pub own_distinct : (m : ClusterMap) → is_distinct (map (λ o. nat_abs o.id) (osd_parts m)) ≡ true
own_distinct m = apart (part_listed m) (own_number m) 0 (length m.presences)

-- a presence and a reweight as they are listed
presence_own : (n w : ℕ) (e u : Bool) → (not u || e) ≡ true
    → option_map_or {U = Presence} (λ (o : OsdPart). record { exists = o.exists; up = o.up }) (if is_notable (record { exists = e; up = u; weight = w }) then Some (osd_part n (record { exists = e; up = u; weight = w })) else None)
    (record { exists = false; up = false }) ≡ record { exists = e; up = u }
presence_own n w true u h = refl
presence_own n zero false false h = refl
presence_own n (suc w) false false h = rw (ne_eqb (suc w) 0 (λ same. omega (arith, same))) refl
presence_own n w false true h = absurd (false≢true h)

-- its reweight is the stated one, or 0 where it is not listed
weight_own : (n w : ℕ) (e u : Bool)
    → option_map_or (λ (o : OsdPart). nat_abs o.weight) (if is_notable (record { exists = e; up = u; weight = w }) then Some (osd_part n (record { exists = e; up = u; weight = w })) else None) 0 ≡ w
weight_own n w true u = refl
weight_own n zero false u = refl
weight_own n (suc w) false u = rw (ne_eqb (suc w) 0 (λ same. omega (arith, same))) refl

module _ (m : ClusterMap) (holds : HoldsTogether m) where
  present_at : (n : ℕ) (p : Presence) → slice_get m.presences n ≡ Some p → is_presence p ≡ true
  present_at n p here =
      let inside = slice_get_within m.presences n p here in
      let is : get_or m.presences n p ≡ p = let at = slice_get-get_or m.presences n p inside in cc in
      rw is at (list_all-at is_presence m.presences n p inside holds.osds.present)

  little_at : (n : ℕ) → n < length m.presences → slice_index m.weights n ≤ 65536
  little_at n inside =
      let within : n < length m.weights = rw holds.osds.weighed inside in
      let test = list_all-at (λ w. nat_le w 65536) m.weights n 0 within holds.osds.weigh_little in
      grind (arith, nat_tests, test)

  -- ---- tests of each

  one_ok : (n : ℕ) (o : OsdPart) → part_listed m n ≡ Some o → osd_ok (length m.presences) o ≡ true
  unfolding osd_ok
  one_ok n o is =
      let l = is_listed_of m n o is in
      let inside = slice_get_within m.presences n l.presence l.there in
      let fine = present_at n l.presence l.there in
      rw l.is (grind (arith, nat_tests, inside, fine))

  pub own_ok : list_all (osd_ok (length m.presences)) (osd_parts m) ≡ true
  own_ok = all_listed (part_listed m) (own_number m) (osd_ok (length m.presences)) one_ok (range_with_len 0 (length m.presences))

  one_fits : (n : ℕ) (o : OsdPart) → part_listed m n ≡ Some o → osd_fits o ≡ true
  unfolding osd_fits_in
  one_fits n o is =
      let l = is_listed_of m n o is in
      let inside = slice_get_within m.presences n l.presence l.there in
      let id = natural_fits 0 4095 n (omega arith) (omega (arith, inside, holds.osds.few)) in
      let weight = natural_fits 0 65536 (slice_index m.weights n) (omega arith) (little_at n inside) in
      rw l.is (grind (arith, id, weight))

  pub own_fit : list_all osd_fits (osd_parts m) ≡ true
  own_fit = all_listed (part_listed m) (own_number m) osd_fits one_fits (range_with_len 0 (length m.presences))

  -- ---- what they state

  no_one : Presence
  no_one = record { exists = false; up = false }

  one_presence : (n : ℕ) → n < length m.presences → get_or m.presences n no_one ≡ presence_in (osd_parts m) n
  one_presence n inside =
      let here = slice_get-get_or m.presences n no_one inside in
      let p = get_or m.presences n no_one in
      rw (own_listed m n inside, here) (sym (presence_own n (slice_index m.weights n) p.exists p.up (present_at n p here)))

  pub own_presences : m.presences ≡ map (presence_in (osd_parts m)) (range_with_len 0 (length m.presences))
  own_presences = fill_by_all (presence_in (osd_parts m)) m.presences (length m.presences) no_one refl one_presence

  one_weight : (n : ℕ) → n < length m.presences → get_or m.weights n 0 ≡ weight_in (osd_parts m) n
  one_weight n inside =
      let here = slice_get-get_or m.presences n no_one inside in
      let p = get_or m.presences n no_one in
      rw (own_listed m n inside, here) (sym (weight_own n (slice_index m.weights n) p.exists p.up))

  pub own_weights : m.weights ≡ map (weight_in (osd_parts m)) (range_with_len 0 (length m.presences))
  own_weights = fill_by_all (weight_in (osd_parts m)) m.weights (length m.presences) 0 holds.osds.weighed one_weight
