-- Candidates, and what OSDs weigh.
use Rattle.std.proofs.Common.{◌≡◌, ◌∙◌, refl, sym, ap, ℕ, ◌+◌, ◌<◌, ◌≤◌, Bool, true, false, cond, List, [], ◌∷◌, ◌++◌, length, get_or, drop, map, inl, inr, arith}
use Rattle.std.specs.Prelude.{slice_index, nat_le}
use Rattle.std.specs.List.{filter, find, flat_map, range_with_len}
use Rattle.std.specs.Option.{option_map_or, option_or}
use Rattle.std.proofs.lemmas.Bool.{cases_lt}
use Rattle.std.proofs.lemmas.Bool.Decides.{nat_tests}
use Rattle.std.proofs.lemmas.List.{drop_more, get_or_past, map-id, map_push}
use Rattle.std.proofs.lemmas.List.Concat.{flat_map-cons}
use Rattle.std.proofs.lemmas.List.Elements.{filter-append}
use Rattle.std.proofs.lemmas.List.Folds.{find-append}
use Rattle.std.proofs.lemmas.List.FromFn.{length-range_with_len, map-range_with_len_more}
use Rattle.std.proofs.lemmas.List.Sums.{length-filter, count_by-le-length}
use Rattle.std.proofs.lemmas.Option.{slice_get_past, slice_get-get_or}
use Rattle.keylist.proofs.Each.{list_all-at}
use Rattle.osdmap.specs.Maps.{ClusterMap, osd_at, HoldsTogether}

-- a search among what lists give goes on behind the first of them
pub find_joined : {X Y : Type 0} (q : Y → Bool) (f : X → List Y) (xs : List X) (i : ℕ) (x : X) → i < length xs → x ≡ get_or xs i x
    → find q (flat_map f (drop i xs)) ≡ option_or (find q (f x)) (find q (flat_map f (drop (i + 1) xs)))
find_joined q f xs i x inside is =
    let here : drop i xs ≡ x ∷ drop (i + 1) xs = drop_more xs i x inside ∙ ap (λ y. y ∷ drop (i + 1) xs) (sym is) in
    ap (λ ys. find q (flat_map f ys)) here ∙ ap (find q) (flat_map-cons f x (drop (i + 1) xs)) ∙ find-append q (f x) (flat_map f (drop (i + 1) xs))

-- one more number, where it passes
range_more : (n : ℕ) → range_with_len 0 (n + 1) ≡ range_with_len 0 n ++ n ∷ []
range_more n =
    sym (map-id (range_with_len 0 (n + 1))) ∙ map-range_with_len_more (λ (k : ℕ). k) 0 n n (omega arith) ∙ ap (λ xs. xs ++ n ∷ []) (map-id (range_with_len 0 n))

-- a range that is one longer is filtered with its last number behind
filter_more_range : (p : ℕ → Bool) (n : ℕ) → filter p (range_with_len 0 (n + 1)) ≡ filter p (range_with_len 0 n) ++ cond (p n) (n ∷ []) []
filter_more_range p n = ap (filter p) (range_more n) ∙ filter-append p (range_with_len 0 n) (n ∷ []) ∙ ap (λ xs. filter p (range_with_len 0 n) ++ xs) (one (p n) refl)
  where
    one : (b : Bool) → p n ≡ b → filter p (n ∷ []) ≡ cond b (n ∷ []) []
    one true is = rw is refl
    one false is = rw is refl

-- where the last number passes
pub filter_range_yes : (p : ℕ → Bool) (n : ℕ) → p n ≡ true → filter p (range_with_len 0 (n + 1)) ≡ filter p (range_with_len 0 n) ++ n ∷ []
filter_range_yes p n is = filter_more_range p n ∙ rw is refl

-- and where it does not
pub filter_range_no : (p : ℕ → Bool) (n : ℕ) → p n ≡ false → filter p (range_with_len 0 (n + 1)) ≡ filter p (range_with_len 0 n)
filter_range_no p n is = filter_more_range p n ∙ rw is (append_nil (filter p (range_with_len 0 n)))
  where
    append_nil : (xs : List ℕ) → xs ++ [] ≡ xs
    append_nil [] = refl
    append_nil (x ∷ xs) = ap (λ ys. x ∷ ys) (append_nil xs)

-- what is filtered of a range is at most as long as it
pub few_filtered : (p : ℕ → Bool) (k n : ℕ) → k ≤ n → length (filter p (range_with_len 0 k)) ≤ n
few_filtered p k n few = omega (arith, length-filter p (range_with_len 0 k), count_by-le-length p (range_with_len 0 k), length-range_with_len 0 k)

-- ---- reweights

-- what a map has of an OSD shows its reweight, 0 where it has none
pub reweight_shown : (m : ClusterMap) (osd : ℕ) → HoldsTogether m → option_map_or (λ s. s.weight) (osd_at m osd) 0 ≡ slice_index m.weights osd
reweight_shown m osd holds = elim (cases_lt osd (length m.presences)) [
  | inl below ↦ rw (slice_get-get_or m.presences osd (record { exists = false; up = false }) below) refl
  | inr past ↦ rw (slice_get_past m.presences osd past) (sym (get_or_past m.weights osd 0 (omega (arith, holds.osds.weighed))))
]

-- a reweight of a map is at most 65,536
pub reweight_small : (m : ClusterMap) (osd : ℕ) → HoldsTogether m → slice_index m.weights osd ≤ 65536
reweight_small m osd holds = elim (cases_lt osd (length m.weights)) [
  | inl below ↦ grind (arith, nat_tests, list_all-at (λ w. nat_le w 65536) m.weights osd 0 below holds.osds.weigh_little)
  | inr past ↦ rw (get_or_past m.weights osd 0 past) (omega arith)
]

-- what is made of those that pass, one number on
pub made_range_yes : {X : Type 0} (f : ℕ → X) (p : ℕ → Bool) (n : ℕ) → p n ≡ true → map f (filter p (range_with_len 0 (n + 1))) ≡ map f (filter p (range_with_len 0 n)) ++ f n ∷ []
made_range_yes f p n is = ap (map f) (filter_range_yes p n is) ∙ map_push f (filter p (range_with_len 0 n)) n

-- what is made of a filtered range, where the last number does not pass
pub made_range_no : {X : Type 0} (f : ℕ → X) (p : ℕ → Bool) (n : ℕ) → p n ≡ false → map f (filter p (range_with_len 0 (n + 1))) ≡ map f (filter p (range_with_len 0 n))
made_range_no f p n is = ap (map f) (filter_range_no p n is)
