-- What stays of old tables, taken into the places of the new ones one after another.
use Rattle.std.proofs.Common.{◌≡◌, ◌≢◌, ◌∙◌, refl, sym, ap, ℕ, zero, suc, ◌+◌, ◌<◌, ◌≤◌, List, [], ◌∷◌, length, map, set, Option, Some, None, inl, inr, arith}
use Rattle.std.specs.Prelude.{slice_get}
use Rattle.std.specs.List.{zip}
use Rattle.std.specs.Option.{option_map}
use Rattle.std.proofs.lemmas.Bool.{cases_order}
use Rattle.std.proofs.lemmas.List.{length-set, length-map}
use Rattle.std.proofs.lemmas.Option.{slice_get-map}
use Rattle.pgtable.specs.declared.pool_table.PoolTable.{PoolTable}
use Rattle.pgtable.specs.declared.patch.KeptTable.{KeptTable}
use Rattle.pgtable.specs.Patches.{with_kept, FitsAt, FitAll}

-- ---- lists by places

-- putting in an entry leaves the others
pub get_set_other : {X : Type 0} (xs : List X) (i k : ℕ) (x : X) → k ≢ i → slice_get (set xs i x) k ≡ slice_get xs k
get_set_other [] i k x other = refl
get_set_other (y ∷ ys) zero zero x other = absurd (other refl)
get_set_other (y ∷ ys) zero (suc k) x other = refl
get_set_other (y ∷ ys) (suc i) zero x other = refl
get_set_other (y ∷ ys) (suc i) (suc k) x other = get_set_other ys i k x (λ e. other (ap suc e))

-- and is found at its place
pub get_set_same : {X : Type 0} (xs : List X) (i : ℕ) (x : X) → i < length xs → slice_get (set xs i x) i ≡ Some x
get_set_same [] i x inside = absurd (omega arith)
get_set_same (y ∷ ys) zero x inside = refl
get_set_same (y ∷ ys) (suc i) x inside = get_set_same ys i x (omega arith)

-- entries side by side are found together
pub get_zip : {X Y : Type 0} (xs : List X) (ys : List Y) (i : ℕ) (x : X) (y : Y) → slice_get xs i ≡ Some x → slice_get ys i ≡ Some y → slice_get (zip xs ys) i ≡ Some (x, y)
get_zip [] ys i x y p q = let wrong : None ≡ Some x = p in absurd (cc)
get_zip (a ∷ xs) [] i x y p q = let wrong : None ≡ Some y = q in absurd (cc)
get_zip (a ∷ xs) (b ∷ ys) zero x y p q =
    let e : a ≡ x = cc in
    let f : b ≡ y = cc in
    rw (e, f) refl
get_zip (a ∷ xs) (b ∷ ys) (suc i) x y p q = get_zip xs ys i x y p q

-- two lists of one length are as long side by side
pub long_zip : {X Y : Type 0} (xs : List X) (ys : List Y) → length ys ≡ length xs → length (zip xs ys) ≡ length xs
long_zip [] ys same = refl
long_zip (x ∷ xs) [] same = absurd (omega arith)
long_zip (x ∷ xs) (y ∷ ys) same = ap suc (long_zip xs ys (omega arith))

-- lists of one length with equal entries are equal
pub same_lists : {X : Type 0} (xs ys : List X) → length xs ≡ length ys → ((k : ℕ) → k < length xs → slice_get xs k ≡ slice_get ys k) → xs ≡ ys
same_lists [] [] long same = refl
same_lists [] (y ∷ ys) long same = absurd (omega arith)
same_lists (x ∷ xs) [] long same = absurd (omega arith)
same_lists (x ∷ xs) (y ∷ ys) long same =
    let first : Some x ≡ Some y = same 0 (omega arith) in
    let e : x ≡ y = cc in
    rw (e, same_lists xs ys (omega arith) (λ k inside. same (suc k) (omega arith))) refl

-- ---- so far

-- the first tables have what stays, and all others are as they were
pub record Keeps (old0 pools0 : List PoolTable) (kept0 : List (Option KeptTable)) (i : ℕ) (old pools : List PoolTable) (kept : List (Option KeptTable)) : Type 0 where
  pub long : length pools ≡ length pools0
  pub kept_long : length kept ≡ length kept0
  pub old_long : length old ≡ length old0
  pub done : (k : ℕ) → k < i → slice_get pools k ≡ slice_get (map (λ e. with_kept old0 e.0 e.1) (zip pools0 kept0)) k
  pub rest : (k : ℕ) → i ≤ k → slice_get pools k ≡ slice_get pools0 k
  pub kept_rest : (k : ℕ) → i ≤ k → slice_get kept k ≡ slice_get kept0 k
  pub olds : (k : ℕ) (b : KeptTable) → i ≤ k → slice_get kept0 k ≡ Some (Some b) → slice_get old b.at ≡ slice_get old0 b.at

-- a table with_kept from its place is the same from any list that has it there
same_sets : (old0 old : List PoolTable) (q : PoolTable) (one : Option KeptTable) → ((b : KeptTable) → one ≡ Some b → slice_get old b.at ≡ slice_get old0 b.at) → with_kept old q one ≡ with_kept old0 q one
same_sets old0 old q None same = refl
same_sets old0 old q (Some k) same = rw (same k refl) refl

-- what fits the tables at first fits them as long as its place is untouched
pub fits_now : (old0 old : List PoolTable) (k : KeptTable) → length old ≡ length old0 → slice_get old k.at ≡ slice_get old0 k.at → FitsAt old0 k → FitsAt old k
fits_now old0 old k long same fits = record {
  inside = omega (arith, long, fits.inside);
  patch = rw same fits.patch;
}

module _ (old0 pools0 : List PoolTable) (kept0 : List (Option KeptTable)) (fits : FitAll old0 pools0 kept0) where
  pub carry_begins : Keeps old0 pools0 kept0 0 old0 pools0 kept0
  carry_begins = record {
    long = refl;
    kept_long = refl;
    old_long = refl;
    done = λ k less. absurd (omega arith);
    rest = λ k past. refl;
    kept_rest = λ k past. refl;
    olds = λ k b past is. refl;
  }

  module _ (i : ℕ) (old pools : List PoolTable) (kept : List (Option KeptTable)) (sofar : Keeps old0 pools0 kept0 i old pools kept) where
    pub carry_fits : (k : KeptTable) → slice_get kept i ≡ Some (Some k) → FitsAt old k
    carry_fits k is =
        let at = sym (sofar.kept_rest i (omega arith)) ∙ is in
        fits_now old0 old k sofar.old_long (sofar.olds i k (omega arith) at) (fits.each i k at)

    pub keep_step : (before after : PoolTable) (one : Option KeptTable) (old' : List PoolTable) → slice_get pools i ≡ Some before → slice_get kept i ≡ Some one → after ≡ with_kept old before one
        → ((j : ℕ) → ((k : KeptTable) → one ≡ Some k → j ≢ k.at) → slice_get old' j ≡ slice_get old j) → length old' ≡ length old → i < length pools0
        → Keeps old0 pools0 kept0 (i + 1) old' (set pools i after) (set kept i None)
    keep_step before after one old' here is made others same inside =
        let at0 = sym (sofar.rest i (omega arith)) ∙ here in
        let is0 = sym (sofar.kept_rest i (omega arith)) ∙ is in
        let made0 = made ∙ same_sets old0 old before one (λ b e. sofar.olds i b (omega arith) (is0 ∙ ap (λ x. Some x) e)) in
        record {
          long = length-set pools i after ∙ sofar.long;
          kept_long = length-set kept i None ∙ sofar.kept_long;
          old_long = same ∙ sofar.old_long;
          done = λ k less. elim (cases_order k i) [
            | inl e ↦
                rw e (get_set_same pools i after (omega (arith, sofar.long)) ∙ ap (λ x. Some x) made0
                ∙ sym (slice_get-map (λ e'. with_kept old0 e'.0 e'.1) (zip pools0 kept0) i ∙ ap (option_map (λ e'. with_kept old0 e'.0 e'.1)) (get_zip pools0 kept0 i before one at0 is0)))
            | inr (inl below) ↦ get_set_other pools i k after (λ e. omega arith) ∙ sofar.done k below
            | inr (inr above) ↦ absurd (omega arith)
          ];
          rest = λ k past. get_set_other pools i k after (λ e. omega arith) ∙ sofar.rest k (omega arith);
          kept_rest = λ k past. get_set_other kept i k None (λ e. omega arith) ∙ sofar.kept_rest k (omega arith);
          olds = λ k b past there. others b.at (λ a e. λ f. fits.apart i k a b (omega arith) (is0 ∙ ap (λ x. Some x) e) there (sym f)) ∙ sofar.olds k b (omega arith) there;
        }

    pub carry_ends : length pools ≤ i → pools ≡ map (λ e. with_kept old0 e.0 e.1) (zip pools0 kept0)
    carry_ends past =
        let long = long_zip pools0 kept0 fits.same in
        same_lists pools (map (λ e. with_kept old0 e.0 e.1) (zip pools0 kept0)) (sofar.long ∙ sym (length-map (zip pools0 kept0) (λ e. with_kept old0 e.0 e.1) ∙ long)) (λ k inside. sofar.done k (omega arith))
