-- Rows of OSDs, each entered where it is listed.
use Rattle.std.proofs.Common.{◌≡◌, ◌≢◌, ◌∙◌, ℕ, zero, suc, ◌+◌, ◌<◌, ◌≤◌, Bool, true, false, cond, eqb, nat_lt, nat_abs, List, [], ◌∷◌, map, length, get_or, set, take, drop, replicate, Option, Some, None, pos, refl, sym, ap, inl, inr, arith, get_or-set_other, get_or-set_same}
use Rattle.std.specs.Prelude.{is_some}
use Rattle.std.specs.List.{list_all}
use Rattle.std.specs.Option.{option_map, option_or}
use Rattle.std.proofs.lemmas.Bool.{cases_Bool, eqb-true}
use Rattle.std.proofs.lemmas.Bool.Decides.{nat_tests}
use Rattle.std.proofs.lemmas.List.{get_or-replicate, get_or_default, map-set, take_more, take_all}
use Rattle.std.proofs.lemmas.List.Folds.{find-append}
use Rattle.std.proofs.lemmas.List.FromFn.{fill_by_all}
use Rattle.std.proofs.Math.ListN.{get_or-map}
use Rattle.keylist.proofs.Each.{list_all-at}
use Rattle.maptypes.specs.declared.osd.OsdState.{OsdState}
use Rattle.mapparts.specs.declared.parts.OsdPart.{OsdPart}
use Rattle.keylist.specs.Keys.{is_distinct}
use Rattle.osdmap.specs.Marks.{are_new}
use Rattle.osdmap.specs.Stated.{listed_osd}
use Rattle.osdmap.specs.Built.{state_of, rows_of}
use Rattle.osdmap.proofs.MarksLemmas.{new_step, new_end, new_unmarked}

abbrev pub osd_number : OsdPart → ℕ
osd_number o = nat_abs o.id

abbrev pub no_osd : OsdPart
no_osd = record { id = pos 0; exists = false; up = false; weight = pos 0 }

-- what is made of equal entries is equal
map_replicate : {X Y : Type 0} (f : X → Y) (n : ℕ) (x : X) → map f (replicate n x) ≡ replicate n (f x)
map_replicate f zero x = refl
map_replicate f (suc n) x = ap (λ ys. f x ∷ ys) (map_replicate f n x)

-- ---- blank rows

-- in empty rows every OSD is new
pub blank_new : (osds : List OsdPart) (rows : List (Option OsdState)) → rows ≡ replicate (length rows) None
    → list_all (λ o. nat_lt (nat_abs o.id) (length rows)) osds ≡ true → is_distinct (map osd_number osds) ≡ are_new osd_number (map is_some rows) osds
blank_new osds rows blank below =
    let marks : map is_some rows ≡ replicate (length rows) false = ap (map is_some) blank ∙ map_replicate is_some (length rows) None in
    rw marks (sym (new_unmarked osd_number (length rows) osds below))

-- an empty row has none
pub blank_row : (rows : List (Option OsdState)) → rows ≡ replicate (length rows) None → (n : ℕ) → n < length rows → get_or rows n None ≡ None
blank_row rows blank n inside = ap (λ r. get_or r n None) blank ∙ get_or-replicate (length rows) n None None inside

-- ---- the next OSD

module _ (rows : List (Option OsdState)) (osds : List OsdPart) (i : ℕ) (o : OsdPart) (inside : i < length osds) (is : o ≡ get_or osds i o) where
  -- its row is taken
  pub taken : is_some (get_or rows (nat_abs o.id) None) ≡ true → are_new osd_number (map is_some rows) (drop i osds) ≡ false
  taken full = rw (new_step osd_number (map is_some rows) osds i o inside is, get_or-map is_some rows (nat_abs o.id) None, full) refl

  -- its row is free
  pub entered_new : (s : OsdState) → is_some (get_or rows (nat_abs o.id) None) ≡ false
      → are_new osd_number (map is_some rows) (drop i osds) ≡ are_new osd_number (map is_some (set rows (nat_abs o.id) (Some s))) (drop (i + 1) osds)
  entered_new s free = rw (new_step osd_number (map is_some rows) osds i o inside is, get_or-map is_some rows (nat_abs o.id) None, free, map-set is_some rows (nat_abs o.id) (Some s)) refl

  more_listed : (n : ℕ) → listed_osd (take (i + 1) osds) n ≡ option_or (listed_osd (take i osds) n) (cond (eqb (nat_abs o.id) n) (Some o) None)
  more_listed n = rw (take_more osds i o inside, ← is, find-append (λ p. eqb (nat_abs p.id) n) (take i osds) (o ∷ [])) refl

  or_none : (p : Option OsdPart) → option_or p None ≡ p
  or_none None = refl
  or_none (Some p) = refl

  not_listed : (p : Option OsdPart) → is_some (option_map state_of p) ≡ false → p ≡ None
  not_listed None h = refl
  not_listed (Some p) h = cc

  pub entered_row : nat_abs o.id < length rows → is_some (get_or rows (nat_abs o.id) None) ≡ false
      → ((n : ℕ) → n < length rows → get_or rows n None ≡ option_map state_of (listed_osd (take i osds) n))
      → (n : ℕ) → n < length rows → get_or (set rows (nat_abs o.id) (Some (state_of o))) n None ≡ option_map state_of (listed_osd (take (i + 1) osds) n)
  entered_row room free before n within = elim (cases_Bool (eqb (nat_abs o.id) n)) [
    | inl same ↦
        let here : nat_abs o.id ≡ n = eqb-true _ _ same in
        let none = not_listed (listed_osd (take i osds) n) (rw (here, before n within) at free) in
        rw (more_listed n, none, same, here) (let lt : n < length rows = within in rw get_or-set_same refl)
    | inr other ↦
        let differs : n ≢ nat_abs o.id = λ e. grind (arith, nat_tests) in
        rw (more_listed n, other, or_none, get_or-set_other) (before n within)
  ]

-- ---- all OSDs

-- once all OSDs are entered, none is left that is not new
pub all_new : (rows : List (Option OsdState)) (osds : List OsdPart) (i : ℕ) → length osds ≤ i → are_new osd_number (map is_some rows) (drop i osds) ≡ true
all_new rows osds i past = new_end osd_number (map is_some rows) osds i past

-- the rows then tell all that is listed
pub all_entered : (rows : List (Option OsdState)) (osds : List OsdPart) (i max_osd : ℕ) → length osds ≤ i → length rows ≡ max_osd
    → ((n : ℕ) → n < length rows → get_or rows n None ≡ option_map state_of (listed_osd (take i osds) n)) → rows ≡ rows_of osds max_osd
all_entered rows osds i max_osd past sized entered =
    fill_by_all (λ n. option_map state_of (listed_osd osds n)) rows max_osd None sized (λ n lt. rw take_all at (entered n (rw sized lt)))

-- ---- what a loop reads

-- whether a row is taken, read at its place
pub row_is : (rows : List (Option OsdState)) (k row : ℕ) (x : Option OsdState) (b : Bool) → row ≡ k → k < length rows → x ≡ get_or rows row x → b ≡ is_some x
    → is_some (get_or rows k None) ≡ b
row_is rows k row x b at room is test =
    let here : get_or rows k x ≡ get_or rows k None = get_or_default rows k x None room in
    let found : x ≡ get_or rows k None = is ∙ ap (λ n. get_or rows n x) at ∙ here in
    sym (test ∙ ap is_some found)

-- an OSD's number is below the number of rows
pub osd_below : (osds : List OsdPart) (i n m : ℕ) → list_all (λ o. nat_lt (nat_abs o.id) n) osds ≡ true → i < length osds → m ≡ n → nat_abs (get_or osds i no_osd).id < m
osd_below osds i n m below inside sized =
    let test = list_all-at (λ (o : OsdPart). nat_lt (nat_abs o.id) n) osds i no_osd inside below in
    grind (arith, nat_tests, test, sized)
