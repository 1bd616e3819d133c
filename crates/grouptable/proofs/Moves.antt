-- One group's set is replaced: place by place, and as a whole.
use Rattle.std.proofs.Common.{◌≡◌, ℕ, zero, suc, ◌+◌, ◌<◌, Bool, true, false, cond, not, ◌||◌, eqb, Option, None, List, [], ◌∷◌, length, get_or, take, set, refl, ap, sym, ◌∙◌, inl, inr, add-one, arith}
use Rattle.std.specs.List.{filter, range_with_len}
use Rattle.std.proofs.lemmas.Bool.{lt-ltb, le-ltb, cases_order}
use Rattle.std.proofs.lemmas.List.{length-set, get_or-set_same, get_or-set_other}
use Rattle.grouptable.specs.Keys.{with_key, without_key}
use Rattle.grouptable.specs.Sets.{set_of, groups_of, after_leaving, after_joining}
use Rattle.maptypes.specs.Sets.{Places, stands, is_of}
use Rattle.grouptable.proofs.Steps.{filter_same, filter_with, filter_without}

-- removing or adding twice
without_twice_at : (b : Bool) (g y : ℕ) (t : List ℕ) → not (eqb y g) ≡ b → without_key g (without_key g t) ≡ without_key g t → without_key g (cond b (y ∷ without_key g t) (without_key g t)) ≡ cond b (y ∷ without_key g t) (without_key g t)
without_twice_at true g y t e h = rw (e, h) refl
without_twice_at false g y t e h = h

-- taking a key away twice is taking it away once
without_twice : (g : ℕ) (t : List ℕ) → without_key g (without_key g t) ≡ without_key g t
without_twice g [] = refl
without_twice g (y ∷ t) = without_twice_at (not (eqb y g)) g y t refl (without_twice g t)

-- putting a key in that comes first changes nothing
with_there : (g : ℕ) (t : List ℕ) → with_key g (g ∷ t) ≡ g ∷ t
with_there g t = rw (le-ltb g g (omega arith)) refl

-- putting a key in twice is putting it in once
with_twice : (g : ℕ) (t : List ℕ) → with_key g (with_key g t) ≡ with_key g t
with_twice g [] = with_there g []
with_twice g (y ∷ t) =
    elim (cases_order g y) [
      | inl e ↦ rw (le-ltb g y (omega arith), le-ltb y g (omega arith)) (rw (le-ltb g y (omega arith)) refl)
      | inr (inl less) ↦ rw (lt-ltb g y less) (with_there g (y ∷ t))
      | inr (inr more) ↦ rw (le-ltb g y (omega arith), lt-ltb y g more) (rw (le-ltb g y (omega arith)) (ap (λ z. y ∷ z) (with_twice g t)))
    ]

-- leaving by two tests is leaving by either
left_twice : (b c a : Bool) (g : ℕ) (t : List ℕ) → after_leaving c a g (after_leaving b a g t) ≡ after_leaving (b || c) a g t
left_twice true true true g t = refl
left_twice true false true g t = refl
left_twice true true false g t = without_twice g t
left_twice true false false g t = refl
left_twice false c a g t = refl

-- joining by two tests is joining by either
joined_twice : (b a c : Bool) (g : ℕ) (t : List ℕ) → after_joining b c g (after_joining b a g t) ≡ after_joining b (a || c) g t
joined_twice true true true g t = refl
joined_twice true true false g t = refl
joined_twice false true true g t = with_twice g t
joined_twice false true false g t = refl
joined_twice b false c g t = refl

-- how three tests are joined does not matter
or_group : (a b c : Bool) → (a || (b || c)) ≡ ((a || b) || c)
or_group true b c = refl
or_group false b c = refl

-- or with false is the first
or_none : (a : Bool) → (a || false) ≡ a
or_none true = refl
or_none false = refl

-- an OSD stands in one place more, or did before
stands_more : (k : ℕ) (s : Places) (i : ℕ) → i < length s → stands k (take (suc i) s) ≡ (stands k (take i s) || is_of k (get_or s i None))
stands_more k [] i h = absurd (omega arith)
stands_more k (p ∷ s) zero h = or_none (is_of k p)
stands_more k (p ∷ s) (suc i) h = ap (λ b. is_of k p || b) (stands_more k s i (omega arith)) ∙ or_group (is_of k p) (stands k (take i s)) (is_of k (get_or s i None))

-- leaving by the places so far, by one place more
pub left_step : (k g : ℕ) (s : Places) (i : ℕ) (a : Bool) (place : Option ℕ) (t now next : List ℕ) → i < length s → place ≡ get_or s i None → now ≡ after_leaving (stands k (take i s)) a g t → next ≡ after_leaving (is_of k place) a g now → next ≡ after_leaving (stands k (take (i + 1) s)) a g t
left_step k g s i a place t now next h p e f = rw (add-one, stands_more k s i h) (f ∙ rw (p, e) (left_twice (stands k (take i s)) (is_of k (get_or s i None)) a g t))

-- joining by the places so far, by one place more
pub joined_step : (k g : ℕ) (s : Places) (i : ℕ) (b : Bool) (place : Option ℕ) (t now next : List ℕ) → i < length s → place ≡ get_or s i None → now ≡ after_joining b (stands k (take i s)) g t → next ≡ after_joining b (is_of k place) g now → next ≡ after_joining b (stands k (take (i + 1) s)) g t
joined_step k g s i b place t now next h p e f = rw (add-one, stands_more k s i h) (f ∙ rw (p, e) (joined_twice b (stands k (take i s)) (is_of k (get_or s i None)) g t))

-- the groups of an OSD, where one set is replaced
other_set : (osd g : ℕ) (new : Places) (sets : List Places) (x : ℕ) → (x ≡ g → ⊥) → stands osd (set_of (set sets g new) x) ≡ stands osd (set_of sets x)
other_set osd g new sets x h = rw (get_or-set_other sets g x new [] h) refl

-- a group that gets a set has it
this_set : (osd g : ℕ) (new : Places) (sets : List Places) → g < length sets → stands osd (set_of (set sets g new) g) ≡ stands osd new
this_set osd g new sets h = rw (get_or-set_same sets g new [] h) refl

-- where an OSD stands in both sets or in none, it stands where it did
same_sets : (osd g : ℕ) (new : Places) (sets : List Places) → g < length sets → stands osd new ≡ stands osd (set_of sets g) → (x : ℕ) → stands osd (set_of (set sets g new) x) ≡ stands osd (set_of sets x)
same_sets osd g new sets h e x =
    elim (cases_order x g) [
      | inl f ↦ rw f (this_set osd g new sets h ∙ e)
      | inr (inl less) ↦ other_set osd g new sets x (λ f. omega arith)
      | inr (inr more) ↦ other_set osd g new sets x (λ f. omega arith)
    ]

-- the groups of an OSD once one group has another set
moved : (osd g : ℕ) (new : Places) (sets : List Places) (b a : Bool) → g < length sets → stands osd (set_of sets g) ≡ b → stands osd new ≡ a → filter (λ x. stands osd (set_of (set sets g new) x)) (range_with_len 0 (length sets)) ≡ after_joining b a g (after_leaving b a g (groups_of osd sets))
moved osd g new sets true true h e f = filter_same (λ x. stands osd (set_of sets x)) (λ x. stands osd (set_of (set sets g new) x)) 0 (length sets) (λ x l r. same_sets osd g new sets h (f ∙ sym e) x)
moved osd g new sets false false h e f = filter_same (λ x. stands osd (set_of sets x)) (λ x. stands osd (set_of (set sets g new) x)) 0 (length sets) (λ x l r. same_sets osd g new sets h (f ∙ sym e) x)
moved osd g new sets true false h e f = filter_without (λ x. stands osd (set_of sets x)) (λ x. stands osd (set_of (set sets g new) x)) g (range_with_len 0 (length sets)) (this_set osd g new sets h ∙ f) (other_set osd g new sets)
moved osd g new sets false true h e f = filter_with (λ x. stands osd (set_of sets x)) (λ x. stands osd (set_of (set sets g new) x)) g 0 (length sets) (omega arith) (omega arith) (this_set osd g new sets h ∙ f) (other_set osd g new sets)

-- the same, by whether it stood in the old set and stands in the new
pub groups_moved : (osd g : ℕ) (new : Places) (sets : List Places) → g < length sets → groups_of osd (set sets g new) ≡ after_joining (stands osd (set_of sets g)) (stands osd new) g (after_leaving (stands osd (set_of sets g)) (stands osd new) g (groups_of osd sets))
groups_moved osd g new sets h = rw (length-set sets g new) (moved osd g new sets (stands osd (set_of sets g)) (stands osd new) h refl refl)
