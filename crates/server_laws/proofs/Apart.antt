-- Who has marks at other places has made other changes.
use Rattle.std.proofs.Common.{◌≡◌, ℕ, ◌+◌, ◌≤◌, ◌<◌, Bool, true, false, List, [], ◌∷◌, length, Some, slice_index_or, sym, ap, subst, arith, length-append}
use Rattle.sealed.specs.History.{Begins}
use Rattle.sealed.proofs.Beginnings.{begins_itself, begins_on}
use Rattle.server_laws.specs.Visits.{Visit, put, behind, IsMergeOfAll}
use Rattle.server_laws.proofs.Histories.{AreInOrder, before_begins, within}
use Rattle.server_laws.proofs.Merged.{IsApart, AreApart, IsApartFromAll, AreAllApart, AreAllInOrder, merge_all}

-- the visits of one who has a mark for each place of the history that he has made
pub record Maker (X : Type 0) : Type 0 where
  pub visits : List (Visit X)
  pub own : List Bool

-- the visits of each of several
abbrev pub visits_of : {X : Type 0} → List (Maker X) → List (List (Visit X))
visits_of [] = []
visits_of (m ∷ ms) = m.visits ∷ visits_of ms

-- each visit that has made a place has a mark there
abbrev pub AreMarked : {X : Type 0} → List Bool → List (Visit X) → Type 0
AreMarked own [] = Unit {0}
AreMarked {X} own (v ∷ visits) =
    (((x : X) × (v.made ≡ Some x)) → slice_index_or own (length v.found) false ≡ true) × AreMarked own visits

-- the same of each of several
abbrev pub AreAllMarked : {X : Type 0} → List (Maker X) → Type 0
AreAllMarked [] = Unit {0}
AreAllMarked (m ∷ ms) = AreMarked m.own m.visits × AreAllMarked ms

-- 1 for a mark, and 0 for none
abbrev pub one_if : Bool → ℕ
one_if true = 1
one_if false = 0

-- how many have a mark at a place
abbrev pub makers : {X : Type 0} → ℕ → List (Maker X) → ℕ
makers at [] = 0
makers at (m ∷ ms) = one_if (slice_index_or m.own at false) + makers at ms

-- there is a mark at a place
abbrev has_mark : List Bool → ℕ → Type 0
has_mark own at = slice_index_or own at false ≡ true

-- a change of a place below a number, with its mark
abbrev IsIn : {X : Type 0} → List Bool → ℕ → Visit X → Type 0
IsIn {X} own n t = ((x : X) × (t.made ≡ Some x)) → (length t.found < n) × has_mark own (length t.found)

-- each change of a list is of such a place
abbrev AreIn : {X : Type 0} → List Bool → ℕ → List (Visit X) → Type 0
AreIn own n [] = Unit {0}
AreIn own n (t ∷ visits) = IsIn own n t × AreIn own n visits

-- what a visit has put stands at a place of the history that goes on from it
below : {X : Type 0} (t : Visit X) (all : List X) → Begins (behind t) all → ((x : X) × (t.made ≡ Some x)) → length t.found < length all
below t all b some =
    let is : put t.found (Some some.0) ≡ behind t = ap (put t.found) (sym some.1) in
    omega (arith, within (behind t) all b, ap length is, length-append t.found (some.0 ∷ []))

-- marked visits to one history put something at places of that history alone, with a mark at each
are_in : {X : Type 0} (own : List Bool) (ahead all : List X) (visits : List (Visit X)) → Begins ahead all → AreInOrder ahead visits → AreMarked own visits → AreIn own (length all) visits
are_in own ahead all [] b one marked = tt
are_in own ahead all (t ∷ visits) b one marked =
    let here = begins_on (behind t) ahead all one.0 b in
    ((λ some. (below t all here some, marked.0 some)), are_in own t.found all visits (begins_on t.found (behind t) all (before_begins t.found t.made) here) one.1 marked.1)

-- below a number, no place has a mark of both
abbrev AreOthers : List Bool → List Bool → ℕ → Type 0
AreOthers own other n = (at : ℕ) → at < n → has_mark own at → has_mark other at → ⊥

-- a change of the one is no change of the other, where no place has a mark of both
apart_from : {X : Type 0} (own other : List Bool) (n : ℕ) (t : Visit X) (us : List (Visit X)) → AreOthers own other n → IsIn own n t → AreIn other n us → IsApart t us
apart_from own other n t [] never p q = tt
apart_from own other n t (u ∷ us) never p q = (
  (λ one. let here = p one.0 in let there = q.0 one.1 in
      never (length t.found) here.0 here.1 (subst (has_mark other) (sym (ap length one.2)) there.1)),
  apart_from own other n t us never p q.1,
)

-- no change of the one list is one of the other, where no place has a mark of both
apart : {X : Type 0} (own other : List Bool) (n : ℕ) (ts us : List (Visit X)) → AreOthers own other n → AreIn own n ts → AreIn other n us → AreApart ts us
apart own other n [] us never p q = tt
apart own other n (t ∷ ts) us never p q = (apart_from own other n t us never p.0 q, apart own other n ts us never p.1 q)

-- the same of each of several
abbrev AreAllIn : {X : Type 0} → ℕ → List (Maker X) → Type 0
AreAllIn n [] = Unit {0}
AreAllIn n (m ∷ ms) = AreIn m.own n m.visits × AreAllIn n ms

-- the changes of several are of places of their history, where each has marked what he has made
all_in : {X : Type 0} (all : List X) (ms : List (Maker X)) → AreAllInOrder all (visits_of ms) → AreAllMarked ms → AreAllIn (length all) ms
all_in all [] p q = tt
all_in all (m ∷ ms) p q = (are_in m.own all all m.visits (begins_itself all) p.0 q.0, all_in all ms p.1 q.1)

-- where one has a mark and no two have, none of the others has
marked_one : (b : Bool) (rest : ℕ) → b ≡ true → one_if b + rest ≤ 1 → rest ≡ 0
marked_one true rest e h = omega arith
marked_one false rest e h = absurd (cc e)

-- where none has a mark, the first has none
marked_none : (b : Bool) (rest : ℕ) → b ≡ true → one_if b + rest ≡ 0 → ⊥
marked_none true rest e h = absurd (omega (arith, h))
marked_none false rest e h = absurd (cc e)

-- the others have no more marks than all
no_less : (b : Bool) (rest k : ℕ) → one_if b + rest ≤ k → rest ≤ k
no_less true rest k h = omega arith
no_less false rest k h = omega arith

-- where none of all has a mark, none of the others has
none_left : (b : Bool) (rest : ℕ) → one_if b + rest ≡ 0 → rest ≡ 0
none_left true rest h = omega (arith, h)
none_left false rest h = omega (arith, h)

-- who has no mark at a place of the others has made no change of theirs
apart_from_all : {X : Type 0} (n : ℕ) (own : List Bool) (ts : List (Visit X)) (ms : List (Maker X)) → AreIn own n ts → AreAllIn n ms
    → ((at : ℕ) → at < n → has_mark own at → makers at ms ≡ 0) → IsApartFromAll ts (visits_of ms)
apart_from_all n own ts [] p q none = tt
apart_from_all n own ts (m ∷ ms) p q none = (
  apart own m.own n ts m.visits (λ at h mine theirs. marked_none (slice_index_or m.own at false) (makers at ms) theirs (none at h mine)) p q.0,
  apart_from_all n own ts ms p q.1 (λ at h mine. none_left (slice_index_or m.own at false) (makers at ms) (none at h mine)),
)

-- where no place has two marks, no change is one of two
all_apart : {X : Type 0} (n : ℕ) (ms : List (Maker X)) → AreAllIn n ms → ((at : ℕ) → at < n → makers at ms ≤ 1) → AreAllApart (visits_of ms)
all_apart n [] p once = tt
all_apart n (m ∷ ms) p once = (
  apart_from_all n m.own m.visits ms p.0 p.1 (λ at h mine. marked_one (slice_index_or m.own at false) (makers at ms) mine (once at h)),
  all_apart n ms p.1 (λ at h. no_less (slice_index_or m.own at false) (makers at ms) 1 (once at h)),
)

-- where no place has two marks, the visits of all are those of one list
pub one_list : {X : Type 0} (all : List X) (ms : List (Maker X)) → AreAllInOrder all (visits_of ms) → AreAllMarked ms
    → ((at : ℕ) → at < length all → makers at ms ≤ 1) → (visits : List (Visit X)) × AreInOrder all visits × IsMergeOfAll (visits_of ms) visits
one_list all ms of marked once =
    merge_all all (visits_of ms) of (all_apart (length all) ms (all_in all ms of marked) once)
