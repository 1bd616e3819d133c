-- Visits to one history: each to what goes on from what the ones before it have left.
use Rattle.std.proofs.Common.{◌≡◌, ◌⊎◌, ℕ, ◌+◌, ◌≤◌, ◌<◌, List, [], ◌∷◌, ◌++◌, length, Option, Some, None, refl, sym, ◌∙◌, ap, arith, length-append, inl, inr}
use Rattle.std.proofs.lemmas.List.{append-nil}
use Rattle.sealed.specs.History.{Begins}
use Rattle.sealed.proofs.Beginnings.{begins_itself, begins_on}
use Rattle.server_laws.specs.Visits.{Visit, put, behind, IsExecution}

-- each visit is to what goes on from what the one before it has left, and all of them are to beginnings of a list
abbrev pub AreInOrder : {X : Type 0} → List X → List (Visit X) → Type 0
AreInOrder ahead [] = Unit {0}
AreInOrder ahead (v ∷ visits) = Begins (behind v) ahead × AreInOrder v.found visits

-- the same, and the first of them is to what goes on from a list
abbrev pub AreFrom : {X : Type 0} → List X → List X → List (Visit X) → Type 0
AreFrom base ahead [] = Begins base ahead
AreFrom base ahead (v ∷ visits) = Begins (behind v) ahead × AreFrom base v.found visits

-- visits up to a beginning are visits up to what goes on from it
further : {X : Type 0} (base mid ahead : List X) (visits : List (Visit X)) → AreFrom base mid visits → Begins mid ahead
    → AreFrom base ahead visits
further base mid ahead [] p q = begins_on base mid ahead p q
further base mid ahead (v ∷ visits) p q = (begins_on (behind v) mid ahead p.0 q, p.1)

-- later visits and those before them, up to where the later ones begin, are one list of visits
pub joined : {X : Type 0} (base mid ahead : List X) (later visits : List (Visit X)) → AreFrom mid ahead later → AreFrom base mid visits
    → AreFrom base ahead (later ++ visits)
joined base mid ahead [] visits p q = further base mid ahead visits q p
joined base mid ahead (v ∷ later) visits p q = (p.0, joined base mid v.found later visits p.1 q)

-- visits from a list on are in order
plain : {X : Type 0} (base ahead : List X) (visits : List (Visit X)) → AreFrom base ahead visits → AreInOrder ahead visits
plain base ahead [] p = tt
plain base ahead (v ∷ visits) p = (p.0, plain base v.found visits p.1)

-- visits up to a beginning of a list are to beginnings of it
pub in_order : {X : Type 0} (base end all : List X) (visits : List (Visit X)) → AreFrom base end visits → Begins end all
    → AreInOrder all visits
in_order base end all visits p q = plain base all visits (further base end all visits p q)

-- what was found begins what is behind
pub before_begins : {X : Type 0} (xs : List X) (made : Option X) → Begins xs (put xs made)
before_begins xs None = begins_itself xs
before_begins xs (Some x) = (x ∷ [], refl)

-- behind a visit a history is as long as before, or one longer, and then the visit has put something
pub put_length : {X : Type 0} (xs : List X) (made : Option X)
    → (length (put xs made) ≡ length xs) ⊎ ((length (put xs made) ≡ length xs + 1) × ((x : X) × (made ≡ Some x)))
put_length xs None = inl refl
put_length xs (Some x) = inr (omega (arith, length-append xs (x ∷ [])), (x, refl))

-- a beginning is no longer than what goes on from it
pub within : {X : Type 0} (xs ys : List X) → Begins xs ys → length xs ≤ length ys
within xs ys b = omega (arith, length-append xs b.0, ap length b.1)

-- ---- where each place of a history has a visit that made it

-- one of the visits has made what stands at a place
abbrev pub IsEntered : {X : Type 0} → ℕ → List (Visit X) → Type 0
IsEntered at [] = ⊥
IsEntered {X} at (v ∷ visits) = (((x : X) × (v.made ≡ Some x)) × (length v.found ≡ at)) ⊎ IsEntered at visits

-- behind a visit that has put something a history is one longer
grown : {X : Type 0} (v : Visit X) (x : X) → v.made ≡ Some x → length (behind v) ≡ length v.found + 1
grown v x is = ap length (ap (put v.found) is) ∙ length-append v.found (x ∷ [])

-- it stands in the history then
entered_below : {X : Type 0} (at : ℕ) (ahead : List X) (visits : List (Visit X)) → AreInOrder ahead visits → IsEntered at visits
    → at < length ahead
entered_below at ahead [] p e = absurd e
entered_below at ahead (v ∷ visits) p (inl e) = omega (arith, grown v e.0.0 e.0.1, e.1, within (behind v) ahead p.0)
entered_below at ahead (v ∷ visits) p (inr e) =
    let below = entered_below at v.found visits p.1 e in
    omega (arith, below, within v.found (behind v) (before_begins v.found v.made), within (behind v) ahead p.0)

-- no other
not_itself : {X : Type 0} (v : Visit X) (visits : List (Visit X)) (at : ℕ) → at < length v.found → IsEntered at (v ∷ visits)
    → IsEntered at visits
not_itself v visits at below (inl e) = absurd (omega (arith, below, e.1))
not_itself v visits at below (inr e) = e

-- nothing was made behind the last of them
reached : {X : Type 0} (v : Visit X) (visits : List (Visit X)) (rest ahead : List X) → behind v ++ rest ≡ ahead → AreInOrder v.found visits
    → ((at : ℕ) → at < length ahead → IsEntered at (v ∷ visits)) → behind v ≡ ahead
reached v visits [] ahead is p entered = sym (append-nil (behind v)) ∙ is
reached v visits (x ∷ rest) ahead is p entered =
    let beyond : length (behind v) < length ahead = omega (arith, ap length is, length-append (behind v) (x ∷ rest)) in
    absurd (elim (entered (length (behind v)) beyond) [
      | inl e ↦ omega (arith, grown v e.0.0 e.0.1, e.1)
      | inr e ↦ omega (arith, entered_below (length (behind v)) v.found visits p e, within v.found (behind v) (before_begins v.found v.made))
    ])

-- So each finds just what the one before it has left.
pub executes : {X : Type 0} (ahead : List X) (visits : List (Visit X)) → AreInOrder ahead visits
    → ((at : ℕ) → at < length ahead → IsEntered at visits) → IsExecution ahead visits
executes [] [] p entered = refl
executes (x ∷ ahead) [] p entered = absurd (entered 0 (omega arith))
executes ahead (v ∷ visits) p entered =
    let last = reached v visits p.0.0 ahead p.0.1 p.1 entered in (
      last,
      executes v.found visits p.1 (λ at below.
          not_itself v visits at below (entered at (omega (arith, below, within v.found (behind v) (before_begins v.found v.made), within (behind v) ahead p.0)))),
    )
