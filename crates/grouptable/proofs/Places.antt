-- The places of a stored set.
use Rattle.std.proofs.Common.{◌≡◌, ℕ, ◌<◌, ◌≤◌, Bool, true, false, cond, eqb, ltb, List, [], ◌∷◌, map, refl, Some, None, arith}
use Rattle.std.specs.List.{list_any}
use Rattle.std.proofs.lemmas.Bool.{ne_eqb, ltb-false}
use Rattle.grouptable.specs.Sets.{place_stored}
use Rattle.maptypes.specs.Sets.{stands, is_of}

-- a stored place is of an OSD exactly where its number is
is_at-place_of : (osd n : ℕ) (b : Bool) → osd < 4096 → ltb n 4096 ≡ b → is_of osd (cond b (Some n) None) ≡ eqb n osd
is_at-place_of osd n true h e = refl
is_at-place_of osd n false h e = let big : 4096 ≤ n = ltb-false n 4096 e in rw (ne_eqb n osd (λ f. omega arith)) refl

-- an OSD stands in a stored set exactly where its number does
pub stands-stored : (osd : ℕ) (xs : List ℕ) → osd < 4096 → list_any (λ x. eqb x osd) xs ≡ stands osd (map place_stored xs)
stands-stored osd [] h = refl
stands-stored osd (x ∷ xs) h = rw (is_at-place_of osd x (ltb x 4096) h refl, stands-stored osd xs h) refl
