-- What applying a change keeps.
use Rattle.std.proofs.Math.Seq.{drop-cons}
use Rattle.std.proofs.Common.{◌≡◌, ◌∙◌, nat_lt, zero, suc, arith, ℕ, ◌+◌, ◌<◌, add-one, drop, Bool, true, false, List, [], ◌∷◌, length, set, refl, get_or}
use Rattle.std.proofs.Math.ListN.{length-set}
use Rattle.std.specs.List.{fold}
use Rattle.std.proofs.lemmas.Option.{slice_get-get_or}
use Rattle.maptypes.specs.declared.osd.Presence.{Presence}
use Rattle.maptypes.specs.declared.change.Reweight.{Reweight}
use Rattle.std.proofs.lemmas.Bool.Decides.{nat_tests}
use Rattle.osdmap.specs.Marks.{are_below}
use Rattle.keylist.proofs.Tests.{and_first, and_second}
use Rattle.osdmap.specs.Maps.{ClusterMap}
use Rattle.maptypes.specs.Incrementals.{Step}
use Rattle.osdmap.specs.Changes.{apply, with_up, with_weight}

-- how many OSDs there are
pub length-with_up : (up : Bool) (presences : List Presence) (osds : List ℕ) → length (fold (with_up up) presences osds) ≡ length presences
length-with_up up presences [] = refl
length-with_up up presences (osd ∷ osds) = length-with_up up (with_up up presences osd) osds ∙ length-set presences osd _

-- reweights that are put in leave the number of OSDs
pub length-with_weight : (weights : List ℕ) (ws : List Reweight) → length (fold with_weight weights ws) ≡ length weights
length-with_weight weights [] = refl
length-with_weight weights (w ∷ ws) = length-with_weight (with_weight weights w) ws ∙ length-set weights w.osd _

-- how many OSDs a map has after a change
pub length-apply : (m : ClusterMap) (step : Step) → length (apply m step).presences ≡ length m.presences
unfolding apply
length-apply m step =
    length-with_up true (fold (with_up false) m.presences step.change.osds.down) step.change.osds.up ∙ length-with_up false m.presences step.change.osds.down

-- an OSD of the map goes up or down: whether it exists stays
pub with_up-here : (up : Bool) (presences : List Presence) (osd : ℕ) (here : Presence) → osd < length presences
    → here ≡ get_or presences osd here → with_up up presences osd ≡ set presences osd (record { exists = here.exists; up = up })
with_up-here up presences osd here inside is = rw (slice_get-get_or presences osd here inside, ← is) refl

-- from place i of a list on
pub fold_step : {A X : Type 0} (f : A → X → A) (a : A) (xs : List X) (i : ℕ) (x : X) → i < length xs → x ≡ get_or xs i x
    → fold f a (drop i xs) ≡ fold f (f a x) (drop (i + 1) xs)
fold_step f a xs i x inside is = rw (drop-cons xs i x, ← is, add-one) refl

-- each of some numbers below n
pub below_at : (n : ℕ) (xs : List ℕ) (i : ℕ) → are_below (λ k. k) n xs ≡ true → i < length xs → get_or xs i 0 < n
below_at n [] i h inside = absurd (omega arith)
below_at n (x ∷ xs) zero h inside = grind (arith, nat_tests, and_first (nat_lt x n) (are_below (λ k. k) n xs) h)
below_at n (x ∷ xs) (suc i) h inside = below_at n xs i (and_second (nat_lt x n) (are_below (λ k. k) n xs) h) (omega arith)

-- an element inside a list is read whatever stands for one outside
pub get_or_read : {X : Type 0} (xs : List X) (i : ℕ) (d e : X) → i < length xs → get_or xs i d ≡ get_or xs i e
get_or_read [] i d e inside = absurd (omega arith)
get_or_read (x ∷ xs) zero d e inside = refl
get_or_read (x ∷ xs) (suc i) d e inside = get_or_read xs i d e (omega arith)
