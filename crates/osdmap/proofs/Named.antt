-- The OSDs that a change names.
use Rattle.std.proofs.Common.{◌≡◌, ℕ, ◌≤◌, Bool, true, false, List, [], ◌∷◌, length, refl, arith, nat_lt, slice_get, None, Some}
use mathlib.Core.Bool.{false≢true}
use Rattle.std.specs.List.{list_all}
use Rattle.std.specs.Option.{option_map_or}
use Rattle.std.proofs.lemmas.Option.{slice_get_within}
use Rattle.osdmap.specs.Marks.{are_below}
use Rattle.keylist.proofs.Tests.{and_first, and_second}
use Rattle.std.proofs.lemmas.Bool.Decides.{nat_tests}
use Rattle.maptypes.specs.declared.change.ChangeParts.{ChangeParts}
use Rattle.refusal.specs.declared.refused.Refusal.TheVariants.{UnknownOsd}
use Rattle.osdmap.specs.Maps.{ClusterMap, osd_exists}
use Rattle.osdmap.specs.Changes.{names_osds, change_fault}

-- an OSD that exists is below max_osd
pub below_max : (m : ClusterMap) (osd n : ℕ) → length m.presences ≤ n → osd_exists m osd ≡ true → nat_lt osd n ≡ true
below_max m osd n most = elim (slice_get m.presences osd) as (λ p. slice_get m.presences osd ≡ p → option_map_or (λ q. q.exists) p false ≡ true → nat_lt osd n ≡ true) [
  | None ↦ λ is h. absurd (false≢true h)
  | Some p ↦ λ is h. grind (arith, nat_tests, slice_get_within m.presences osd p is)
] refl

-- what passes one test in a list passes another that it implies
pub all_more : {X : Type 0} (p q : X → Bool) (xs : List X) → ((x : X) → p x ≡ true → q x ≡ true) → list_all p xs ≡ true → list_all q xs ≡ true
all_more p q [] more h = refl
all_more p q (x ∷ xs) more h = rw (more x (and_first (p x) (list_all p xs) h), all_more p q xs more (and_second (p x) (list_all p xs) h)) refl

-- the parts of what names only OSDs that exist
pub record AllBelow (n : ℕ) (c : ChangeParts) : Type 0 where
  pub down : are_below (λ osd. osd) n c.osds.down ≡ true
  pub up : are_below (λ osd. osd) n c.osds.up ≡ true
  pub weight : are_below (λ w. w.osd) n c.weights ≡ true

-- the OSDs that an accepted change names are below the number of OSDs
pub all_below : (m : ClusterMap) (c : ChangeParts) (n : ℕ) → length m.presences ≤ n → names_osds m c ≡ true → AllBelow n c
unfolding names_osds
all_below m c n most h = record {
  down = all_more _ _ c.osds.down (λ osd. below_max m osd n most) (grind (arith, h));
  up = all_more _ _ c.osds.up (λ osd. below_max m osd n most) (grind (arith, h));
  weight = all_more _ _ c.weights (λ w. below_max m w.osd n most) (grind (arith, h));
}

-- a change that nothing refuses names only OSDs that exist
pub accepted_names : (m : ClusterMap) (c : ChangeParts) → change_fault m c ≡ None → names_osds m c ≡ true
accepted_names m c h = elim (names_osds m c) as (λ b. names_osds m c ≡ b → names_osds m c ≡ true) [
  | true ↦ λ is. is
  | false ↦ λ is. let wrong : Some UnknownOsd ≡ None = rw is at h in cc
] refl
