-- OSDs that go down and come up.
use Rattle.std.proofs.Common.{◌≡◌, refl, ℕ, zero, suc, Bool, true, false, eqb, List, [], ◌∷◌, inl, inr}
use mathlib.Core.Bool.{false≢true}
use Rattle.std.specs.Prelude.{slice_get}
use Rattle.std.specs.List.{fold}
use Rattle.std.specs.Option.{option_map_or}
use Rattle.std.proofs.lemmas.Bool.{cases_Bool, eqb-true}
use Rattle.maptypes.specs.declared.osd.Presence.{Presence}
use Rattle.keylist.specs.Keys.{has_key}
use Rattle.osdmap.specs.Changes.{apply, with_up}
use Rattle.map_laws.specs.Laws.{UpAfterDown}
use Rattle.osdmap.proofs.Kept.{exists-up, exists-ups}

abbrev is_up : List Presence → ℕ → Bool
is_up ps n = option_map_or (λ p. p.up) (slice_get ps n) false

abbrev exists : List Presence → ℕ → Bool
exists ps n = option_map_or (λ p. p.exists) (slice_get ps n) false

-- an OSD that goes up or down is so
up-here : (up : Bool) (ps : List Presence) (n : ℕ) → exists ps n ≡ true → is_up (with_up up ps n) n ≡ up
up-here up [] n h = absurd (false≢true h)
up-here up (p ∷ ps) zero h = refl
up-here up (p ∷ ps) (suc n) h = up-here up ps n h

-- and stays so where others go the same way
up-stays : (up : Bool) (ps : List Presence) (osd n : ℕ) → is_up ps n ≡ up → is_up (with_up up ps osd) n ≡ up
up-stays up [] osd n h = h
up-stays up (p ∷ ps) zero zero h = refl
up-stays up (p ∷ ps) zero (suc n) h = h
up-stays up (p ∷ ps) (suc osd) zero h = h
up-stays up (p ∷ ps) (suc osd) (suc n) h = up-stays up ps osd n h

-- an OSD that is turned so stays so when others are
ups-stay : (up : Bool) (ps : List Presence) (osds : List ℕ) (n : ℕ) → is_up ps n ≡ up → is_up (fold (with_up up) ps osds) n ≡ up
ups-stay up ps [] n h = h
ups-stay up ps (osd ∷ osds) n h = ups-stay up (with_up up ps osd) osds n (up-stays up ps osd n h)

-- each of the OSDs that are named is turned
all-up : (up : Bool) (ps : List Presence) (osds : List ℕ) (n : ℕ) → exists ps n ≡ true → has_key (λ k. k) osds n ≡ true → is_up (fold (with_up up) ps osds) n ≡ up
all-up up ps [] n there named = absurd (false≢true named)
all-up up ps (osd ∷ osds) n there named = elim (cases_Bool (eqb osd n)) [
  | inl same ↦ ups-stay up (with_up up ps osd) osds n (rw (eqb-true osd n same) (up-here up ps n there))
  | inr other ↦ all-up up (with_up up ps osd) osds n (rw (exists-up up ps osd n) there) (rw other at named)
]

-- the law: who is named in both parts is as the later part says
pub up_after_down : UpAfterDown
unfolding apply
up_after_down m step osd there down up = record {
  in_order = all-up true (fold (with_up false) m.presences step.change.osds.down) step.change.osds.up osd (rw (exists-ups false m.presences step.change.osds.down osd) there) up;
  other_way = all-up false (fold (with_up true) m.presences step.change.osds.up) step.change.osds.down osd (rw (exists-ups true m.presences step.change.osds.up osd) there) down;
}
