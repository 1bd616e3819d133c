-- Which OSDs are up after a change.
use Rattle.std.proofs.Common.{◌≡◌, ◌∙◌, refl, sym, ap, ℕ, ◌<◌, Bool, true, false, List, [], ◌∷◌, length, map, set, Option, Some, None, arith}
use Rattle.std.specs.Prelude.{slice_get}
use Rattle.std.specs.List.{fold}
use Rattle.std.specs.Option.{option_map, option_map_or}
use Rattle.std.proofs.lemmas.List.{length-map, map-set}
use Rattle.std.proofs.Math.ListN.{length-set}
use Rattle.std.proofs.lemmas.List.FromFn.{length-map-range_with_len, get_or-map-range_with_len}
use Rattle.std.proofs.lemmas.Option.{slice_get-map, slice_get-get_or}
use Rattle.maptypes.specs.declared.change.ChangeParts.{ChangeParts}
use Rattle.maptypes.specs.declared.osd.Presence.{Presence}
use Rattle.osdmap.specs.Maps.{ClusterMap, osd_is_up}
use Rattle.osdmap.specs.Changes.{apply, with_up}
use Rattle.pgtable.specs.Tables.{ups_of}
use Rattle.pgtable.specs.Patches.{changed_map, with_ups, ups_after}
use Rattle.pgtable.proofs.KeptTables.{same_lists}

-- who is up, by what is known of each
ups_are : (m : ClusterMap) → ups_of m ≡ map (λ p. p.up) m.presences
ups_are m =
    let long = length-map-range_with_len (osd_is_up m) 0 (length m.presences) in
    same_lists (ups_of m) (map (λ p. p.up) m.presences) (long ∙ sym (length-map m.presences (λ (p : Presence). p.up))) (λ k inside.
    let few : k < length m.presences = omega (arith, long) in
    slice_get-get_or (ups_of m) k false inside ∙ ap (λ b. Some b) (get_or-map-range_with_len (osd_is_up m) 0 (length m.presences) k k false few (omega arith))
    ∙ shown k (slice_get m.presences k) refl few ∙ sym (slice_get-map (λ (p : Presence). p.up) m.presences k))
  where
    blank : Presence
    blank = record { exists = false; up = false }

    shown : (k : ℕ) (p : Option Presence) → slice_get m.presences k ≡ p → k < length m.presences → Some (osd_is_up m k) ≡ option_map (λ p. p.up) (slice_get m.presences k)
    shown k None found few = absurd (let wrong = slice_get-get_or m.presences k blank few in cc)
    shown k (Some p) found few = rw found refl

-- OSDs that go up or down
turned_are : (up : Bool) (ps : List Presence) (osds : List ℕ) → with_ups up (map (λ p. p.up) ps) osds ≡ map (λ p. p.up) (fold (with_up up) ps osds)
turned_are up ps [] = refl
turned_are up ps (osd ∷ osds) = rw (sym (map-set (λ (p : Presence). p.up) ps osd (record { exists = option_map_or (λ p. p.exists) (slice_get ps osd) false; up = up }))) (turned_are up (with_up up ps osd) osds)

-- the bits after a change are those before with its OSDs turned
pub ups_follow : (m : ClusterMap) (c : ChangeParts) → ups_of (changed_map m c) ≡ ups_after (ups_of m) c
unfolding apply
ups_follow m c = ups_are (changed_map m c) ∙ sym (ap (λ us. ups_after us c) (ups_are m) ∙ ap (λ us. with_ups true us c.osds.up) (turned_are false m.presences c.osds.down) ∙ turned_are true _ c.osds.up)

-- as many are known to be up or down after some turned
pub length-turned : (up : Bool) (ups : List Bool) (osds : List ℕ) → length (with_ups up ups osds) ≡ length ups
length-turned up ups [] = refl
length-turned up ups (osd ∷ osds) = length-turned up (set ups osd up) osds ∙ length-set ups osd up
