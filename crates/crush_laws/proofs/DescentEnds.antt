-- where a descent ends in a forest
use Rattle.std.proofs.Common.{◌≡◌, ℕ, zero, suc, ◌<◌, ◌≤◌, ℤ, pos, negsuc, Bool, true, false, cond, eqb, List, [], ◌∷◌, Option, Some, None, MatchOption, sym, ap, refl, ◌∙◌, arith}
use Rattle.std.specs.Prelude.{is_some}
use Rattle.std.specs.Option.{option_and_then, option_map_or}
use Rattle.std.specs.Ordering.{int_eq}
use Rattle.std.proofs.lemmas.Bool.{eqb-true, eq-eqb, false≢true}
use Rattle.std.proofs.lemmas.Bool.Decides.{Decides-int_eq}
use Rattle.buckets.specs.declared.bucket.Bucket.{Bucket}
use Rattle.crush.specs.declared.choose.Picked.{Picked}
use Rattle.crush.specs.Forest.{bucket_at, level_of}
use Rattle.buckets.specs.Pick.{place_picked, pick_of}
use Rattle.crush.specs.World.{World}
use Rattle.crush.specs.Descent.{descent}
use Rattle.crush.specs.WellFormed.{is_known, IsForest}
use Rattle.crush_laws.specs.Descents.{LeadsAstray, LeadsToWanted, DescentEnds}
use Rattle.keylist.proofs.Counts.{find-place}
use Rattle.crush.proofs.PickableBuckets.{bucket_at-pickable}
use Rattle.crush.proofs.ReadsReached.{typed, item_known}
use Rattle.crush.proofs.DescentsWithin.{IsDevice}
use Rattle.crush.proofs.PlacesPicked.{within_by}

-- what a bucket of a forest picks is known, and of a type below
picked_known : (w : World) (b : Bucket) (r : ℕ) → IsForest w.buckets → bucket_at w.buckets b.id ≡ Some b → (is_known w.buckets 4096 (pick_of b w.x r) ≡ true) × (level_of w.buckets (pick_of b w.x r) < b.level)
unfolding pick_of
picked_known w b r forest e =
    item_known w.buckets b.id b (place_picked b w.x r) (record { id = pos 0; weight = 0 }) forest e (within_by b.kind b w.x r refl (bucket_at-pickable w.buckets forest b.id b e))

-- a known item that is no bucket is a device
device_of : (buckets : List Bucket) (id : ℤ) → is_known buckets 4096 id ≡ true → bucket_at buckets id ≡ None → IsDevice id
device_of buckets (pos n) known none = record { osd = n; is = refl }
device_of buckets (negsuc n) known none = absurd (false≢true (ap is_some (sym none) ∙ known))

-- what a descent came to
abbrev Ends : World → (Bucket → ℕ) → ℕ → Bucket → Option Picked → Type 0
Ends w r wanted b o = MatchOption o (LeadsAstray w r wanted b) (λ p. LeadsToWanted w r wanted b p.item)

-- one pick before
picked_first : (w : World) (r : Bucket → ℕ) (wanted : ℕ) (b below : Bucket) (o : Option Picked) → bucket_at w.buckets (pick_of b w.x (r b)) ≡ Some below → Ends w r wanted below o → Ends w r wanted b o
picked_first w r wanted b below None e h = record { osd = h.osd; other = h.other; leads = record { between = below ∷ h.leads.between; picks = (e, h.leads.picks) } }
picked_first w r wanted b below (Some p) e h = record { of_type = h.of_type; known = h.known; leads = record { between = below ∷ h.leads.between; picks = (e, h.leads.picks) } }

-- a descent from the item picked
ends_by : (w : World) (r : Bucket → ℕ) (wanted n : ℕ) (b : Bucket) (hit : Bool) (o : Option Bucket) → eqb (level_of w.buckets (pick_of b w.x (r b))) wanted ≡ hit → bucket_at w.buckets (pick_of b w.x (r b)) ≡ o → is_known w.buckets 4096 (pick_of b w.x (r b)) ≡ true → ((below : Bucket) → bucket_at w.buckets (pick_of b w.x (r b)) ≡ Some below → Ends w r wanted below (descent w r wanted n below)) → Ends w r wanted b (cond hit (Some (record { item = pick_of b w.x (r b); r = r b })) (option_and_then (λ below. descent w r wanted n below) o))
ends_by w r wanted n b true o t e known later = record { of_type = eqb-true _ _ t; known = known; leads = record { between = []; picks = refl } }
ends_by w r wanted n b false None t e known later =
    let item = pick_of b w.x (r b) in
    let device = device_of w.buckets item known e in
    let bare : level_of w.buckets item ≡ 0 = ap (λ q. option_map_or (λ (c : Bucket). c.level) q 0) e in
    record {
      osd = device.osd;
      other = λ z. false≢true (sym t ∙ eq-eqb _ _ (bare ∙ sym z));
      leads = record { between = []; picks = device.is };
    }
ends_by w r wanted n b false (Some below) t e known later = picked_first w r wanted b below (descent w r wanted n below) e (later below e)

-- a descent with as many picks as its bucket has types below it
ends : (w : World) (r : Bucket → ℕ) (wanted n : ℕ) (b : Bucket) → IsForest w.buckets → bucket_at w.buckets b.id ≡ Some b → b.level ≤ n → Ends w r wanted b (descent w r wanted n b)
unfolding descent
ends w r wanted zero b forest e low = absurd (let some = typed w.buckets b.id b forest e in omega arith)
ends w r wanted (suc n) b forest e low =
    let item = pick_of b w.x (r b) in
    let picked = picked_known w b (r b) forest e in
    ends_by w r wanted n b (eqb (level_of w.buckets item) wanted) (bucket_at w.buckets item) refl refl picked.0
    (λ below is. (let place = find-place (λ c. int_eq c.id item) w.buckets below is in
    let same : below.id ≡ item = (Decides-int_eq below.id item).0 place.3 in
    let level : level_of w.buckets item ≡ below.level = ap (λ o. option_map_or (λ (c : Bucket). c.level) o 0) is in
    let under : below.level ≤ n = (let less = picked.1 in omega arith) in
    ends w r wanted n below forest (ap (bucket_at w.buckets) same ∙ is) under))

-- so a descent ends at the wanted type or at a device
pub descent_ends : DescentEnds
descent_ends w r wanted b forest e = ends w r wanted b.level b forest e (omega arith)
