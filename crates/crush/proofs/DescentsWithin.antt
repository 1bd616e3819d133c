-- a placement stays within a set of items that holds, with each bucket, all items of that bucket; and of two lists of
-- reweights that agree on its devices it does not tell one from the other
use Rattle.std.proofs.Common.{◌≡◌, ℕ, zero, suc, ◌<◌, ℤ, pos, Bool, true, false, cond, eqb, List, [], ◌∷◌, length, get_or, Option, Some, None, ap, refl, ◌∙◌, subst}
use Rattle.std.proofs.lemmas.Bool.{eqb-true}
use Rattle.std.specs.List.{find, filter_map, cons_option}
use Rattle.std.specs.Option.{option_and_then, option_map}
use Rattle.buckets.specs.declared.bucket.Item.{Item}
use Rattle.buckets.specs.declared.bucket.Bucket.{Bucket}
use Rattle.crush.specs.declared.choose.Picked.{Picked}
use Rattle.crush.specs.Forest.{bucket_at, level_of}
use Rattle.buckets.specs.Buckets.{IsPickable}
use Rattle.buckets.specs.Pick.{place_picked, pick_of}
use Rattle.crush.specs.World.{World, world_of, is_out}
use Rattle.crush.specs.Descent.{descent, item_below, device_below, leaf_below}
use Rattle.crush.proofs.PlacesPicked.{within_by}

-- the same with other reweights
abbrev pub other : World → List ℕ → World
other w vs = world_of w.buckets vs w.x

-- the id of a device
pub record IsDevice (id : ℤ) : Type 0 where
  pub osd : ℕ
  pub is : id ≡ pos osd

-- a bucket from which an item can be picked, all of whose items are in a set, and those of type 0 devices
pub record HasIn (R : ℤ → Type 0) (buckets : List Bucket) (b : Bucket) : Type 0 where
  pub pickable : IsPickable b
  pub items : (k : ℕ) (d : Item) → k < length b.items → R (get_or b.items k d).id
  pub devices : (k : ℕ) (d : Item) → k < length b.items → level_of buckets (get_or b.items k d).id ≡ 0 → IsDevice (get_or b.items k d).id

-- a set that holds, with each bucket, all items of that bucket, and on whose devices two lists of reweights agree
pub record AreAlike (R : ℤ → Type 0) (w : World) (vs : List ℕ) : Type 0 where
  pub below : (id : ℤ) (b : Bucket) → R id → bucket_at w.buckets id ≡ Some b → HasIn R w.buckets b
  pub alike : (d : ℤ) → R d → IsDevice d → is_out w d ≡ is_out (other w vs) d

-- what a bucket picks is one of its items
picked_in : (R : ℤ → Type 0) (buckets : List Bucket) (b : Bucket) (x r : ℕ) → HasIn R buckets b → R (pick_of b x r)
unfolding pick_of
picked_in R buckets b x r h = h.items (place_picked b x r) (record { id = pos 0; weight = 0 }) (within_by b.kind b x r refl h.pickable)

-- a pick of type 0 is a device
picked_device : (R : ℤ → Type 0) (buckets : List Bucket) (b : Bucket) (x r : ℕ) → HasIn R buckets b → level_of buckets (pick_of b x r) ≡ 0 → IsDevice (pick_of b x r)
unfolding pick_of
picked_device R buckets b x r h e = h.devices (place_picked b x r) (record { id = pos 0; weight = 0 }) (within_by b.kind b x r refl h.pickable) e

-- a descent reads no reweight
pub descent_same : (w : World) (vs : List ℕ) (r : Bucket → ℕ) (wanted n : ℕ) (b : Bucket) → descent w r wanted n b ≡ descent (other w vs) r wanted n b
unfolding descent
descent_same w vs r wanted zero b = refl
descent_same w vs r wanted (suc n) b =
    let item = pick_of b w.x (r b) in
    let here : Picked = record { item = item; r = r b } in
    let below : (λ (c : Bucket). descent w r wanted n c) ≡ (λ c. descent (other w vs) r wanted n c) = λ i c. descent_same w vs r wanted n c i in
    ap (λ (f : Bucket → Option Picked). cond (eqb (level_of w.buckets item) wanted) (Some here) (option_and_then f (bucket_at w.buckets item))) below

-- one step of a descent in the set
down_by : (R : ℤ → Type 0) (hit : Bool) (here : Picked) (o : Option Bucket) (f : Bucket → Option Picked) (p : Picked) → R here.item → ((b : Bucket) → o ≡ Some b → f b ≡ Some p → R p.item) → cond hit (Some here) (option_and_then f o) ≡ Some p → R p.item
down_by R true here o f p holds later h = let same : here ≡ p = cc in let P : Picked → Type 0 = λ q. R q.item in subst P same holds
down_by R false here None f p holds later h = absurd (cc)
down_by R false here (Some b) f p holds later h = later b refl h

-- a descent stays in the set
pub descent_in : (R : ℤ → Type 0) (w : World) (vs : List ℕ) (r : Bucket → ℕ) (wanted n : ℕ) (b : Bucket) (p : Picked) → AreAlike R w vs → HasIn R w.buckets b → descent w r wanted n b ≡ Some p → R p.item
unfolding descent
descent_in R w vs r wanted zero b p s h e = absurd (cc)
descent_in R w vs r wanted (suc n) b p s h e =
    let item = pick_of b w.x (r b) in
    let holds = picked_in R w.buckets b w.x (r b) h in
    down_by R (eqb (level_of w.buckets item) wanted) (record { item = item; r = r b }) (bucket_at w.buckets item) (λ below. descent w r wanted n below) p holds (λ below is later. descent_in R w vs r wanted n below p s (s.below item below holds is) later) e

-- one step of a descent to type 0
level_by : (hit : Bool) (here : Picked) (o : Option Bucket) (f : Bucket → Option Picked) (p : Picked) → (hit ≡ true → IsDevice here.item) → ((b : Bucket) → o ≡ Some b → f b ≡ Some p → IsDevice p.item) → cond hit (Some here) (option_and_then f o) ≡ Some p → IsDevice p.item
level_by true here o f p holds later h = let same : here ≡ p = cc in let P : Picked → Type 0 = λ q. IsDevice q.item in subst P same (holds refl)
level_by false here None f p holds later h = absurd (cc)
level_by false here (Some b) f p holds later h = later b refl h

-- and ends at a device where type 0 is wanted
pub descent_device : (R : ℤ → Type 0) (w : World) (vs : List ℕ) (r : Bucket → ℕ) (n : ℕ) (b : Bucket) (p : Picked) → AreAlike R w vs → HasIn R w.buckets b → descent w r 0 n b ≡ Some p → IsDevice p.item
unfolding descent
descent_device R w vs r zero b p s h e = absurd (cc)
descent_device R w vs r (suc n) b p s h e =
    let item = pick_of b w.x (r b) in
    let holds = picked_in R w.buckets b w.x (r b) h in
    level_by (eqb (level_of w.buckets item) 0) (record { item = item; r = r b }) (bucket_at w.buckets item) (λ below. descent w r 0 n below) p
    (λ hit. picked_device R w.buckets b w.x (r b) h (eqb-true _ _ hit))
    (λ below is later. descent_device R w vs r n below p s (s.below item below holds is) later) e

-- the item of a descent that found one
pub device_by : (o : Option Picked) (d : ℤ) → option_map (λ p. p.item) o ≡ Some d → (p : Picked) × (o ≡ Some p) × (p.item ≡ d)
device_by None d h = absurd (cc)
device_by (Some p) d h = (p, refl, cc)

-- a device below a bucket of the set is in it
device_in : (R : ℤ → Type 0) (w : World) (vs : List ℕ) (b : Bucket) (r : Bucket → ℕ) (d : ℤ) → AreAlike R w vs → HasIn R w.buckets b → device_below w b r ≡ Some d → R d
device_in R w vs b r d s h e =
    let found = device_by (item_below w r 0 b) d e in
    subst R found.2 (descent_in R w vs r 0 b.level b found.0 s h found.1)

-- and a device
is_device : (R : ℤ → Type 0) (w : World) (vs : List ℕ) (b : Bucket) (r : Bucket → ℕ) (d : ℤ) → AreAlike R w vs → HasIn R w.buckets b → device_below w b r ≡ Some d → IsDevice d
is_device R w vs b r d s h e =
    let found = device_by (item_below w r 0 b) d e in
    subst IsDevice found.2 (descent_device R w vs r b.level b found.0 s h found.1)

-- one more device in a search
sought_by : (accepts accepts' : ℤ → Bool) (o : Option ℤ) (xs ys : List ℤ) → ((d : ℤ) → o ≡ Some d → accepts d ≡ accepts' d) → find accepts xs ≡ find accepts' ys → find accepts (cons_option o xs) ≡ find accepts' (cons_option o ys)
sought_by accepts accepts' None xs ys alike rest = rest
sought_by accepts accepts' (Some d) xs ys alike rest = ap (λ b. cond b (Some d) (find accepts xs)) (alike d refl) ∙ ap (λ o. cond (accepts' d) (Some d) o) rest

-- the same device is found under both lists
sought_same : (R : ℤ → Type 0) (w : World) (vs : List ℕ) (accepts accepts' : ℤ → Bool) (b : Bucket) (rs : List (Bucket → ℕ)) → AreAlike R w vs → HasIn R w.buckets b → ((d : ℤ) → R d → IsDevice d → accepts d ≡ accepts' d) → find accepts (filter_map (device_below w b) rs) ≡ find accepts' (filter_map (device_below (other w vs) b) rs)
sought_same R w vs accepts accepts' b [] s h alike = refl
sought_same R w vs accepts accepts' b (r ∷ rs) s h alike =
    let o = device_below w b r in
    let same : o ≡ device_below (other w vs) b r = ap (option_map (λ (p : Picked). p.item)) (descent_same w vs r 0 b.level b) in
    sought_by accepts accepts' o (filter_map (device_below w b) rs) (filter_map (device_below (other w vs) b) rs) (λ d is. alike d (device_in R w vs b r d s h is) (is_device R w vs b r d s h is)) (sought_same R w vs accepts accepts' b rs s h alike)
    ∙ ap (λ q. find accepts' (cons_option q (filter_map (device_below (other w vs) b) rs))) same

-- two functions of the bucket that is there
either_bucket : (o : Option Bucket) (f g : Bucket → Option ℤ) → ((b : Bucket) → o ≡ Some b → f b ≡ g b) → option_and_then f o ≡ option_and_then g o
either_bucket None f g h = refl
either_bucket (Some b) f g h = h b refl

-- the leaf below an item of the set is the same under both lists
pub leaf_same : (R : ℤ → Type 0) (w : World) (vs : List ℕ) (accepts accepts' : ℤ → Bool) (rs : List (Bucket → ℕ)) (item : ℤ) → AreAlike R w vs → R item → ((d : ℤ) → R d → IsDevice d → accepts d ≡ accepts' d) → leaf_below w accepts rs item ≡ leaf_below (other w vs) accepts' rs item
unfolding leaf_below
leaf_same R w vs accepts accepts' rs item s holds alike =
    either_bucket (bucket_at w.buckets item) _ _ (λ b is. sought_same R w vs accepts accepts' b rs s (s.below item b holds is) alike)

-- one more device in a search that stays in the set
pub found_by : (R : ℤ → Type 0) (accepts : ℤ → Bool) (o : Option ℤ) (xs : List ℤ) (found : ℤ) → ((d : ℤ) → o ≡ Some d → R d) → (find accepts xs ≡ Some found → R found) → find accepts (cons_option o xs) ≡ Some found → R found
found_by R accepts None xs found here later h = later h
found_by R accepts (Some d) xs found here later h = taken (accepts d) h
  where
    taken : (passes : Bool) → cond passes (Some d) (find accepts xs) ≡ Some found → R found
    taken true e = let same : d ≡ found = cc in subst R same (here d refl)
    taken false e = later e

-- what is found is in the set
found_in : (R : ℤ → Type 0) (w : World) (vs : List ℕ) (accepts : ℤ → Bool) (b : Bucket) (rs : List (Bucket → ℕ)) (found : ℤ) → AreAlike R w vs → HasIn R w.buckets b → find accepts (filter_map (device_below w b) rs) ≡ Some found → R found
found_in R w vs accepts b [] found s h e = absurd (cc)
found_in R w vs accepts b (r ∷ rs) found s h e =
    found_by R accepts (device_below w b r) (filter_map (device_below w b) rs) found (λ d is. device_in R w vs b r d s h is) (found_in R w vs accepts b rs found s h) e

-- what is found below the bucket that is there
pub leaf_by : (R : ℤ → Type 0) (o : Option Bucket) (f : Bucket → Option ℤ) (leaf : ℤ) → ((b : Bucket) → o ≡ Some b → f b ≡ Some leaf → R leaf) → option_and_then f o ≡ Some leaf → R leaf
leaf_by R None f leaf h e = absurd (cc)
leaf_by R (Some b) f leaf h e = h b refl e

-- and in the set
pub leaf_in : (R : ℤ → Type 0) (w : World) (vs : List ℕ) (accepts : ℤ → Bool) (rs : List (Bucket → ℕ)) (item leaf : ℤ) → AreAlike R w vs → R item → leaf_below w accepts rs item ≡ Some leaf → R leaf
unfolding leaf_below
leaf_in R w vs accepts rs item leaf s holds e =
    leaf_by R (bucket_at w.buckets item) _ leaf (λ b is found. found_in R w vs accepts b rs leaf s (s.below item b holds is) found) e
