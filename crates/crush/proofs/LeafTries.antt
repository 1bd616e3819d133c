-- one try for a leaf
use Rattle.std.proofs.Common.{◌≡◌, ℕ, zero, suc, ◌+◌, ◌-◌, ◌<◌, ◌≤◌, ℤ, Bool, true, false, cond, List, map, Option, Some, None, sym, ap, ◌∙◌, arith}
use Rattle.std.specs.List.{find, filter_map, cons_option, range_with_len}
use Rattle.std.specs.Option.{option_and_then, option_map}
use Rattle.buckets.specs.declared.bucket.Bucket.{Bucket}
use Rattle.crush.specs.declared.choose.Picked.{Picked}
use Rattle.crush.specs.Forest.{bucket_at}
use Rattle.crush.specs.World.{World}
use Rattle.crush.specs.Descent.{item_below, device_below, leaf_below}

-- the first acceptable device below b, in n tries from r on, where F says which numbers try r draws with
abbrev pub first_leaf : World → (ℤ → Bool) → Bucket → (ℕ → Bucket → ℕ) → ℕ → ℕ → Option ℤ
first_leaf w accepts b F r n = find accepts (filter_map (device_below w b) (map F (range_with_len r n)))

-- below what is no bucket there is no leaf
pub leaf_nowhere : (w : World) (accepts : ℤ → Bool) (rs : List (Bucket → ℕ)) (item : ℤ) → bucket_at w.buckets item ≡ None → leaf_below w accepts rs item ≡ None
unfolding leaf_below
leaf_nowhere w accepts rs item gone = ap (option_and_then (λ b. find accepts (filter_map (device_below w b) rs))) gone

-- below a bucket the leaf is the first acceptable device
pub leaf_in : (w : World) (accepts : ℤ → Bool) (F : ℕ → Bucket → ℕ) (r n : ℕ) (item : ℤ) (b : Bucket) → bucket_at w.buckets item ≡ Some b → leaf_below w accepts (map F (range_with_len r n)) item ≡ first_leaf w accepts b F r n
unfolding leaf_below
leaf_in w accepts F r n item b is = ap (option_and_then (λ b'. find accepts (filter_map (device_below w b') (map F (range_with_len r n))))) is

-- what one try adds
tried : World → (ℤ → Bool) → Bucket → (ℕ → Bucket → ℕ) → ℕ → ℕ → Option Picked → Option ℤ
tried w accepts b F r n None = first_leaf w accepts b F r n
tried w accepts b F r n (Some p) = cond (accepts p.item) (Some p.item) (first_leaf w accepts b F r n)

-- by what the first try comes to
after_one : (w : World) (accepts : ℤ → Bool) (b : Bucket) (F : ℕ → Bucket → ℕ) (r n : ℕ) (found : Option Picked) → item_below w (F r) 0 b ≡ found → first_leaf w accepts b F r (suc n) ≡ tried w accepts b F (r + 1) n found
unfolding tried
after_one w accepts b F r n None e = ap (λ o. find accepts (cons_option (option_map (λ p. p.item) o) (filter_map (device_below w b) (map F (range_with_len (r + 1) n))))) e
after_one w accepts b F r n (Some p) e = ap (λ o. find accepts (cons_option (option_map (λ p. p.item) o) (filter_map (device_below w b) (map F (range_with_len (r + 1) n))))) e

-- the same, as the loop has it
stepped : (w : World) (accepts : ℤ → Bool) (b : Bucket) (F : ℕ → Bucket → ℕ) (r n failures : ℕ) (found : Option Picked) → failures < n → found ≡ item_below w (F (r + failures)) 0 b → first_leaf w accepts b F (r + failures) (n - failures) ≡ tried w accepts b F (r + (failures + 1)) (n - (failures + 1)) found
stepped w accepts b F r n failures found lt e =
    let more : n - failures ≡ suc (n - (failures + 1)) = omega arith in
    let next : (r + failures) + 1 ≡ r + (failures + 1) = omega arith in
    ap (first_leaf w accepts b F (r + failures)) more ∙ after_one w accepts b F (r + failures) (n - (failures + 1)) found (sym e) ∙ ap (λ m. tried w accepts b F m (n - (failures + 1)) found) next

-- the loop ends at an acceptable device
pub leaf_found : (w : World) (accepts : ℤ → Bool) (b : Bucket) (F : ℕ → Bucket → ℕ) (r n failures : ℕ) (p : Picked) (shown : ℤ) (ok : Bool) → failures < n → Some p ≡ item_below w (F (r + failures)) 0 b → shown ≡ p.item → ok ≡ accepts shown → ok ≡ true → first_leaf w accepts b F (r + failures) (n - failures) ≡ Some shown
unfolding tried
leaf_found w accepts b F r n failures p shown ok lt e s a t =
    stepped w accepts b F r n failures (Some p) lt e ∙ ap (λ d. cond (accepts d) (Some d) (first_leaf w accepts b F (r + (failures + 1)) (n - (failures + 1)))) (sym s) ∙ ap (λ v. cond v (Some shown) (first_leaf w accepts b F (r + (failures + 1)) (n - (failures + 1)))) (sym a ∙ t)

-- the loop goes on after one that is not
pub leaf_refused : (w : World) (accepts : ℤ → Bool) (b : Bucket) (F : ℕ → Bucket → ℕ) (r n failures : ℕ) (p : Picked) (shown : ℤ) (ok : Bool) → failures < n → Some p ≡ item_below w (F (r + failures)) 0 b → shown ≡ p.item → ok ≡ accepts shown → ok ≡ false → first_leaf w accepts b F (r + failures) (n - failures) ≡ first_leaf w accepts b F (r + (failures + 1)) (n - (failures + 1))
unfolding tried
leaf_refused w accepts b F r n failures p shown ok lt e s a t =
    stepped w accepts b F r n failures (Some p) lt e ∙ ap (λ d. cond (accepts d) (Some d) (first_leaf w accepts b F (r + (failures + 1)) (n - (failures + 1)))) (sym s) ∙ ap (λ v. cond v (Some shown) (first_leaf w accepts b F (r + (failures + 1)) (n - (failures + 1)))) (sym a ∙ t)

-- the loop goes on where a descent comes to none
pub leaf_missing : (w : World) (accepts : ℤ → Bool) (b : Bucket) (F : ℕ → Bucket → ℕ) (r n failures : ℕ) → failures < n → None ≡ item_below w (F (r + failures)) 0 b → first_leaf w accepts b F (r + failures) (n - failures) ≡ first_leaf w accepts b F (r + (failures + 1)) (n - (failures + 1))
unfolding tried
leaf_missing w accepts b F r n failures lt e = stepped w accepts b F r n failures None lt e

-- the loop ends where no try is left
pub leaf_over : (w : World) (accepts : ℤ → Bool) (b : Bucket) (F : ℕ → Bucket → ℕ) (r n failures : ℕ) → n ≤ failures → first_leaf w accepts b F (r + failures) (n - failures) ≡ None
leaf_over w accepts b F r n failures past = let none : n - failures ≡ zero = omega arith in ap (first_leaf w accepts b F (r + failures)) none
