-- one pick of a descent
use Rattle.std.proofs.Common.{◌≡◌, ◌≢◌, ℕ, zero, suc, ◌+◌, ◌-◌, ◌<◌, ◌≤◌, ℤ, cond, eqb, Option, Some, None, sym, ap, ◌∙◌, arith}
use Rattle.std.specs.Option.{option_and_then, option_map_or}
use Rattle.std.proofs.lemmas.Bool.{eq-eqb, ne_eqb}
use Rattle.buckets.specs.declared.bucket.Bucket.{Bucket}
use Rattle.crush.specs.declared.choose.Picked.{Picked}
use Rattle.crush.specs.Forest.{bucket_at, level_of}
use Rattle.buckets.specs.Pick.{pick_of}
use Rattle.crush.specs.World.{World}
use Rattle.crush.specs.Indep.{replica_number}
use Rattle.crush.specs.Descent.{descent}

-- the type of an item, from its bucket
pub level_is : (w : World) (found : Option Bucket) (item : ℤ) (level : ℕ) → level ≡ option_map_or (λ b. b.level) found 0 → found ≡ bucket_at w.buckets item → level ≡ level_of w.buckets item
level_is w found item level e is = e ∙ ap (λ o. option_map_or (λ b. b.level) o 0) is

-- what one pick leads to
abbrev next : World → (Bucket → ℕ) → ℕ → ℕ → Bucket → ℤ → Option Picked
next w r wanted n b item = cond (eqb (level_of w.buckets item) wanted) (Some (record { item = item; r = r b })) (option_and_then (λ below. descent w r wanted n below) (bucket_at w.buckets item))

-- `item` is what was picked, and `shown` is the same number as a call passes it on
opened : (w : World) (r : Bucket → ℕ) (wanted n met : ℕ) (b : Bucket) (item shown : ℤ) → met < n → item ≡ pick_of b w.x (r b) → shown ≡ item → descent w r wanted (n - met) b ≡ next w r wanted (n - (met + 1)) b shown
unfolding descent
opened w r wanted n met b item shown lt e s =
    let more : n - met ≡ suc (n - (met + 1)) = omega arith in
    ap (λ m. descent w r wanted m b) more ∙ ap (next w r wanted (n - (met + 1)) b) (sym e ∙ sym s)

-- the loop ends at an item of the wanted type
pub descent_hit : (w : World) (r : Bucket → ℕ) (wanted n met level : ℕ) (b : Bucket) (item shown : ℤ) → met < n → item ≡ pick_of b w.x (r b) → shown ≡ item → level ≡ level_of w.buckets shown → level ≡ wanted → descent w r wanted (n - met) b ≡ Some (record { item = shown; r = r b })
descent_hit w r wanted n met level b item shown lt e s l h =
    opened w r wanted n met b item shown lt e s
    ∙ ap (λ t. cond t (Some (record { item = shown; r = r b })) (option_and_then (λ below. descent w r wanted (n - (met + 1)) below) (bucket_at w.buckets shown))) (eq-eqb _ _ (sym l ∙ h))

-- where the item is of another type, its bucket is next
missed : (w : World) (r : Bucket → ℕ) (wanted n met level : ℕ) (b : Bucket) (item shown : ℤ) → met < n → item ≡ pick_of b w.x (r b) → shown ≡ item → level ≡ level_of w.buckets shown → level ≢ wanted → descent w r wanted (n - met) b ≡ option_and_then (λ below. descent w r wanted (n - (met + 1)) below) (bucket_at w.buckets shown)
missed w r wanted n met level b item shown lt e s l h =
    opened w r wanted n met b item shown lt e s
    ∙ ap (λ t. cond t (Some (record { item = shown; r = r b })) (option_and_then (λ below. descent w r wanted (n - (met + 1)) below) (bucket_at w.buckets shown))) (ne_eqb _ _ (λ q. h (l ∙ q)))

-- the loop ends at a device of another type
pub descent_end : (w : World) (r : Bucket → ℕ) (wanted n met level : ℕ) (b : Bucket) (item shown : ℤ) → met < n → item ≡ pick_of b w.x (r b) → shown ≡ item → level ≡ level_of w.buckets shown → level ≢ wanted → bucket_at w.buckets shown ≡ None → descent w r wanted (n - met) b ≡ None
descent_end w r wanted n met level b item shown lt e s l h gone =
    missed w r wanted n met level b item shown lt e s l h ∙ ap (option_and_then (λ below. descent w r wanted (n - (met + 1)) below)) gone

-- the loop goes on from the bucket of the item
pub descent_more : (w : World) (r : Bucket → ℕ) (wanted n met level : ℕ) (b below : Bucket) (item shown : ℤ) → met < n → item ≡ pick_of b w.x (r b) → shown ≡ item → level ≡ level_of w.buckets shown → level ≢ wanted → bucket_at w.buckets shown ≡ Some below → descent w r wanted (n - met) b ≡ descent w r wanted (n - (met + 1)) below
descent_more w r wanted n met level b below item shown lt e s l h is =
    missed w r wanted n met level b item shown lt e s l h ∙ ap (option_and_then (λ c. descent w r wanted (n - (met + 1)) c)) is

-- the loop ends where no pick is left
pub descent_none : (w : World) (r : Bucket → ℕ) (wanted n met : ℕ) (b : Bucket) → n ≤ met → descent w r wanted (n - met) b ≡ None
unfolding descent
descent_none w r wanted n met b past = let none : n - met ≡ zero = omega arith in ap (λ m. descent w r wanted m b) none

-- in round 0 the number is the same at each bucket
at_zero : (r : ℕ) (b : Bucket) → replica_number 1 r 0 b ≡ r
unfolding replica_number
at_zero r b = omega arith

-- so a draw of round 0 over one replica is a number of its own
pub steady : (r : ℕ) → replica_number 1 r 0 ≡ (λ _. r)
steady r = λ i b. at_zero r b i
