-- Going on below what is in use, round by round, as a loop does.
use Rattle.std.proofs.Common.{◌≡◌, ℕ, ℤ, zero, suc, ◌-◌, ◌+◌, ◌<◌, ◌≤◌, List, refl, sym, ◌∙◌, arith}
use Rattle.mapparts.specs.declared.parts.BucketPart.{BucketPart}
use Rattle.cephimport.specs.Reach.{next_round, reach}

-- after one round more, the rounds that are left reach the same in the end
pub goes_on : (n i : ℕ) (all : List BucketPart) (ids after total : List ℤ) → i < n → after ≡ next_round all ids → reach (n - i) all ids ≡ total → reach (n - (i + 1)) all after ≡ total
unfolding reach
goes_on n i all ids after total lt e so_far = let k : n - i ≡ suc (n - (i + 1)) = omega arith in rw e (rw k at so_far)

-- where no round is left, what was reached is all that is reached
pub is_done : (n i : ℕ) (all : List BucketPart) (ids total : List ℤ) → n ≤ i → reach (n - i) all ids ≡ total → ids ≡ total
unfolding reach
is_done n i all ids total le so_far = let k : n - i ≡ 0 = omega arith in rw k at so_far

-- where nothing comes in a round, nothing comes later
fixed : (n : ℕ) (all : List BucketPart) (ids : List ℤ) → next_round all ids ≡ ids → reach n all ids ≡ ids
unfolding reach
fixed zero all ids e = refl
fixed (suc n) all ids e = rw e (fixed n all ids e)

-- where a round brings nothing, what was reached is all that is reached
pub stays : (n i : ℕ) (all : List BucketPart) (ids after total : List ℤ) → after ≡ next_round all ids → after ≡ ids → reach (n - i) all ids ≡ total → ids ≡ total
stays n i all ids after total made same so_far = sym (fixed (n - i) all ids (sym made ∙ same)) ∙ so_far
