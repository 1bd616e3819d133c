-- Where no position is open, further rounds change nothing.
use Rattle.std.proofs.Common.{◌≡◌, ℕ, zero, suc, ◌≤◌, Bool, true, false, cond, ◌||◌, List, [], ◌∷◌, length, get_or, set, ap, refl}
use Rattle.std.specs.List.{fold, list_any, range_with_len}
use Rattle.buckets.specs.declared.bucket.Bucket.{Bucket}
use Rattle.crush.specs.declared.choose.Position.{Position}
use Rattle.crush.specs.declared.choose.Position.TheVariants.{Hole}
use Rattle.crush.specs.Choosing.{Choosing}
use Rattle.crush.specs.Indep.{is_open, position_of, after_position, after_round}
use Rattle.crush.proofs.Rounds.{fold_idle, fold_over}

-- neither of two tests holds
both_false : (a b : Bool) → (a || b) ≡ false → (a ≡ false) × (b ≡ false)
both_false true b h = absurd (cc)
both_false false b h = (refl, h)

-- no position of a list is open of which none is
none_open : (ps : List Position) (k : ℕ) → list_any is_open ps ≡ false → is_open (get_or ps k Hole) ≡ false
none_open [] zero h = refl
none_open [] (suc k) h = refl
none_open (p ∷ ps) zero h = (both_false (is_open p) (list_any is_open ps) h).0
none_open (p ∷ ps) (suc k) h = none_open ps k (both_false (is_open p) (list_any is_open ps) h).1

-- so a round leaves the positions alone
round_idle : (k : Choosing) (start : Bucket) (ps : List Position) (round : ℕ) → list_any is_open ps ≡ false → after_round k start ps round ≡ ps
unfolding after_round
round_idle k start ps round h =
    fold_idle (after_position k start round) ps (λ rep. ap (λ b. cond b (set ps rep (position_of k start round ps rep)) ps) (none_open ps rep h)) (range_with_len 0 (length ps))

-- the positions after some rounds are those after all where none is open
pub rounds_over : (k : Choosing) (start : Bucket) (first ps : List Position) (round all : ℕ) → round ≤ all → ps ≡ fold (after_round k start) first (range_with_len 0 round) → list_any is_open ps ≡ false → ps ≡ fold (after_round k start) first (range_with_len 0 all)
rounds_over k start first ps round all within so_far h = fold_over (after_round k start) first ps round all within so_far (λ r. round_idle k start ps r h)
