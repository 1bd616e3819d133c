-- Entries put in place of those with their keys.
use Rattle.std.proofs.Common.{◌≡◌, ℕ, zero, suc, ◌+◌, ◌<◌, Bool, true, false, cond, List, [], ◌∷◌, ◌++◌, length, get_or, set, take, drop, refl, ap, arith}
use Rattle.std.specs.List.{fold}
use Rattle.keylist.specs.Keys.{has_key}
use Rattle.keylist.specs.Order.{IsRising}
use Rattle.keylist.specs.Puts.{put}
use Rattle.keylist.proofs.KeyedOrder.{rising_tail}
use Rattle.keylist.proofs.KeyedPuts.{put_past, put_over}
use Rattle.keylist.proofs.KeyedMaps.{length-put, length-puts_least}

module _ {X : Type 0} (key : X → ℕ) where
  -- an entry goes to the place where its key stands
  pub set-key : (xs : List X) (i : ℕ) (e : X) → IsRising key xs → i < length xs → key (get_or xs i e) ≡ key e → set xs i e ≡ put key xs e
  set-key [] i e rises inside same = absurd (omega arith)
  set-key (x ∷ xs) zero e rises inside same = rw (put_over key x xs e same) refl
  set-key (x ∷ xs) (suc i) e rises inside same =
      let below : key x < key (get_or xs i e) = rises 0 (suc i) e (omega arith) inside in
      rw (put_past key x xs e (omega arith)) (ap (λ ys. x ∷ ys) (set-key xs i e (rising_tail key x xs rises) (omega arith) same))

  -- where no key comes, that of the first to be put is there
  pub first_there : (xs : List X) (e : X) (es : List X) → IsRising key xs → length (fold (put key) xs (e ∷ es)) ≡ length xs → has_key key xs (key e) ≡ true
  first_there xs e es rises same =
      there (has_key key xs (key e)) (omega (arith, length-puts_least key (put key xs e) es, length-put key xs e rises))
    where
      there : (b : Bool) → ◌≡◌ {A = ℕ} (cond b 0 1) 0 → b ≡ true
      there true none = refl
      there false one = absurd (omega arith)
