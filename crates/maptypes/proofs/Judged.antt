-- What follows from the tests that were passed, and from the fault of a part of the work.
use Rattle.std.proofs.Common.{◌≡◌, ℕ, Bool, true, false, ◌&&◌, List, [], ◌∷◌, map, Option, Some, None, Result, Ok, Err, ◌⊎◌, refl, ap, inl, inr}
use Rattle.std.specs.Result.{IsErrAnd}
use Rattle.refusal.specs.declared.refused.Refusal.{Refusal}
use Rattle.refusal.specs.declared.refused.Refusal.TheVariants.{Memory as OutOfMemory}
use Rattle.refusal.specs.Outcomes.{refused_unless, Makes}
use Rattle.keylist.specs.Keys.{is_distinct}
use Rattle.keylist.specs.Order.{Rises}

-- what is not refused passed its test
pub passed : (ok : Bool) (refusal : Refusal) → refused_unless ok refusal ≡ None → ok ≡ true
passed true refusal h = refl
passed false refusal h = cc

-- what is refused did not
pub refused : (ok : Bool) (refusal e : Refusal) → refused_unless ok refusal ≡ Some e → ok ≡ false
refused true refusal e h = absurd (cc)
refused false refusal e h = refl

-- an error that is known is that error
pub error_is : {X : Type 0} (r : Result X Refusal) (e : Refusal) → IsErrAnd r (λ y. y ≡ e) → r ≡ Err e
error_is (Ok x) e h = absurd h
error_is (Err y) e h = ap Err h

-- an error that a part of the work answers is the answer
pub stops : {X : Type 0} (r : Result X Refusal) (P : X → Type 0) (fault part : Option Refusal) (e : Refusal)
    → (part ≡ Some e → fault ≡ Some e) → ((e ≡ OutOfMemory) ⊎ (part ≡ Some e)) → IsErrAnd r (λ y. y ≡ e) → Makes r fault P
stops r P fault part e so h err = rw (error_is r e err) (or_so h)
  where
    or_so : ((e ≡ OutOfMemory) ⊎ (part ≡ Some e)) → (e ≡ OutOfMemory) ⊎ (fault ≡ Some e)
    or_so (inl memory) = inl memory
    or_so (inr wrong) = inr (so wrong)

-- and with true is the first
and_true : (b : Bool) → (b && true) ≡ b
and_true true = refl
and_true false = refl

-- what is made of parts has their keys
keys_same : {P X : Type 0} (made : P → X) (key : P → ℕ) (number : X → ℕ) → ((p : P) → number (made p) ≡ key p) → (parts : List P) → map number (map made parts) ≡ map key parts
keys_same made key number same [] = refl
keys_same made key number same (p ∷ parts) = rw (same p, keys_same made key number same parts) refl

-- what puts entries that passed their tests in order refuses no more than a key twice
pub ordered : {P X V : Type 0} (items : V → List X) (made : P → X) (key : P → ℕ) (number : X → ℕ) → ((p : P) → number (made p) ≡ key p)
    → (parts : List P) (given : List X) (ok : Bool) (refusal : Refusal) (r : Result V Refusal) → given ≡ map made parts → refused_unless ok refusal ≡ None
    → Makes r (refused_unless (is_distinct (map number given)) refusal) (λ v. Rises number given (items v))
    → Makes r (refused_unless (is_distinct (map key parts) && ok) refusal) (λ v. Rises number (map made parts) (items v))
ordered items made key number same parts given ok refusal r is fine h =
    rw (passed ok refusal fine, and_true (is_distinct (map key parts)), ← keys_same made key number same parts) (rw is at h)

-- so it is where the tests are of what is put in order
pub ordered_itself : {X V : Type 0} (items : V → List X) (number : X → ℕ) (given : List X) (ok : Bool) (refusal : Refusal) (r : Result V Refusal) → ok ≡ true
    → Makes r (refused_unless (is_distinct (map number given)) refusal) (λ v. Rises number given (items v))
    → Makes r (refused_unless (is_distinct (map number given) && ok) refusal) (λ v. Rises number given (items v))
ordered_itself items number given ok refusal r is h = rw (is, and_true (is_distinct (map number given))) h

-- where a test fails
pub fails_both : (a b : Bool) (refusal : Refusal) → b ≡ false → refused_unless (a && b) refusal ≡ Some refusal
fails_both true b refusal h = rw h refl
fails_both false b refusal h = refl
