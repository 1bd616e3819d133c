-- Histories whose epochs go up by one.
use Rattle.std.proofs.Common.{◌≡◌, ℕ, zero, suc, ◌+◌, List, [], ◌∷◌, ◌++◌, length, Some, slice_get, Option, None, Result, Ok, Err, IfSome, IfNone, OnOk, OnErr, sym, ◌∙◌, ap, subst, arith}
use Rattle.std.specs.Prelude.{Contains}
use Rattle.std.proofs.lemmas.Option.{slice_get_within, get_or_from_slice_get, same_Some}
use Rattle.maptypes.specs.Incrementals.{Step}
use Rattle.epochlog.specs.Epochs.{IsNumbered, last_epoch}
use Rattle.sealed.specs.History.{PassFacts}

-- the last epoch is as far from the first as there are incrementals
pub last_is : (before : ℕ) (is : List Step) → IsNumbered before is → last_epoch before is ≡ before + length is
last_is before [] numbered = omega arith
last_is before (i ∷ is) numbered = omega (arith, numbered.0, last_is i.epoch is numbered.1)

-- an incremental more, of the next epoch
pub numbered_more : (before : ℕ) (is : List Step) (i : Step) → IsNumbered before is → i.epoch ≡ last_epoch before is + 1 → IsNumbered before (is ++ i ∷ [])
numbered_more before [] i numbered e = (e, tt)
numbered_more before (j ∷ is) i numbered e = (numbered.0, numbered_more j.epoch is i numbered.1 e)

-- the epoch of the incremental in a place
pub epoch_at : (before : ℕ) (is : List Step) (k : ℕ) (i : Step) → IsNumbered before is → slice_get is k ≡ Some i → i.epoch ≡ before + 1 + k
epoch_at before [] k i numbered e = absurd (cc e)
epoch_at before (j ∷ is) zero i numbered e = let same : j ≡ i = same_Some j i e in ap (λ s. s.epoch) (sym same) ∙ omega (arith, numbered.0)
epoch_at before (j ∷ is) (suc k) i numbered e = omega (arith, numbered.0, epoch_at j.epoch is k i numbered.1 e)

-- what is in a place of a list is in the list
pub contained : {T : Type 0} (xs : List T) (k : ℕ) (x : T) → slice_get xs k ≡ Some x → Contains xs x
contained xs k x e = (k, slice_get_within xs k x e, get_or_from_slice_get xs k x x e)

-- where the history is as it was, or longer by an incremental of the next epoch
pub numbered_if : {R : Type 0} (shown : R → Step) (o : Option R) (first : ℕ) (old new : PassFacts Step) → IsNumbered first old.history → IfSome o (λ r. new.history ≡ old.history ++ shown r ∷ []) → IfNone o (new ≡ old) → IfSome o (λ r. (shown r).epoch ≡ last_epoch first old.history + 1) → IsNumbered first new.history
numbered_if shown None first old new numbered grown same next = subst (λ s. IsNumbered first s.history) (sym same) numbered
numbered_if shown (Some r) first old new numbered grown same next = subst (IsNumbered first) (sym grown) (numbered_more first old.history (shown r) numbered next)

-- a sealing that answers Ok puts the next epoch behind a history, and one that does not leaves it, so its epochs go on
-- by one
pub numbered_on : {A B : Type 0} (r : Result A B) (i : Step) (first : ℕ) (old new : PassFacts Step) → IsNumbered first old.history → OnOk r (new.history ≡ old.history ++ i ∷ []) → OnErr r (new ≡ old) → i.epoch ≡ last_epoch first old.history + 1 → IsNumbered first new.history
numbered_on (Ok a) i first old new numbered grown same next = subst (IsNumbered first) (sym grown) (numbered_more first old.history i numbered next)
numbered_on (Err b) i first old new numbered grown same next = subst (λ s. IsNumbered first s.history) (sym same) numbered
