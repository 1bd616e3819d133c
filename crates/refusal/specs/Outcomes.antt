-- What a call that may be refused answers. A fault is what is wrong with what was given, as the refusal that it brings;
-- a definition of the layer says which one it is, or that there is none.
use Rattle.std.specs.Prelude.{◌≡◌, ◌⊎◌, Bool, not, Option, Some, None, Result, MatchResult, if◌then◌else◌}
use Rattle.refusal.specs.declared.refused.Refusal.{Refusal}
use Rattle.refusal.specs.declared.refused.Refusal.TheVariants.{Memory as OutOfMemory}

-- the fault where a test does not hold
abbrev pub refused_unless : Bool → Refusal → Option Refusal
refused_unless ok refusal = if not ok then Some refusal else None

-- of a call that takes no memory: a value with the fact P exactly where there is no fault, and else the fault
abbrev pub Judges : {X : Type 0} → Result X Refusal → Option Refusal → (X → Type 0) → Type 0
Judges r fault P = MatchResult r (λ x. (fault ≡ None) × P x) (λ e. fault ≡ Some e)

-- of a call that looks for faults first: the same, but that memory may run out where there is no fault
abbrev pub Gives : {X : Type 0} → Result X Refusal → Option Refusal → (X → Type 0) → Type 0
Gives r fault P =
    MatchResult r (λ x. (fault ≡ None) × P x) (λ e. ((fault ≡ None) × (e ≡ OutOfMemory)) ⊎ (fault ≡ Some e))

-- of a call that makes a value as it looks for faults: the same, but that memory may run out in place of any answer
abbrev pub Makes : {X : Type 0} → Result X Refusal → Option Refusal → (X → Type 0) → Type 0
Makes r fault P = MatchResult r (λ x. (fault ≡ None) × P x) (λ e. (e ≡ OutOfMemory) ⊎ (fault ≡ Some e))
