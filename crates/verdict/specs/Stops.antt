-- What a command answers that may be in doubt, or for which memory may run out.
use Rattle.std.specs.Prelude.{◌≡◌, Option, Some, None, Result, Ok, Err, MatchResult}
use Rattle.refusal.specs.declared.refused.Refusal.{Refusal}
use Rattle.verdict.specs.declared.doubt.Doubt.{Doubt}
use Rattle.verdict.specs.declared.doubt.Doubt.TheVariants.{Refused}
use Rattle.verdict.specs.declared.doubt.Stop.{Stop}
use Rattle.verdict.specs.declared.doubt.Stop.TheVariants as stop

-- a doubt is a refusal, where it is no lack of memory
abbrev pub IsRefusedAs : Option Refusal → Stop → Type 0
IsRefusedAs fault stop.Memory = Unit {0}
IsRefusedAs fault (stop.Doubt why) = (r : Refusal) × (fault ≡ Some r) × (why ≡ Refused r)

-- a value with the fact P where there is no fault, and else the fault; memory may run out in place of any answer
abbrev pub GivesOr : {X : Type 0} → Option Refusal → Result X Stop → (X → Type 0) → Type 0
GivesOr fault r P = MatchResult r (λ x. (fault ≡ None) × P x) (IsRefusedAs fault)

-- a doubt is the one that there is, where it is no lack of memory
abbrev pub IsDoubt : Option Doubt → Stop → Type 0
IsDoubt doubt stop.Memory = Unit {0}
IsDoubt doubt (stop.Doubt why) = doubt ≡ Some why

-- the answer that there is, where memory does not run out
abbrev pub IsAnswer : {X : Type 0} → Result X Doubt → Result X Stop → Type 0
IsAnswer wanted (Ok x) = wanted ≡ Ok x
IsAnswer wanted (Err stop.Memory) = Unit {0}
IsAnswer wanted (Err (stop.Doubt why)) = wanted ≡ Err why

-- a fact where memory has not run out
abbrev pub UnlessShort : {X : Type 0} → Result X Stop → Type 0 → Type 0
UnlessShort (Ok x) P = P
UnlessShort (Err stop.Memory) P = Unit {0}
UnlessShort (Err (stop.Doubt why)) P = P
