-- By their numbers, what refuses a change or a commit stands before all that may come in its place.
use Rattle.std.proofs.Common.{◌≡◌, ◌≢◌, ℕ, ◌≤◌, ◌==◌, Bool, true, false, not, nat_lt, Option, Some, None, ap, arith, if◌then◌else◌}
use Rattle.refusal.specs.declared.refused.Refusal.{Refusal}
use Rattle.refusal.specs.declared.refused.Refusal.TheVariants.{StaleEpoch, UnknownOsd, BadWeight, UnknownPool, PoolExists, BadForest, BadPool, UnknownGroup, BadNewException, DuplicatePart, JournalFull, NotStored}
use Rattle.refusal.specs.Refusals.{number_of}
use Rattle.maptypes.specs.declared.change.ChangeParts.{ChangeParts}
use Rattle.osdmap.specs.Maps.{ClusterMap}
use Rattle.osdmap.specs.Changes.{change_fault, names_osds, weighs_rightly, names_pools, brings_new, brings_forest, brings_rightly, names_groups, excepts_soundly}
use Rattle.maptypes.specs.Named.{names_once}
use Rattle.state.specs.States.{commit_fault, unless}

-- where there is a refusal, its number is below 30
abbrev pub IsEarly : Option Refusal → Type 0
IsEarly fault = (e : Refusal) → fault ≡ Some e → number_of e ≤ 29

-- there is none
none_early : IsEarly None
none_early e is = absurd (cc is)

-- one of a number below 30
one_early : (r : Refusal) → number_of r ≤ 29 → IsEarly (Some r)
one_early r low e is = let same : r ≡ e = cc is in omega (arith, low, ap number_of same)

-- a test with a refusal of its own, before others
test_early : (b : Bool) (r : Refusal) (rest : Option Refusal) → number_of r ≤ 29 → IsEarly rest → IsEarly (if not b then Some r else rest)
test_early true r rest low others = others
test_early false r rest low others = one_early r low

-- what refuses a change
pub change_early : (m : ClusterMap) (change : ChangeParts) → IsEarly (change_fault m change)
change_early m change =
    test_early (names_osds m change) UnknownOsd _ (omega arith)
    (test_early (weighs_rightly change) BadWeight _ (omega arith)
    (test_early (names_pools m change) UnknownPool _ (omega arith)
    (test_early (brings_new m change) PoolExists _ (omega arith)
    (test_early (brings_forest m change) BadForest _ (omega arith)
    (test_early (brings_rightly m change) BadPool _ (omega arith)
    (test_early (names_groups m change) UnknownGroup _ (omega arith)
    (test_early (excepts_soundly m change) BadNewException _ (omega arith)
    (test_early (names_once change) DuplicatePart None (omega arith) none_early))))))))

-- or that the journal is full
full_early : (fault : Option Refusal) (room : Bool) → IsEarly fault → IsEarly (unless fault (if room then None else Some JournalFull))
full_early (Some r) room early = early
full_early None true early = none_early
full_early None false early = one_early JournalFull (omega arith)

-- the fault of a commit
pub commit_early : (m : ClusterMap) (done most base : ℕ) (change : ChangeParts) → IsEarly (commit_fault m done most base change)
unfolding commit_fault
commit_early m done most base change =
    test_early (base == m.epoch) (StaleEpoch m.epoch) _ (omega arith)
    (full_early (change_fault m change) (nat_lt done most) (change_early m change))

-- what refuses a change is no matter of a store
pub change_not_stored : (m : ClusterMap) (change : ChangeParts) (e : Refusal) → change_fault m change ≡ Some e → e ≢ NotStored
change_not_stored m change e fault is = absurd (omega (arith, change_early m change e fault, ap number_of is))
