-- The number and the name of each refusal.
use Rattle.std.specs.Prelude.{ℕ, List, codes}
use Rattle.refusal.specs.declared.refused.Refusal.{Refusal}
use Rattle.refusal.specs.declared.refused.Refusal.TheVariants.{BadJson, BadField, BadLimit, BadForest, BadRule, BadPool, BadOsd, BadException, StaleEpoch, UnknownOsd, BadWeight, UnknownPool, PoolExists, UnknownGroup, BadNewException, DuplicatePart, JournalFull, BalanceRule, Memory, SeatSpent, NotSealed, BadCommand, AwaitSpent, NotStored}

-- the number
abbrev pub number_of : Refusal → ℕ
number_of BadJson = 10
number_of BadField = 11
number_of BadLimit = 12
number_of BadForest = 13
number_of BadRule = 14
number_of BadPool = 15
number_of BadOsd = 16
number_of BadException = 17
number_of (StaleEpoch current) = 20
number_of UnknownOsd = 21
number_of BadWeight = 22
number_of UnknownPool = 23
number_of PoolExists = 24
number_of UnknownGroup = 25
number_of BadNewException = 26
number_of DuplicatePart = 27
number_of JournalFull = 28
number_of BalanceRule = 29
number_of Memory = 30
number_of SeatSpent = 31
number_of NotSealed = 32
number_of BadCommand = 33
number_of AwaitSpent = 34
number_of NotStored = 35

-- the name, as the bytes of its text; the two for exceptions share one
abbrev pub name_of : Refusal → List ℕ
name_of BadJson = codes "BadJson"
name_of BadField = codes "BadField"
name_of BadLimit = codes "BadLimit"
name_of BadForest = codes "BadForest"
name_of BadRule = codes "BadRule"
name_of BadPool = codes "BadPool"
name_of BadOsd = codes "BadOsd"
name_of BadException = codes "BadException"
name_of (StaleEpoch current) = codes "StaleEpoch"
name_of UnknownOsd = codes "UnknownOsd"
name_of BadWeight = codes "BadWeight"
name_of UnknownPool = codes "UnknownPool"
name_of PoolExists = codes "PoolExists"
name_of UnknownGroup = codes "UnknownGroup"
name_of BadNewException = codes "BadException"
name_of DuplicatePart = codes "DuplicatePart"
name_of JournalFull = codes "JournalFull"
name_of BalanceRule = codes "BalanceRule"
name_of Memory = codes "Memory"
name_of SeatSpent = codes "SeatSpent"
name_of NotSealed = codes "NotSealed"
name_of BadCommand = codes "BadCommand"
name_of AwaitSpent = codes "AwaitSpent"
name_of NotStored = codes "NotStored"
