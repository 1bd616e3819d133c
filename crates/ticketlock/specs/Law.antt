-- What every list of steps keeps.
use Rattle.std.specs.Prelude.{◌≡◌, ℕ, ◌<◌, ◌≤◌, List, [], ◌∷◌, ◌++◌, replicate, slice_set}
use mathlib.Core.Option.{some}
use lib.ListN.{get_elem?}
use Rattle.ticketlock.specs.declared.view.View.{View}
use Rattle.ticketlock.specs.declared.view.Stage.{Stage}
use Rattle.ticketlock.specs.declared.view.Stage.TheVariants.{Idle, Waiting, Next, Reading, Writing, Closing}
use Rattle.ticketlock.specs.declared.view.Step.{Step}
use Rattle.ticketlock.specs.declared.view.Event.{Event}
use Rattle.ticketlock.specs.declared.view.Event.TheVariants.{Took, CutOff}
use Rattle.ticketlock.specs.Rule.{LockWorld, Takes, KeepsRule, newcomer}
use Rattle.ticketlock.specs.Places.{opener, one_cut}

-- so many seats that are idle, and three words of 0
abbrev pub start : ℕ → LockWorld
start seats = record { draw_word = 0; reader_word = 0; writer_word = 0; views = replicate seats newcomer }

-- the steps, each with the number of its seat, lead from the first world to the last
abbrev pub Runs : LockWorld → List (Step × ℕ) → LockWorld → Type 0
Runs first [] last = last ≡ first
Runs first (s ∷ steps) last = (next : LockWorld) × (v : View) × (get_elem? first.views s.1 ≡ some v)
    × Takes s.0 first s.1 v next × Runs next steps last

-- it writes
abbrev pub IsWriting : Stage → Type 0
IsWriting Idle = ⊥
IsWriting (Waiting t kind) = ⊥
IsWriting (Next t) = ⊥
IsWriting (Reading t) = ⊥
IsWriting (Writing t) = Unit {0}
IsWriting (Closing t) = ⊥

-- it reads, closes or writes
abbrev pub IsIn : Stage → Type 0
IsIn Idle = ⊥
IsIn (Waiting t kind) = ⊥
IsIn (Next t) = ⊥
IsIn (Reading t) = Unit {0}
IsIn (Writing t) = Unit {0}
IsIn (Closing t) = Unit {0}

-- no seat that writes stands beside another that reads, closes or writes
abbrev pub IsAlone : List View → Type 0
IsAlone views = (i j : ℕ) (v u : View) → get_elem? views i ≡ some v → get_elem? views j ≡ some u → IsWriting v.stage
    → IsIn u.stage → i ≡ j

-- The law: of at most 1,024 seats, every list of steps from the start leads to a world that keeps the rule, and where
-- a writer is alone
abbrev pub Excludes : Type 0
Excludes = (seats : ℕ) (steps : List (Step × ℕ)) (last : LockWorld) → seats ≤ 1024 → Runs (start seats) steps last
    → KeepsRule last × IsAlone last.views

-- the world that a lock is made with: three words of 0, and one seat, from which all others may be cut off
abbrev pub made_with : ℕ → LockWorld
made_with seats = record { draw_word = 0; reader_word = 0; writer_word = 0; views = opener seats ∷ [] }

-- the world with one more seat, which is cut off from the seat of the view v
abbrev pub with_cut : LockWorld → ℕ → View → LockWorld
with_cut w seat v = record w { views = slice_set w.views seat (one_cut v) ++ newcomer ∷ [] }

-- the events lead from the first world to the last
abbrev pub Leads : LockWorld → List Event → LockWorld → Type 0
Leads first [] last = last ≡ first
Leads first (Took s seat ∷ events) last = (next : LockWorld) × (v : View) × (get_elem? first.views seat ≡ some v)
    × Takes s first seat v next × Leads next events last
Leads first (CutOff seat ∷ events) last = (v : View) × (get_elem? first.views seat ≡ some v) × (0 < v.spare)
    × Leads (with_cut first seat v) events last

-- The law of the lock as it is made: from one seat, from which up to 1,023 others may be cut off between the steps,
-- every list of steps and cuts leads to a world that keeps the rule, and where a writer is alone
abbrev pub ExcludesMade : Type 0
ExcludesMade = (seats : ℕ) (events : List Event) (last : LockWorld) → 0 < seats → seats ≤ 1024
    → Leads (made_with seats) events last → KeepsRule last × IsAlone last.views

-- it reads
abbrev pub IsReading : Stage → Type 0
IsReading Idle = ⊥
IsReading (Waiting t kind) = ⊥
IsReading (Next t) = ⊥
IsReading (Reading t) = Unit {0}
IsReading (Writing t) = ⊥
IsReading (Closing t) = ⊥

-- The rule does not forbid to share: of two seats, some list of steps from the start leads to a world where both read
abbrev pub CanShare : Type 0
CanShare = (steps : List (Step × ℕ)) × (last : LockWorld) × Runs (start 2) steps last × (v : View) × (u : View)
    × (last.views ≡ v ∷ u ∷ []) × IsReading v.stage × IsReading u.stage
