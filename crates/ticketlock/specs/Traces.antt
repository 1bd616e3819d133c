-- The run of a lock: the list of events that has led to its words and views, and what each seat knows of the list.
use Rattle.std.specs.Prelude.{◌≡◌, ◌==◌, ◌<◌, ◌≤◌, ℕ, List, [], ◌∷◌, ◌++◌, length, map, if◌then◌else◌}
use mathlib.Core.Option.{some}
use lib.ListN.{get_elem?}
use Rattle.atomic_table.specs.Table.{State}
use Rattle.ticketlock.specs.declared.view.View.{View}
use Rattle.ticketlock.specs.declared.view.Step.{Step}
use Rattle.ticketlock.specs.declared.view.Event.{Event}
use Rattle.ticketlock.specs.declared.view.Event.TheVariants.{Took, CutOff}
use Rattle.ticketlock.specs.declared.view.Sight.{Sight}
use Rattle.ticketlock.specs.Rule.{LockWorld, KeepsRule}
use Rattle.ticketlock.specs.Law.{made_with, Leads, IsAlone}

-- the world of these words and views
abbrev pub world_with : ℕ → ℕ → ℕ → List View → LockWorld
world_with U R W views = record { draw_word = U; reader_word = R; writer_word = W; views = views }

-- the view of a seat, of all that it knows
abbrev pub view_in : Sight → View
view_in sight = sight.view

-- the events lead there from the world that a lock of so many seats is made with
abbrev pub IsReachedBy : ℕ → List Event → LockWorld → Type 0
IsReachedBy seats events w = (0 < seats) × (seats ≤ 1024) × Leads (made_with seats) events w

-- the steps among some events that one seat took, in order
abbrev pub steps_by : ℕ → List Event → List Step
steps_by seat [] = []
steps_by seat (Took s k ∷ events) = if k == seat then s ∷ steps_by seat events else steps_by seat events
steps_by seat (CutOff k ∷ events) = steps_by seat events

-- the second list begins with the first
abbrev pub IsBeginning : List Event → List Event → Type 0
IsBeginning seen events = (more : List Event) × (events ≡ seen ++ more)

-- the seat of a number has seen a beginning of the events, in which the steps that it took are all that it took
abbrev pub IsKnownTo : List Event → ℕ → Sight → Type 0
IsKnownTo events seat sight = IsBeginning sight.seen events × (steps_by seat events ≡ sight.mine)

-- each seat knows so of the events, which have no step of another
abbrev pub AreKnown : List Event → List Sight → Type 0
AreKnown events sights = ((seat : ℕ) (sight : Sight) → get_elem? sights seat ≡ some sight → IsKnownTo events seat sight)
    × ((seat : ℕ) → length sights ≤ seat → steps_by seat events ≡ [])

-- the rule of the table: some list of events has led to its words and views, and each seat knows so of it
abbrev pub IsTraced : ℕ → State ℕ Sight → Type 0
IsTraced seats s = (U : ℕ) × (R : ℕ) × (W : ℕ) × (s.words ≡ U ∷ R ∷ W ∷ []) × (events : List Event)
    × IsReachedBy seats events (world_with U R W (map view_in s.views)) × AreKnown events s.views

-- What a seat has seen is a list of events that has led to a world in which it stands as it does. The steps that it
-- took are all that the list has of it. By the law that world keeps the rule, and a writer is alone there.
abbrev pub KnowsRun : Sight → Type 0
KnowsRun sight = (seats : ℕ) × (seat : ℕ) × (last : LockWorld) × IsReachedBy seats sight.seen last
    × (get_elem? last.views seat ≡ some sight.view) × (steps_by seat sight.seen ≡ sight.mine)
    × KeepsRule last × IsAlone last.views

-- A seat has taken these steps: they are that many more of its own, what it has seen begins with what it had seen, and
-- it knows the run.
abbrev pub HasTaken : List Step → Sight → Sight → Type 0
HasTaken steps before after =
    IsBeginning before.seen after.seen × (after.mine ≡ before.mine ++ steps) × KnowsRun after

-- it may have taken some steps: what it has seen begins with what it had seen, and so do its own steps
abbrev pub IsFrom : Sight → Sight → Type 0
IsFrom before after = IsBeginning before.seen after.seen × (steps : List Step) × (after.mine ≡ before.mine ++ steps)

-- it has taken some steps
abbrev pub HasTakenSome : Sight → Sight → Type 0
HasTakenSome before after = (steps : List Step) × HasTaken steps before after

-- the words at the end: some list of events has led to them, which the seat knows
abbrev pub EndsIn : ℕ → ℕ → ℕ → Sight → Type 0
EndsIn U R W sight = (seats : ℕ) × (views : List View) × (seat : ℕ) × (events : List Event)
    × IsReachedBy seats events (world_with U R W views) × (get_elem? views seat ≡ some sight.view)
    × IsKnownTo events seat sight
