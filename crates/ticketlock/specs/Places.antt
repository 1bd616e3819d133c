-- What the first seat of a lock knows, and seats that are cut off.
use Rattle.std.specs.Prelude.{ℕ, ◌-◌, []}
use Rattle.ticketlock.specs.declared.view.View.{View}
use Rattle.ticketlock.specs.declared.view.Sight.{Sight}
use Rattle.ticketlock.specs.Rule.{newcomer}

-- the view of a newcomer from which n seats may be cut off
abbrev pub spared : ℕ → View
spared n = record newcomer { spare = n }

-- the view of the first of so many seats, from which all others are cut off
abbrev pub opener : ℕ → View
opener seats = spared (seats - 1)

-- the view of a seat from which one more was cut off
abbrev pub one_cut : View → View
one_cut v = record v { spare = v.spare - 1 }

-- a seat of this view that has seen nothing and taken no step
abbrev pub unseeing : View → Sight
unseeing v = record { view = v; seen = []; mine = [] }

-- what a seat knows from which one more was cut off
abbrev pub sight_cut : Sight → Sight
sight_cut sight = record sight { view = one_cut sight.view }
