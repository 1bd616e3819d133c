-- The places of seats: where a seat stands, and at which words.
use Rattle.std.specs.Prelude.{◌≡◌, ◌≤◌, ℕ}
use Rattle.ticketlock.specs.declared.view.View.{View}
use Rattle.ticketlock.specs.declared.view.Sight.{Sight}
use Rattle.ticketlock.specs.declared.view.Stage.{Stage}
use Rattle.ticketlock.specs.declared.table.Place.{Place}
use Rattle.ticketlock.specs.declared.table.Words.{Words}
use Rattle.ticketlock.specs.Rule.{looked_at, gone_in}

-- what the seat at this place knows
abbrev pub sight_of : Place → Sight
sight_of place = place.token.me.0

-- its view
abbrev pub view_of : Place → View
view_of place = (sight_of place).view

-- where it stands
abbrev pub stage_of : Place → Stage
stage_of place = (view_of place).stage

-- the place is one at these words, within their limit of draws
abbrev pub IsAt : Words → Place → Type 0
IsAt words place = (place.token.table_id ≡ words.table.shared.table_id) × (place.draws ≤ words.limit)

-- the same seat at the same words
abbrev pub IsSame : Place → Place → Type 0
IsSame p q = (q.token.table_id ≡ p.token.table_id) × (q.token.id ≡ p.token.id)

-- the same seat, with this view
abbrev pub Becomes : Place → Place → View → Type 0
Becomes p q v = IsSame p q × (view_of q ≡ v)

-- the same seat after a look that found the word n
abbrev pub Notes : ℕ → Place → Place → Type 0
Notes n p q = Becomes p q (looked_at n (view_of p))

-- the same seat after a look that found the word n, and an add to the reader word
abbrev pub Enters : ℕ → Place → Place → Type 0
Enters n p q = Becomes p q (gone_in (looked_at n (view_of p)))
