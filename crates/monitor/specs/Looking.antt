-- What callers see of a look.
use Rattle.std.specs.Prelude.{◌≡◌, length}
use Rattle.ticketlock.specs.Guards.{first_of_read}
use Rattle.osdmap.specs.Maps.{ClusterMap}
use Rattle.osdmap.specs.Changes.{IsLawful}
use Rattle.monitor.specs.declared.look.Look.{Look}
use Rattle.monitor.specs.Members.{Monitored, Shares, Knows}

-- the first map of the state that it lends
abbrev pub first_of_look : {K : Type 0} → Look K → ClusterMap
first_of_look look = (first_of_read look.guard).state.value.first

-- the look shares this monitor's lock; its pass is of the monitor's row, with a history that is lawful from the first
-- map, and it knows of each epoch whether its member has made it
pub record IsLookOf {K : Type 0} (monitor : Monitored) (look : Look K) : Type 0 where
  pub guard : Shares monitor look.guard
  pub row : look.pass.row ≡ monitor.row
  pub lawful : IsLawful monitor.first look.pass.history
  pub room : length look.own.items ≡ length monitor.row.cells
  pub knows : Knows monitor look.seen look.tally look.pass.history
