-- What callers see of a shared hold.
use Rattle.std.specs.Prelude.{◌≡◌, length}
use Rattle.osdmap.specs.Changes.{IsLawful}
use Rattle.monitor.specs.declared.shared.Shared.{Shared}
use Rattle.monitor.specs.declared.member.Member.{Member}
use Rattle.monitor.specs.Members.{Monitored, Shares, Knows, lent}

-- the hold is one of this monitor's lock, for this member: it has seen just what the lent state has, a history that is
-- lawful from the first map
pub record IsSharing {K : Type 0} (monitor : Monitored) (shared : Shared K) (member : Member) : Type 0 where
  pub guard : Shares monitor shared.guard
  pub seen : (lent shared.guard).pass ≡ member.pass
  pub row : member.pass.row ≡ monitor.row
  pub lawful : IsLawful monitor.first member.pass.history
  pub room : length member.own.items ≡ length monitor.row.cells
  pub knows : Knows monitor member.seen member.tally member.pass.history
