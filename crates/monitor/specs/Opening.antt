-- What a monitor is opened with.
use Rattle.std.specs.Prelude.{◌≡◌, ◌==◌, ℕ, ◌&&◌, ◌^◌, Bool, nat_le, List, length, All}
use Rattle.mapparts.specs.declared.profile.Profile.{Profile}
use Rattle.mapparts.specs.declared.profile.Profile.TheVariants.{Plain}
use Rattle.osdmap.specs.Maps.{ClusterMap}
use Rattle.epochlog.specs.Epochs.{is_within_limits}
use Rattle.state.specs.States.{opened}
use Rattle.monitor.specs.declared.member.Member.{Member}
use Rattle.monitor.specs.declared.open.Limits.{Limits}
use Rattle.monitor.specs.declared.open.Counting.{Counting}
use Rattle.monitor.specs.declared.locked.Locked.{Locked}
use Rattle.monitor.specs.Tallies.{names_of, IsNewTallyOf}
use Rattle.monitor.specs.Members.{Monitored, IsNewMemberOf, draws_of}

-- the greatest number of seats
abbrev pub max_seats : ℕ
max_seats = 1024

-- the greatest number of draws of a seat
abbrev pub max_draws : ℕ
max_draws = 2 ^ 40

-- a first epoch, a capacity of the journal, a number of seats and one of draws, each within its limits
abbrev pub can_open : ℕ → ℕ → ℕ → ℕ → Bool
can_open epoch journal seats draws =
    is_within_limits epoch journal
    && (nat_le 1 seats && nat_le seats max_seats && (nat_le 1 draws && nat_le draws max_draws))

-- a first epoch and limits
abbrev pub can_open_with : ℕ → Limits → Bool
can_open_with epoch limits = can_open epoch limits.journal limits.seats limits.draws

-- what the members of a new monitor of so many seats know of its changes: that there are none, and a count for each
pub record StartsWith {K : Type 0} (made : Locked K) (seats : ℕ) (counting : Counting) : Type 0 where
  pub name : counting.seen.name ≡ made.tip.name
  pub count : counting.seen.count ≡ 0
  pub kept : length (names_of made.kept.items) ≡ seats
  pub each : All (IsNewTallyOf (names_of made.kept.items)) counting.tallies.items
  pub many : length counting.tallies.items ≡ seats

-- a monitor with this first map and a journal of such a capacity, whose lock was made with the state at its beginning:
-- the first map is the present one, and the journal is empty; the texts of its changes are read by this profile;
-- and so many members, each with so many draws, who have seen nothing; and the monitor knows whether there is one
pub record IsOpening (map : ClusterMap) (journal seats draws : ℕ) (read_by : Profile) (monitor : Monitored)
    (members : List Member) : Type 0 where
  pub first : monitor.first ≡ map
  pub begins : monitor.row.first ≡ map.epoch
  pub capacity : length monitor.row.cells ≡ journal
  pub made : monitor.made ≡ opened map monitor.row
  pub profile : monitor.profile ≡ read_by
  pub limit : draws_of monitor ≡ draws
  pub count : length members ≡ seats
  pub each : All (IsNewMemberOf monitor) members
  pub alone : monitor.alone ≡ (seats == 1)

-- a monitor of plain maps with this first map and these limits
abbrev pub IsOpeningWith : ClusterMap → Limits → Monitored → List Member → Type 0
IsOpeningWith map limits monitor members =
    IsOpening map limits.journal limits.seats limits.draws Plain monitor members
