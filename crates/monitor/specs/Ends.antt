-- What a monitor ends with.
use Rattle.std.specs.Prelude.{◌≡◌, length}
use Rattle.monitor.specs.declared.ended.Ended.{Ended}
use Rattle.monitor.specs.declared.member.Member.{Member}
use Rattle.monitor.specs.Members.{Monitored, IsStateOf}

-- it is what this monitor ends with
pub record IsEndOf {K : Type 0} (monitor : Monitored) (ended : Ended K) : Type 0 where
  pub state : IsStateOf monitor ended.state.value
  pub name : ended.tip.name ≡ monitor.count
  pub count : ended.tip.count ≡ length ended.state.value.pass.history

-- what a member has seen is counted by what its monitor ends with, as what its state has seen is
pub record IsCounted {K : Type 0} (ended : Ended K) (member : Member) : Type 0 where
  pub name : member.seen.name ≡ ended.tip.name
  pub seen : member.seen.count ≡ length member.pass.history
  pub all : ended.tip.count ≡ length ended.state.value.pass.history
