-- What one member tells another.
use Rattle.std.specs.Prelude.{◌≡◌, length}
use Rattle.monitor.specs.declared.news.News.{News}
use Rattle.monitor.specs.Members.{Monitored}

-- the news are of this monitor: what was seen of its row, when as many of its changes were counted
pub record IsNewsOf (monitor : Monitored) (news : News) : Type 0 where
  pub name : news.seen.name ≡ monitor.count
  pub row : news.pass.row ≡ monitor.row
  pub count : news.seen.count ≡ length news.pass.history
