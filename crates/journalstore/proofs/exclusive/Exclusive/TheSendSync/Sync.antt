use denote.RattleType.{RattleType}
use denote.Memory.{raw_all}
use denote.Param.Send.{IsSend, IsSync, whole-keyless}
use Rattle.journalstore.specs.contracts.exclusive.Exclusive.{the_row}
use Rattle.journalstore.specs.contracts.exclusive.Exclusive.TheInside as inside

-- a `&` to it holds a share of the whole, which nothing reads
pub sync : (T : RattleType) → IsSend T → IsSync (the_row T)
sync T s = record { shared = λ d b o κ x. ((λ q. whole-keyless (raw_all (inside.the_row T).mir) (inside.the_row T).own_val (λ y vs. ((λ vss. (tt, (s.owned y.value vss.0, tt))), tt)) q x.0 b o), tt) }
