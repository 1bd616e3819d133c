use denote.RattleType.{RattleType}
use denote.Param.Send.{IsSend}
use Rattle.journalstore.specs.contracts.exclusive.Exclusive.{the_row}

-- it owns what its value owns
pub send : (T : RattleType) → IsSend T → IsSend (the_row T)
send T s = record { owned = λ d vs x. (((λ vss. (tt, (s.owned x.0.value vss.0, tt))), tt), tt); leaving = λ k d w. tt }
