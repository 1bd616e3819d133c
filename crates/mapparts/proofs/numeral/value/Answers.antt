use Rattle.mapparts.proofs.numeral.value.Goals as goal
use Rattle.mapparts.proofs.DigitsLeft.{left-none, left-some, left-end}
use Rattle.std.proofs.Common.{arith, rules}

pub returns-in_err-digit : goal.returns-in_err-digit
returns-in_err-digit c = search (rules, left-none)

pub loop-byte-preserved : goal.loop-byte-preserved
loop-byte-preserved c = grind (arith, left-some)

pub returns : goal.returns
returns c = grind (arith, left-end)
