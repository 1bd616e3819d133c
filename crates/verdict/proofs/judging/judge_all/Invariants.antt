use Rattle.std.proofs.Common.{◌≡◌, drop}
use Rattle.verdict.specs.Verdicts.{judged}
use Rattle.verdict.specs.Reading.{taken_before}
use Rattle.verdict.proofs.judging.judge_all.Given as goal

abbrev pub invariant-loop-one : goal.invariant-loop-one
invariant-loop-one l = judged l.profile l.fn.map.map l.said ≡ taken_before l.taken.items (judged l.profile l.map.map (drop l.one-index l.said))
