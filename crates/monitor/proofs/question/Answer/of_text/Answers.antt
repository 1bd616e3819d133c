use Rattle.std.proofs.Common.{rules, refl}
use Rattle.monitor.proofs.question.Answer.of_text.Goals as goal

pub returns : goal.returns
returns c = (c.in-Ok.text, refl, search rules)
