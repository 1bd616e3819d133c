use Rattle.buckets.proofs.Logarithms.{shifted}
use Rattle.buckets.proofs.pick.logarithm.shift_of.Goals as goal

pub returns-clause-least : goal.returns-clause-least
returns-clause-least c = (shifted c.args.x c.saturating_sub.result c.requires.some c.requires.few c.saturating_sub.ensures).0

pub returns-clause-most : goal.returns-clause-most
returns-clause-most c = (shifted c.args.x c.saturating_sub.result c.requires.some c.requires.few c.saturating_sub.ensures).1
