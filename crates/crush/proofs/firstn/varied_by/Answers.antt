use Rattle.std.proofs.Common.{◌-◌, arith, rules}
use Rattle.crush.proofs.LeafNumbers.{varied_away}
use Rattle.crush.proofs.firstn.varied_by.Goals as goal

pub returns-else-times-lt32-clause-value : goal.returns-else-times-lt32-clause-value
returns-else-times-lt32-clause-value c =
    varied_away c.args.vary c.args.r (c.args.vary - 1) (search rules) (λ none. omega (arith, c.if-vary-eq0.false, none)) (search rules) (omega (arith, c.if-vary-eq0.false, c.if-times-lt32.false))
