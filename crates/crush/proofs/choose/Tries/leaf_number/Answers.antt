use Rattle.crush.proofs.LeafNumbers.{newest_number}
use Rattle.crush.proofs.choose.Tries.leaf_number.Goals as goal

pub returns-then-self-eq1-2-clause-value : goal.returns-then-self-eq1-2-clause-value
returns-then-self-eq1-2-clause-value c =
    newest_number c.args.self c.args.count c.args.r c.if-self-eq1.true c.if-self-eq1-2.true
