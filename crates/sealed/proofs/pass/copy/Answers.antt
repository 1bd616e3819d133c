use Rattle.std.proofs.Common.{arith}
use Rattle.sealed.proofs.Tokens.{copied_more}
use Rattle.sealed.proofs.pass.copy.Goals as goal

pub loop-i-preserved : goal.loop-i-preserved
loop-i-preserved g c =
    copied_more c.loop-i.mine.items c.args.mine.now.items c.args.theirs.now.items c.loop-i.i c.index.result.now c.again.result c.loop-i.invariant
    (omega (arith, c.requires.mine, c.args.mine.now.ok.0)) (omega (arith, c.requires.theirs, c.args.theirs.now.ok.0)) c.again.ensures c.index.ensures
