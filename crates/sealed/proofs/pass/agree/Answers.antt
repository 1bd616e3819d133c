use Rattle.std.proofs.Common.{arith}
use Rattle.sealed.proofs.Tokens.{within, same_at, same_front}
use Rattle.sealed.proofs.pass.agree.Goals as goal

pub index-requires : goal.index-requires
index-requires g c = omega (arith, within (λ k. k.known) c.args.count c.args.mine.now.items c.requires.mine, c.args.mine.now.ok.0)

pub index-requires-in-loop-i : goal.index-requires-in-loop-i
index-requires-in-loop-i g c = omega (arith, within (λ k. k.known) c.args.count c.args.theirs.now.items c.requires.theirs, c.args.theirs.now.ok.0)

pub agrees-requires : goal.agrees-requires
agrees-requires g c =
    same_at (λ k. k.cell) (λ k. k.cell) c.args.mine.now.items c.args.theirs.now.items c.loop-i.i _ _ c.requires.cells
    (omega (arith, within (λ k. k.known) c.args.count c.args.mine.now.items c.requires.mine))
    (omega (arith, within (λ k. k.known) c.args.count c.args.theirs.now.items c.requires.theirs))
    c.index.ensures c.index-in-loop-i.ensures

pub returns : goal.returns
returns g c =
    same_front (λ k. k.known) c.args.count c.args.mine.now.items c.args.theirs.now.items c.requires.mine c.requires.theirs
    (λ i d h. c.loop-i.invariant i d (omega arith))
