use Rattle.std.proofs.Common.{◌∙◌, ◌<◌, ◌+◌, [], length, sym, arith}
use Rattle.verdict.specs.Scripts.{lines_of}
use Rattle.verdict.proofs.Lines.{said_more, said_all}
use Rattle.verdict.proofs.script.read_script.Goals as goal

pub returns-in-None : goal.returns-in-None
returns-in-None c =
    let left = rw (c.first_part.ensures.parts, c.in-None.is) at c.loop-said.invariant.0 in
    c.in_ok-push_said.ensures ∙ sym (left ∙ (said_more c.loop-said.said.items c.loop-said.line c.first_part.result.first.now [] ∙ said_all _ (c.loop-said.line + 1)))

pub loop-said-preserved : goal.loop-said-preserved
loop-said-preserved c =
    let left = rw (c.first_part.ensures.parts, c.in-Some.is) at c.loop-said.invariant.0 in
    let shorter : length c.in-Some.more.now < length c.loop-said.left.now = rw (c.in-Some.is) at c.first_part.ensures.shorter in
    (rw (c.in_ok-push_said.ensures) (left ∙ said_more c.loop-said.said.items c.loop-said.line c.first_part.result.first.now (lines_of c.in-Some.more.now)), omega (arith, c.loop-said.invariant.1, shorter))
