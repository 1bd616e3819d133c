use Rattle.std.proofs.Common.{◌≡◌, ◌≤◌, ◌++◌, ◌+◌, length}
use Rattle.verdict.specs.Scripts.{lines_of, said_in, said_from}
use Rattle.verdict.proofs.script.read_script.Given as goal

abbrev pub invariant-loop-said : goal.invariant-loop-said
invariant-loop-said l = (said_in l.text ≡ l.said.items ++ said_from l.line (lines_of l.left)) × (l.line + length l.left ≤ length l.text)

abbrev pub decreases-loop-said : goal.decreases-loop-said
decreases-loop-said l = length l.left
