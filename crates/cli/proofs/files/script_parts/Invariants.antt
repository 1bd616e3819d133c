use Rattle.std.proofs.Common.{◌≡◌, vec_len}
use Rattle.cli.proofs.files.script_parts.Given as goal

-- there is a part for each path so far
abbrev pub invariant-loop-path : goal.invariant-loop-path
invariant-loop-path g l = vec_len l.parts ≡ l.path-index
