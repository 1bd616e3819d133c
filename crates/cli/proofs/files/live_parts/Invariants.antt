use Rattle.std.proofs.Common.{◌≡◌, vec_len}
use Rattle.cli.proofs.files.live_parts.Given as goal

-- there is a part for each path so far
abbrev pub invariant-loop-k : goal.invariant-loop-k
invariant-loop-k l = vec_len l.parts ≡ l.k
