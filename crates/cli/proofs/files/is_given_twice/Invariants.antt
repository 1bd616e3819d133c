use Rattle.std.proofs.Common.{◌≡◌, take, count_by}
use Rattle.cli.specs.Arguments.{is_standard}
use Rattle.cli.proofs.files.is_given_twice.Given as goal

-- it is counted among the paths so far
abbrev pub invariant-loop-path : goal.invariant-loop-path
invariant-loop-path l = l.times ≡ count_by is_standard (take l.path-index l.paths)
