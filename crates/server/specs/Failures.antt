-- What is told of a live session whose files fail.
use Rattle.std.specs.Prelude.{ℕ, List, ◌++◌, codes, string_bytes}
use Rattle.server.specs.declared.failure.Failure.{Failure}
use Rattle.server.specs.declared.failure.Failure.TheVariants.{File, Input, Output}
use Rattle.server.specs.declared.part.Source.{Source}
use Rattle.server.specs.declared.part.Source.TheVariants as source
use Rattle.server.specs.declared.part.Target.{Target}
use Rattle.server.specs.declared.part.Target.TheVariants as target

-- the line of a failure
abbrev pub failure_text : Failure → List ℕ
failure_text (File path) = codes "file: " ++ path.now ++ codes "\n"
failure_text Input = codes "input\n"
failure_text Output = codes "output\n"

-- what is told where the input of a live session is not read
abbrev pub source_text : Source → List ℕ
source_text (source.Standard input) = codes "input\n"
source_text (source.File path) = codes "file: " ++ string_bytes path ++ codes "\n"

-- and where its output is not written
abbrev pub target_text : Target → List ℕ
target_text (target.Standard output) = codes "output\n"
target_text (target.File path) = codes "file: " ++ string_bytes path ++ codes "\n"
