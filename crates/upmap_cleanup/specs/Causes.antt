-- The first of several causes.
use Rattle.std.specs.Prelude.{Option, Some, None}
use Rattle.upmap_cleanup.specs.declared.cause.Cause.{Cause}

-- the first of two causes, where there is one
abbrev pub first : Option Cause → Option Cause → Option Cause
first None later = later
first (Some cause) later = Some cause
