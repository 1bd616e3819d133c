use Rattle.std.specs.Str.Parse.{ExplainsUnsignedError, HasUnsignedDigitsIfOk, ParsesUnsigned}
use Rattle.clap.specs.Matches.{found_of}
use Rattle.cli.proofs.CommandLines.{number_read}
use Rattle.osdmapstore.proofs.line.number_in.Goals as goal

pub returns : goal.returns
returns c =
    number_read (λ bs r. ParsesUnsigned 32 10 bs r × ExplainsUnsignedError 10 bs r × HasUnsignedDigitsIfOk bs r)
    (found_of c.args.matches.now) c.args.id.now c.get_one.result (λ u x h. h.0) c.get_one.ensures.none c.get_one.ensures.value
