use Rattle.std.proofs.Common.{◌≡◌, ◌∙◌, true, false, codes, sym}
use Rattle.clap.specs.Matches.{found_of}
use Rattle.clap.proofs.WalkLemmas.{one_text-rows}
use Rattle.osdmapstore.proofs.line.is_given.Goals as goal

pub returns : goal.returns
returns c true found = c.get_flag.ensures.value (one_text-rows (found_of c.args.matches.now) c.args.id.now ∙ found)
returns c false found = c.get_flag.ensures.other (one_text-rows (found_of c.args.matches.now) c.args.id.now ∙ found)
