use Rattle.std.proofs.Common.{◌∙◌, [], List, Option, ap}
use Rattle.std.specs.Option.{unwrap_or}
use Rattle.clap.specs.Matches.{found_of}
use Rattle.clap.specs.Walk.{Text}
use Rattle.clap.proofs.WalkLemmas.{raw_values-rows}
use Rattle.readmap.proofs.line.words_in.Goals as goal

pub returns : goal.returns
returns c = ap (λ (o : Option (List Text)). unwrap_or o []) (c.get_strs.ensures ∙ raw_values-rows (found_of c.args.matches.now) c.args.id.now)
