use Rattle.std.proofs.Common.{◌∙◌}
use Rattle.buckets.proofs.EvenWeights.{is_even-first}
use Rattle.buckets.proofs.weights.is_even.Goals as goal

pub returns : goal.returns
returns c = c.are_all_of.ensures ∙ is_even-first c.args.items.now _ c.requires
