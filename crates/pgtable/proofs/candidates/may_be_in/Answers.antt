use Rattle.std.proofs.Common.{◌∙◌, sym}
use Rattle.pgtable.proofs.Slicing.{none_in_pool}
use Rattle.pgtable.proofs.candidates.may_be_in.Goals as goal

pub returns-else-groups-ge-MANY : goal.returns-else-groups-ge-MANY
returns-else-groups-ge-MANY c = λ none m d. none_in_pool m d c.args.pool.now c.args.groups.now (sym c.any_in.ensures ∙ none)
