use Rattle.std.proofs.Common.{◌∙◌}
use Rattle.pgtable.proofs.Concerning.{concerned_found}
use Rattle.pgtable.proofs.concerned.concerned_numbers.Goals as goal

pub returns : goal.returns
returns c =
    c.in_ok-numbers.ensures
    ∙ c.groups_for.ensures c.args.map.now.map c.args.change.now
    ∙ concerned_found c.args.map.now.map c.args.change.now c.args.pool.now c.args.candidates.now c.requires.rising c.requires.all
