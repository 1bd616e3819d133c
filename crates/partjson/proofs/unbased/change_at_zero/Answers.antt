use Rattle.std.proofs.Common.{Some, option_map, sym, ap, ◌∙◌}
use Rattle.jsonstream.proofs.Taken.{read_on}
use Rattle.partjson.specs.StatedChanges.{change_with, unbased_change}
use Rattle.partjson.proofs.unbased.change_at_zero.Goals as goal

pub returns : goal.returns
unfolding unbased_change
returns c =
    read_on _ (option_map change_with) _ _ _ c.in_ok-found.ensures ∙ ap (λ o. Some (o, c.read_object.new.reader)) (sym c.change_with.ensures)
