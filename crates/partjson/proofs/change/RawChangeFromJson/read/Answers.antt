use Rattle.std.proofs.Common.{Some, option_map, sym, ap, ◌∙◌}
use Rattle.jsonstream.proofs.Taken.{read_on}
use Rattle.partjson.specs.StatedChanges.{change_with, stated_change}
use Rattle.partjson.proofs.change.RawChangeFromJson.read.Goals as goal

pub returns : goal.returns
unfolding stated_change
returns c =
    read_on _ (option_map change_with) _ _ _ c.in_ok-found.ensures ∙ ap (λ o. Some (o, c.read_object.new.reader)) (sym c.change_with.ensures)
