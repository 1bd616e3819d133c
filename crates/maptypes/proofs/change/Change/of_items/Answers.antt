use Rattle.maptypes.proofs.ItemsAlone.{ordered_same}
use Rattle.maptypes.proofs.change.Change.of_items.Goals as goal

pub returns : goal.returns
returns c = ordered_same c.args.profile c.args.items.items c.in_ok-change.change c.requires (rw (c.none-parts.ensures, c.new.ensures) at c.in_ok-change.ensures)
