use Rattle.std.proofs.Common.{◌∙◌, sym, inr}
use Rattle.osdmap.proofs.Built.{fault_limit}
use Rattle.osdmap.proofs.map.OsdMap.stock.Goals as goal

pub returns-then-not-parts_fit_in : goal.returns-then-not-parts_fit_in
returns-then-not-parts_fit_in c = inr (fault_limit c.args.parts (sym c.parts_fit_in.ensures.value ∙ c.if-not-parts_fit_in.true))
