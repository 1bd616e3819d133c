use Rattle.std.proofs.Common.{◌≡◌, ◌∙◌, true, arith}
use Rattle.std.specs.Prelude.{map}
use Rattle.std.specs.List.{list_all}
use Rattle.mapjson.specs.LoadTexts.{load_fits, load_within}
use Rattle.mapjson.proofs.Carrying.{carried_moved, faultless}
use Rattle.mapjson.proofs.loads.list_loads.Goals as goal

pub returns : goal.returns
returns c =
    let fit : list_all (load_fits c.args.most) c.args.loads.now ≡ true = grind (arith, c.all_fit.ensures, c.if-not-all_fit.false) in
    let rises = rw c.in_ok-loads.ensures at c.in_ok-loads-2.ensures.1 in (
      faultless c.args.most c.args.loads.now c.in_ok-loads-2.loads.items fit rises,
      c.in_ok-list_by_osd.ensures ∙ rw c.deref.ensures.value (carried_moved c.args.most (map load_within c.args.loads.now) c.in_ok-loads-2.loads.items rises),
    )
