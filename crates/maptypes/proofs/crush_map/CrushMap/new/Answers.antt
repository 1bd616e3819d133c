use Rattle.std.proofs.Common.{rules}
use Rattle.maptypes.proofs.Judged.{passed}
use Rattle.maptypes.proofs.CrushWith.{is_crush_with}
use Rattle.maptypes.proofs.crush_map.CrushMap.new.Goals as goal

pub invariant_of-result : goal.invariant_of-result
invariant_of-result c =
    rw c.in_ok-kept.ensures.ok
    (is_crush_with c.args.forest c.args.rules.items c.in_ok-rules.rules.items (search rules) (search rules) (passed _ _ c.in_ok-rules.ensures.0) (search rules) c.in_ok-rules.ensures.1)

pub returns : goal.returns
returns c = (search rules, record { forest = c.in_ok-kept.ensures.ok; ruled = c.in_ok-rules.ensures.1 })
