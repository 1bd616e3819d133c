use Rattle.std.proofs.Common.{arith}
use Rattle.std.proofs.lemmas.List.Elements.{All-map}
use Rattle.std.proofs.lemmas.Result.{on_ok_weaker}
use Rattle.mapjson.specs.Pieces.{IsReadBack}
use Rattle.mapjson.proofs.Pieces.{list_read}
use Rattle.mapjson.proofs.written.value.list.Goals as goal

pub returns-clause-back : goal.returns-clause-back
returns-clause-back g c =
    let T = g.T.WriteJson in
    let each = All-map (λ x. IsReadBack (T.written x)) T.part c.args.entries.now (λ i d below. c.loop-entry.invariant.3 i d (omega arith) (omega (arith, below))) in
    on_ok_weaker c.end_array.result (λ e. list_read T.written _ each) c.end_array.ensures.ok
