use Rattle.std.proofs.Common.{◌∙◌, ◌++◌, ap, subst, ℕ, List}
use Rattle.server.specs.Serving.{text_left}
use Rattle.session.specs.Sinks.{HasPut}
use Rattle.server.proofs.Put.{put_next, put_cut}
use Rattle.server.proofs.runs.put.Goals as goal

pub returns-in_err-write_whole-clause-part : goal.returns-in_err-write_whole-clause-part
returns-in_err-write_whole-clause-part g c =
    let before = g.W.Sink.written c.loop-left.out in
    let after = g.W.Sink.written c.write_whole.new.sink in
    let out = subst (λ bytes. (rest : List ℕ) × HasPut before bytes rest after) c.bytes.ensures c.in_err-write_whole.ensures.part in
    put_cut c.from_residual.result text_left c.args.lefts.now c.loop-left.left-index c.left-item.result _ before after
    c.loop-left-test.true c.left-item.is c.loop-left.invariant.0 out

pub loop-left-preserved : goal.loop-left-preserved
loop-left-preserved g c =
    let before = g.W.Sink.written c.loop-left.out in
    let put = c.in_ok-write_whole.ensures.whole ∙ ap (λ bytes. before ++ bytes) c.bytes.ensures in (
      put_next text_left c.args.lefts.now c.loop-left.left-index c.left-item.result _ before _ c.loop-left-test.true c.left-item.is
          c.loop-left.invariant.0 put,
      c.in_ok-write_whole.ensures.failed,
    )
