use Rattle.std.proofs.Common.{◌∙◌, ◌+◌, ◌≤◌, length, drop, sym, ap, arith}
use Rattle.std.proofs.Math.ListN.{drop_of_length-le}
use Rattle.verdict.specs.Verdicts.{judged}
use Rattle.verdict.proofs.Lines.{judged_more, judged_all, ends_so, if_ok, left_from}
use Rattle.verdict.proofs.judging.judge_all.Goals as goal

pub loop-one-preserved : goal.loop-one-preserved
loop-one-preserved c =
    let ss = c.args.said.now in
    let left = left_from ss c.loop-one.one-index c.one-item.result c.loop-one-test.true c.one-item.is in
    let more = judged_more c.args.profile c.loop-one.map.map c.loop-one.taken.items c.one-item.result (drop (c.loop-one.one-index + 1) ss) c.in-Ok.what c.in-Ok.ensures.answer in
    rw (c.in_ok-push-in-Ok.ensures.items, c.in-Ok.ensures.map) ((rw (left) at c.loop-one.invariant) ∙ more)

pub returns-in-Err : goal.returns-in-Err
returns-in-Err c =
    let ss = c.args.said.now in
    let left = left_from ss c.loop-one.one-index c.one-item.result c.loop-one-test.true c.one-item.is in
    let all = rw (left) at c.loop-one.invariant in
    if_ok _ _ c.stopped.result
    (λ v ended. ends_so c.args.profile c.loop-one.map.map c.loop-one.taken.items c.one-item.result (drop (c.loop-one.one-index + 1) ss)
    (judged c.args.profile c.args.map.map ss) v c.take.new.map.map c.in-Err.stop
    all c.in-Err.ensures.answer c.in-Err.ensures.map ended)
    c.stopped.ensures

pub returns : goal.returns
returns c =
    let ss = c.args.said.now in
    let past : length ss ≤ c.loop-one.one-index = omega (arith, c.loop-one-test.false) in
    let none = drop_of_length-le ss past in
    let all = (rw (none) at c.loop-one.invariant) ∙ judged_all c.args.profile c.loop-one.map.map c.loop-one.taken.items in
    record { taken = sym (ap (λ j. j.taken) all); doubt = sym (ap (λ j. j.doubt) all); map = sym (ap (λ j. j.map) all) }
