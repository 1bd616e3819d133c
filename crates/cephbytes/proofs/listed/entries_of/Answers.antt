use Rattle.std.proofs.lemmas.Result.{err_from_is_err_and}
use Rattle.cephbytes.specs.Encoding.{entries}
use Rattle.cephbytes.proofs.Loop.{goes_on, ends_by, is_done}
use Rattle.cephbytes.proofs.listed.entries_of.Goals as goal

pub returns-in_err-entry : goal.returns-in_err-entry
returns-in_err-entry g c =
    let p = err_from_is_err_and c.from_residual.result c.from_residual.ensures.1 in
    rw (p.1, p.2) (ends_by g.T.FromBytes.form c.in_err-entry.field-0.0 c.loop.list.items c.args.count c.loop.counter c.loop.rest.now (entries g.T.FromBytes.form c.args.count c.args.bytes.now) c.loop-test.true c.in_err-entry.ensures c.loop.invariant)

pub loop-preserved : goal.loop-preserved
loop-preserved g c =
    rw c.in_ok-push.ensures.items (goes_on g.T.FromBytes.form c.loop.list.items c.args.count c.loop.counter c.loop.rest.now c.in_ok-entry.entry c.in_ok-entry.after.now (entries g.T.FromBytes.form c.args.count c.args.bytes.now) c.loop-test.true c.in_ok-entry.ensures c.loop.invariant)

pub returns : goal.returns
returns g c = is_done g.T.FromBytes.form c.loop.list.items c.args.count c.loop.counter c.loop.rest.now (entries g.T.FromBytes.form c.args.count c.args.bytes.now) c.loop-test.false c.loop.invariant
