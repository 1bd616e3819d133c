use Rattle.std.proofs.Common.{◌≤◌, ◌*◌, length}
use Rattle.cephbytes.proofs.Loop.{as_many_have_room}
use Rattle.cephbytes.proofs.listed.entries_at.Goals as goal

pub returns-clause-room : goal.returns-clause-room
returns-clause-room g c =
    let fits : c.args.count * g.T.FromBytes.LEAST ≤ length c.args.bytes.now = rw (← c.LEAST.ensures) c.if-bytes-count.false in
    as_many_have_room g.T.FromBytes.form c.args.count g.T.FromBytes.LEAST (length c.args.bytes.now) c.args.bytes.now (λ x. (x.0, x.1.now)) c.entries_of.result fits c.entries_of.ensures
