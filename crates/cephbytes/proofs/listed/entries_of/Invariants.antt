use Rattle.std.proofs.Common.{◌≡◌, ◌-◌}
use Rattle.cephbytes.specs.Encoding.{entries}
use Rattle.cephbytes.proofs.Loop.{with_front}
use Rattle.cephbytes.proofs.listed.entries_of.Given as goal

abbrev pub invariant-loop : goal.invariant-loop
invariant-loop g l = with_front l.list.items (entries g.T.FromBytes.form (l.count - l.counter) l.rest) ≡ entries g.T.FromBytes.form l.count l.bytes
