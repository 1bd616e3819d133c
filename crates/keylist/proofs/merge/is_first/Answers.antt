use Rattle.std.proofs.Common.{arith}
use Rattle.keylist.proofs.KeyedMaps.{first-shown}
use Rattle.keylist.proofs.merge.is_first.Goals as goal

pub returns-else-at-eq0 : goal.returns-else-at-eq0
returns-else-at-eq0 g c = λ d.
    rw (c.key.ensures, c.key-else-at-eq0.ensures)
    (first-shown g.K.Keyed.key_of c.args.entries.now c.args.at _ _ d c.requires.ascending (omega arith) c.requires.inside c.index-entries-at.is c.index-entries-at-else-at-eq0.is)
