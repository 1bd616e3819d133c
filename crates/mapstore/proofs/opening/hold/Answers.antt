use Rattle.std.proofs.Common.{ap}
use Rattle.osdmap.specs.Stored.{StoredMap}
use Rattle.journalstore.specs.Read.{texts_read}
use Rattle.mapstore.proofs.OpenLemmas.{held_first}
use Rattle.mapstore.proofs.opening.hold.Goals as goal

pub returns-clause-holds : goal.returns-clause-holds
returns-clause-holds g c =
    held_first g.S.Store _ (texts_read c.args.past.now) c.args.map.now.map (ap texts_read c.of.ensures)
    (ap (λ (s : StoredMap). s.map) c.of-2.ensures) c.requires.stands c.requires.holds c.epoch-epoch.ensures
