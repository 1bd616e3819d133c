use Rattle.std.proofs.Common.{sym, subst}
use Rattle.osdmap.specs.Maps.{HoldsTogether}
use Rattle.map_laws.specs.TextLaws.{IsThereAndBack}
use Rattle.journalstore.specs.Texts.{Texts}
use Rattle.mapstore_laws.specs.OpeningLaws.{IsOpenedBack, with_later}
use Rattle.mapstore_laws.proofs.LeftJournals.{left_of_monitor}
use Rattle.mapstore_laws.proofs.OpenedBack.{opened_back, later_texts}
use Rattle.mapstore_laws.proofs.laws.kept_journals_are_opened.Goals as goal

pub returns : goal.returns
returns c j later left is was has =
    let all = with_later j left in
    let of = left_of_monitor (with_later j later) all was has in
    let holds = subst HoldsTogether (sym is) c.holds_together.ensures in
    let first = subst IsThereAndBack (sym is) c.written_map_is_read_back.ensures in
    let back = opened_back all of (first of.epoch) (c.journals_are_read_back.ensures all.first all.steps holds of.changes of.lawful) in
    subst (λ (t : Texts). IsOpenedBack t all) (later_texts j left) back
