use Rattle.std.proofs.Common.{◌∙◌, sym, ap, length}
use Rattle.osdmap.specs.Maps.{ClusterMap}
use Rattle.osdmap.specs.Changes.{after}
use Rattle.epochlog.specs.Epochs.{Seen}
use Rattle.monitor.proofs.Histories.{applied_by}
use Rattle.monitor.proofs.locked.apply.Goals as goal

pub returns-clause-applies : goal.returns-clause-applies
returns-clause-applies g c =
    let first = c.args.state.now.first in
    let here = c.epoch-base.ensures ∙ ap (λ (m : ClusterMap). m.epoch) (c.map.ensures.map ∙ c.map.ensures.after)
    ∙ ap (λ (p : Seen). (after first p.history).epoch) (sym c.requires.pass) in
    applied_by first (length c.args.row.now.cells) c.args.pass.now.history c.commit.new.pass.history c.epoch-base.result c.args.change c.commit.result
    here c.commit.ensures.own c.commit.ensures.commits
