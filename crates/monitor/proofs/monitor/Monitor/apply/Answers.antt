use Rattle.std.proofs.Common.{◌≡◌, ◌∙◌, Bool, ap, sym, length}
use Rattle.std.specs.declared.vec.Vec.{Vec}
use Rattle.std.specs.declared.alloc.Global.{Global}
use Rattle.epochlog.specs.Epochs.{Line}
use Rattle.osdmap.specs.Maps.{ClusterMap}
use Rattle.osdmap.specs.Stored.{StoredMap}
use Rattle.state.specs.States.{StateFacts}
use Rattle.monitor.specs.Members.{Monitored}
use Rattle.monitor.specs.declared.locked.Locked.{Locked}
use Rattle.monitor.proofs.Histories.{applies_from}
use Rattle.monitor.proofs.Making.{apply_marks}
use Rattle.monitor.proofs.monitor.Monitor.apply.Goals as goal

pub returns-clause-applies : goal.returns-clause-applies
returns-clause-applies g c =
    let first = c.deref_mut-state.result.now.first in
    let rows : c.self.inside.row ≡ c.args.self.now.row = ap (λ (m : Monitored). m.row) c.self.view_is in
    let firsts : first ≡ c.args.self.now.first =
    ap (λ (k : StateFacts). k.first) c.deref_mut-state.ensures.value ∙ ap (λ (l : Locked g.row.K.Denot). l.state.value.first) c.value_mut.ensures.value ∙ c.in_ok-guard.ensures.holds.1 in
    let done = applies_from first (length c.self.inside.row.cells) c.args.member.now.pass.history
    c.hold.new.member.pass.history c.apply-answer.new.pass.history c.args.change c.apply-answer.result
    c.hold.ensures.turn.goes_on.begins c.apply-answer.ensures.applies in
    rw (c.put_back.ensures.pass, ← rows, ← firsts) done

pub mark_commit-requires : goal.mark_commit-requires
mark_commit-requires g c =
    let first = c.deref_mut-state.result.now.first in
    let rows : c.self.inside.row ≡ c.args.self.now.row = ap (λ (m : Monitored). m.row) c.self.view_is in
    let maps : c.self.inside.first.map ≡ c.args.self.now.first = ap (λ (m : Monitored). m.first) c.self.view_is in
    let firsts : first ≡ c.args.self.now.first =
    ap (λ (k : StateFacts). k.first) c.deref_mut-state.ensures.value ∙ ap (λ (l : Locked g.row.K.Denot). l.state.value.first) c.value_mut.ensures.value ∙ c.in_ok-guard.ensures.holds.1 in
    let long = ap (λ (own : Vec Bool Global). length own.items) (c.put_back.ensures.own ∙ c.hold.ensures.turn.own) ∙ c.requires.room ∙ ap (λ (row : Line). length row.cells) (sym rows) in
    apply_marks _ _ first (length c.self.inside.row.cells) c.hold.new.member.pass.history c.apply-answer.new.pass.history c.args.change c.apply-answer.result
    (c.epoch.ensures ∙ ap (λ (s : StoredMap). s.map.epoch) c.map.ensures ∙ ap (λ (m : ClusterMap). m.epoch) (maps ∙ sym firsts)) long c.apply-answer.ensures.applies
