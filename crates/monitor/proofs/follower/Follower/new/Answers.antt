use Rattle.std.proofs.Common.{◌∙◌, sym, ap}
use Rattle.osdmap.specs.Maps.{ClusterMap}
use Rattle.osdmap.specs.Stored.{StoredMap}
use Rattle.epochlog.specs.Epochs.{Line}
use Rattle.monitor.proofs.Followers.{followed_new}
use Rattle.monitor.proofs.follower.Follower.new.Goals as goal

pub invariant_of-result : goal.invariant_of-result
invariant_of-result g c =
    let row = ap (λ (l : Line). l.first) c.in_ok-pass.ensures.row in
    let epoch = ap (λ (m : ClusterMap). m.epoch) (sym c.in_ok-first.ensures) in
    followed_new c.in_ok-first.first.map c.in_ok-map.map.map c.in_ok-pass.pass c.in_ok-work.work.runs (c.in_ok-map.ensures ∙ ap (λ (s : StoredMap). s.map) c.map.ensures ∙ sym c.in_ok-first.ensures)
    c.in_ok-pass.ensures.history (row ∙ c.monitor.invariant.begins ∙ epoch)
