use Rattle.std.proofs.Common.{ap, ◌∙◌}
use Rattle.crush.specs.Placed.{choosing}
use Rattle.crush.specs.Indep.{after_position}
use Rattle.crush.proofs.Rounds.{fold_range}
use Rattle.crush.proofs.chooser.Chooser.take_round.Goals as goal

pub loop-rep-preserved : goal.loop-rep-preserved
loop-rep-preserved c =
    let a = c.args in
    let f = after_position (choosing a.self.now) a.start.now.bucket.now a.round in
    record {
      done = c.take_position.ensures.value ∙ ap (λ ps. f ps c.loop-rep.rep) c.loop-rep.invariant.done ∙ fold_range f a.positions.now c.loop-rep.rep;
      picks = c.take_position.ensures.picks;
    }
