use Rattle.std.proofs.Common.{replicate, length, ap, sym, ◌∙◌, arith}
use Rattle.crush.specs.declared.choose.Position.TheVariants.{Open}
use Rattle.crush.specs.Placed.{choosing}
use Rattle.crush.specs.Indep.{after_round, indep}
use Rattle.crush.proofs.Rounds.{fold_range}
use Rattle.crush.proofs.IdleRounds.{rounds_over}
use Rattle.crush.proofs.chooser.Chooser.indep.Goals as goal

pub loop-round-preserved : goal.loop-round-preserved
loop-round-preserved c =
    let a = c.args in
    let f = after_round (choosing a.self.now) a.start.now in
    record {
      done = rw c.new-below.ensures.bucket at c.take_round.ensures.value ∙ ap (λ ps. f ps c.loop-round.round) c.loop-round.invariant.done ∙ fold_range f (replicate (length a.positions.now) Open) c.loop-round.round;
      picks = c.take_round.ensures.picks;
    }

pub returns-then-not-has_open-clause-value : goal.returns-then-not-has_open-clause-value
unfolding indep
returns-then-not-has_open-clause-value c =
    let a = c.args in
    rounds_over (choosing a.self.now) a.start.now (replicate (length a.positions.now) Open) c.loop-round.positions c.loop-round.round a.self.now.tries.total (omega arith) c.loop-round.invariant.done (sym c.has_open.ensures ∙ c.if-not-has_open.true)
