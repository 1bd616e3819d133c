use Rattle.std.proofs.Common.{◌<◌, length, arith, refl, rules}
use Rattle.std.proofs.lemmas.Bool.{false≢true}
use Rattle.server.proofs.Joined.{made_more, not_once}
use Rattle.server.proofs.players.are_made_once.Goals as goal

pub loop-at-preserved : goal.loop-at-preserved
loop-at-preserved c = λ k less. made_more c.args.lefts.now c.loop-at.at k c.loop-at.invariant (search rules) less

pub returns : goal.returns
returns c = (
  λ done at inside. c.loop-at.invariant at (omega (arith, c.loop-at-test.false, c.epoch.ensures.place, c.requires, inside)),
  λ all. refl,
)

pub returns-then-not-is_made_once : goal.returns-then-not-is_made_once
returns-then-not-is_made_once c =
    let inside : c.loop-at.at < length c.args.all.now.history = omega (arith, c.loop-at-test.true, c.epoch.ensures.place, c.requires) in
    (λ done. absurd (false≢true done), λ all. absurd (not_once c.args.lefts.now c.loop-at.at (all c.loop-at.at inside) (search rules)))
