use Rattle.std.proofs.Common.{subst, rules}
use Rattle.maptypes.specs.Incrementals.{Step}
use Rattle.epochlog.specs.Journals.{Journal, IsBeforeOrAfter}
use Rattle.epochlog.proofs.Keeping.{kept_failed}
use Rattle.epochlog.proofs.keeper.Keeper.keep.Goals as goal

pub returns-clause-same : goal.returns-clause-same
returns-clause-same g c j next =
    kept_failed g.K.Keeps.holds g.K.Keeps.may_leave g.K.Keeps.may_fail c.args.self.now c.keep.new.self j c.args.step.value next (search rules) (search rules)
    (subst (λ (step : Step). (held : Journal) → g.K.Keeps.holds c.args.self.now.store held → (left : Journal) → g.K.Keeps.may_leave c.keep.new.self left → IsBeforeOrAfter held step left) c.deref-3.ensures c.keep.ensures.crash)
    (search rules)
