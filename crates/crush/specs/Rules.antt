-- A rule: what it serves, and its steps in order (CRUSH paper, section 3.2; Ceph, crush.h).
use Rattle.std.specs.Prelude.{List}
use Rattle.crush.specs.declared.step.RuleKind.{RuleKind}
use Rattle.crush.specs.declared.step.Step.{Step}

-- what callers see of a rule
pub record Recipe : Type 0 where
  pub kind : RuleKind
  pub steps : List Step
