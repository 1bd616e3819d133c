use Rattle.std.proofs.Common.{rules}
use Rattle.std.proofs.lemmas.Int.{to_z-of_z}
use mir.Syntax.{w128}
use mir.Val.{SFits}
use Rattle.maptypes.proofs.Narrowed.{rule_id, rule_steps, rule_limits}
use Rattle.maptypes.proofs.crush_map.rule_of.Goals as goal

pub steps_of-requires : goal.steps_of-requires
steps_of-requires c = rw c.deref.ensures (rule_steps _ c.requires)

pub word-requires : goal.word-requires
word-requires c =
    let fits : SFits w128 c.args.part.now.id = search rules in
    rw to_z-of_z (rule_id _ c.requires)

pub of_fitting-requires : goal.of_fitting-requires
of_fitting-requires c = rw (c.in_ok-steps.ensures, c.deref.ensures) (rule_limits _ c.requires)
