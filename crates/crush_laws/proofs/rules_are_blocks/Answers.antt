use Rattle.crush_laws.proofs.RuleBlocks.{rules_are_blocks}
use Rattle.crush_laws.proofs.rules_are_blocks.Goals as goal

pub returns : goal.returns
returns c = rules_are_blocks
