-- The grammar of rules, said by blocks.
use Rattle.std.specs.Prelude.{◌≡◌, ◌<◌, ◌↔◌, All, ◌++◌, IsTrue, List, [], ◌∷◌, length}
use Rattle.crush.specs.declared.step.RuleKind.{RuleKind}
use Rattle.crush.specs.declared.step.Step.{Step}
use Rattle.crush.specs.declared.step.Step.TheVariants.{Emit}
use Rattle.crush.specs.Grammar.{is_piece, is_rule}

-- the steps of blocks, one after another, each ended by an emit
abbrev pub steps_of_blocks : List (List Step) → List Step
steps_of_blocks [] = []
steps_of_blocks (block ∷ blocks) = block ++ Emit ∷ steps_of_blocks blocks

-- the steps are those of one or more blocks, each with the steps that set tries before it
pub record IsGrammatical (kind : RuleKind) (steps : List Step) : Type 0 where
  pub blocks : List (List Step)
  pub some : 0 < length blocks
  pub lawful : All (λ block. IsTrue (is_piece kind block)) blocks
  pub made : steps ≡ steps_of_blocks blocks

-- the rules are the steps of one or more blocks
abbrev pub RulesAreBlocks : Type 0
RulesAreBlocks = (kind : RuleKind) (steps : List Step) → IsTrue (is_rule kind steps) ↔ IsGrammatical kind steps
