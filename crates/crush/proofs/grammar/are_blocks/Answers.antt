use Rattle.std.proofs.Common.{rules, tests}
use Rattle.std.proofs.lemmas.Iterator.Search.{all_from_yields_List}
use Rattle.std.proofs.lemmas.Iterator.Splits.{YieldsList-from_slice_split}
use Rattle.crush.specs.Grammar.{is_piece, is_emit, are_blocks}
use Rattle.crush.proofs.grammar.are_blocks.Goals as goal

-- the pieces between the emits are tested one after another
pub returns : goal.returns
unfolding are_blocks
returns c =
    all_from_yields_List (is_piece c.args.kind) _ _ _ c.all.ensures.ran (YieldsList-from_slice_split _ is_emit c.args.steps.now c.split.ensures.rest c.split.ensures.done c.split.ensures.closure (λ x b q k. search (rules, tests))) (λ x b q k. search (rules, tests))
