use Rattle.std.proofs.Common.{rules}
use Rattle.std.proofs.lemmas.Int.{to_z-of_z}
use mir.Syntax.{w128}
use mir.Val.{SFits}
use Rattle.maptypes.proofs.Narrowed.{some_tries, leaf_tries, leaf_vary, leaf_stable, take_id, choose_count, choose_level}
use Rattle.maptypes.proofs.rule_parts.step_of.Goals as goal

pub byte-requires : goal.byte-requires
byte-requires c =
    let fits : SFits w128 c.in-SetChooseTries.tries = search rules in
    rw to_z-of_z (some_tries _ (rw c.in-SetChooseTries.is at c.requires))

pub byte-requires-in-SetChooseleafTries : goal.byte-requires-in-SetChooseleafTries
byte-requires-in-SetChooseleafTries c =
    let fits : SFits w128 c.in-SetChooseleafTries.tries = search rules in
    rw to_z-of_z (leaf_tries _ (rw c.in-SetChooseleafTries.is at c.requires))

pub byte-requires-in-SetChooseleafVaryR : goal.byte-requires-in-SetChooseleafVaryR
byte-requires-in-SetChooseleafVaryR c =
    let fits : SFits w128 c.in-SetChooseleafVaryR.vary = search rules in
    rw to_z-of_z (leaf_vary _ (rw c.in-SetChooseleafVaryR.is at c.requires))

pub byte-requires-in-SetChooseleafStable : goal.byte-requires-in-SetChooseleafStable
byte-requires-in-SetChooseleafStable c =
    let fits : SFits w128 c.in-SetChooseleafStable.stable = search rules in
    rw to_z-of_z (leaf_stable _ (rw c.in-SetChooseleafStable.is at c.requires))

pub item_id-requires : goal.item_id-requires
item_id-requires c =
    let fits : SFits w128 c.in-Take.bucket = search rules in
    rw to_z-of_z (take_id _ (rw c.in-Take.is at c.requires))

pub byte-requires-in-Choose : goal.byte-requires-in-Choose
byte-requires-in-Choose c =
    let fits : SFits w128 c.in-Choose.choose.count = search rules in
    rw to_z-of_z (choose_count _ (rw c.in-Choose.is at c.requires))

pub byte-requires-in-Choose-2 : goal.byte-requires-in-Choose-2
byte-requires-in-Choose-2 c =
    let fits : SFits w128 c.in-Choose.choose.level = search rules in
    rw to_z-of_z (choose_level _ (rw c.in-Choose.is at c.requires))
