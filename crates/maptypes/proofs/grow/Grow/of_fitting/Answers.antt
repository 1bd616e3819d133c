use Rattle.std.proofs.Common.{arith, rules}
use Rattle.std.proofs.lemmas.Int.{to_z-of_z, ints}
use mir.Syntax.{w128}
use mir.Val.{SFits}
use Rattle.mapparts.proofs.Within.{word_between, growth_fits_each, GrowthFits}
use Rattle.maptypes.proofs.Whole.{growth_within}
use Rattle.maptypes.proofs.grow.Grow.of_fitting.Goals as goal

pub word-requires : goal.word-requires
word-requires c =
    let fits : SFits w128 c.args.part.pool = search rules in
    let each : GrowthFits c.args.part = growth_fits_each _ (search rules) in
    rw to_z-of_z (word_between 1 65535 c.args.part.pool (omega arith) each.pool)

pub word-requires-2 : goal.word-requires-2
word-requires-2 c =
    let fits : SFits w128 c.args.part.pg_num = search rules in
    let each : GrowthFits c.args.part = growth_fits_each _ (search rules) in
    rw to_z-of_z (word_between 1 65536 c.args.part.pg_num (omega arith) each.pg_num)

pub word-requires-3 : goal.word-requires-3
word-requires-3 c =
    let fits : SFits w128 c.args.part.pgp_num = search rules in
    let each : GrowthFits c.args.part = growth_fits_each _ (search rules) in
    rw to_z-of_z (word_between 1 65536 c.args.part.pgp_num (omega arith) each.pgp_num)

pub invariant_of-result : goal.invariant_of-result
invariant_of-result c =
    let pool : SFits w128 c.args.part.pool = search rules in
    let pg_num : SFits w128 c.args.part.pg_num = search rules in
    let pgp_num : SFits w128 c.args.part.pgp_num = search rules in
    let each : GrowthFits c.args.part = growth_fits_each _ (search rules) in
    let within = growth_within c.args.part each (omega (arith, ints)) in
    rw (c.word.ensures, c.word-2.ensures, c.word-3.ensures) (simp to_z-of_z within)
