use Rattle.std.proofs.Common.{arith, rules}
use Rattle.std.proofs.lemmas.Int.{to_z-of_z, ints}
use mir.Syntax.{w128}
use mir.Val.{SFits}
use Rattle.mapparts.proofs.Within.{word_between, pool_fits_each, PoolFits}
use Rattle.maptypes.proofs.Whole.{pool_within}
use Rattle.maptypes.proofs.pool.Pool.of_fitting.Goals as goal

pub word-requires : goal.word-requires
word-requires c =
    let fits : SFits w128 c.args.part.id = search rules in
    let each : PoolFits c.args.part = pool_fits_each _ (search rules) in
    rw to_z-of_z (word_between 1 65535 c.args.part.id (omega arith) each.id)

pub word-requires-2 : goal.word-requires-2
word-requires-2 c =
    let fits : SFits w128 c.args.part.pg_num = search rules in
    let each : PoolFits c.args.part = pool_fits_each _ (search rules) in
    rw to_z-of_z (word_between 1 65536 c.args.part.pg_num (omega arith) each.pg_num)

pub word-requires-3 : goal.word-requires-3
word-requires-3 c =
    let fits : SFits w128 c.args.part.pgp_num = search rules in
    let each : PoolFits c.args.part = pool_fits_each _ (search rules) in
    rw to_z-of_z (word_between 1 65536 c.args.part.pgp_num (omega arith) each.pgp_num)

pub word-requires-4 : goal.word-requires-4
word-requires-4 c =
    let fits : SFits w128 c.args.part.rule = search rules in
    let each : PoolFits c.args.part = pool_fits_each _ (search rules) in
    rw to_z-of_z (word_between 0 255 c.args.part.rule (omega arith) each.rule)

pub word-requires-5 : goal.word-requires-5
word-requires-5 c =
    let fits : SFits w128 c.args.part.size = search rules in
    let each : PoolFits c.args.part = pool_fits_each _ (search rules) in
    rw to_z-of_z (word_between 1 20 c.args.part.size (omega arith) each.size)

pub invariant_of-result : goal.invariant_of-result
invariant_of-result c =
    let id : SFits w128 c.args.part.id = search rules in
    let pg_num : SFits w128 c.args.part.pg_num = search rules in
    let pgp_num : SFits w128 c.args.part.pgp_num = search rules in
    let rule : SFits w128 c.args.part.rule = search rules in
    let size : SFits w128 c.args.part.size = search rules in
    let each : PoolFits c.args.part = pool_fits_each _ (search rules) in
    let within = pool_within c.args.part each (omega (arith, ints)) in
    rw (c.word.ensures, c.word-2.ensures, c.word-3.ensures, c.word-4.ensures, c.word-5.ensures) (simp to_z-of_z within)
