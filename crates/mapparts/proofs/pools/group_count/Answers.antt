use Rattle.std.proofs.Common.{◌≡◌, nat_abs, arith, rules}
use Rattle.std.proofs.lemmas.Int.{to_z-of_z}
use mir.Syntax.{w128}
use mir.Val.{SFits}
use Rattle.mapparts.proofs.Within.{natural_between, word_between, pool_fits_each, PoolFits}
use Rattle.mapparts.proofs.pools.group_count.Goals as goal

pub word-requires : goal.word-requires
word-requires c =
    let fits : SFits w128 c.args.pool.now.pg_num = search rules in
    let each : PoolFits c.args.pool.now = pool_fits_each _ (search rules) in
    rw to_z-of_z (word_between 1 65536 c.args.pool.now.pg_num (omega arith) each.pg_num)

pub returns-clause-few : goal.returns-clause-few
returns-clause-few c =
    let each : PoolFits c.args.pool.now = pool_fits_each _ (search rules) in
    let is : c.from.result ≡ nat_abs c.args.pool.now.pg_num = search rules in
    rw is (natural_between 1 65536 c.args.pool.now.pg_num each.pg_num).most
