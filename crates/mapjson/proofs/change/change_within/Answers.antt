use Rattle.std.proofs.Common.{◌≡◌, true, rules}
use Rattle.mapparts.specs.Profiles.{limits_of}
use Rattle.mapparts.specs.Changes.{change_fits_in}
use Rattle.mapparts.proofs.Wider.{change_fits_all}
use Rattle.mapjson.proofs.ChangeFits.{change_fits_each}
use Rattle.mapjson.proofs.change.change_within.Goals as goal

pub crush_within-requires : goal.crush_within-requires
crush_within-requires c =
    let fits : change_fits_in (limits_of c.args.profile) c.args.change.now ≡ true = search rules in
    (change_fits_each c.args.change.now (change_fits_all c.args.profile c.args.change.now fits)).crush

pub parts_within-requires : goal.parts_within-requires
parts_within-requires c = change_fits_all c.args.profile c.args.change.now (search rules)

pub base_within-requires : goal.base_within-requires
base_within-requires c = change_fits_all c.args.profile c.args.change.now (search rules)
