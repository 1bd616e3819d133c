use Rattle.std.proofs.Common.{rules}
use Rattle.mapparts.proofs.Wider.{pools_fit_all}
use Rattle.mapparts.proofs.fits.parts_fit_in.Goals as goal

pub have_few_groups-requires : goal.have_few_groups-requires
have_few_groups-requires c = pools_fit_all c.args.profile c.deref-then-all_fit-3.result.now (search rules)
