use Rattle.std.proofs.Common.{◌∙◌, sym}
use Rattle.mapparts.specs.declared.profile.Profile.TheVariants.{Plain}
use Rattle.mapparts.proofs.Wider.{map_fits_all}
use Rattle.osdmap.proofs.map.OsdMap.new.Goals as goal

pub of_fitting-requires : goal.of_fitting-requires
of_fitting-requires c = map_fits_all Plain c.args.parts (sym c.parts_fit_in.ensures.value ∙ c.if-not-parts_fit_in.false)
