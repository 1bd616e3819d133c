use Rattle.std.proofs.Common.{refl}
use lib.Count.{count_leading_zeros}
use Rattle.rjenkins.specs.Jenkins.{third, mixed, hash3_of}
use Rattle.buckets.specs.Logarithm.{rh_lh, ll, crush_ln}
use Rattle.buckets.specs.Straw2.{shortfall, least_place}
use Rattle.crush_laws.proofs.straws_are_cephs.Goals as goal

pub returns : goal.returns
unfolding count_leading_zeros third mixed hash3_of rh_lh ll crush_ln shortfall least_place
returns c = record { logs = refl; even = refl; mixed = refl; empty = refl }
