use Rattle.cephmap.proofs.Sums.{has_its_sum}
use Rattle.cephmap.proofs.laws.maps_have_their_sum.Goals as goal

pub returns : goal.returns
returns c = has_its_sum
