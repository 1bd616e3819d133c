use Rattle.osdmap.proofs.MappedAlike.{alike_map_alike}
use Rattle.placement_laws.proofs.alike_map_alike.Goals as goal

pub returns : goal.returns
returns c = λ m n p q i alike. alike_map_alike m n p q i alike.raw alike.explicit alike.items alike.weights
