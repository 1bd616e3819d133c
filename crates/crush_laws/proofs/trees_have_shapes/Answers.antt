use Rattle.std.proofs.Common.{refl}
use Rattle.std.specs.List.{range_with_len}
use Rattle.std.proofs.Common.{map, ◌+◌, ◌*◌}
use Rattle.crush_laws.proofs.trees_have_shapes.Goals as goal

pub returns : goal.returns
returns c = record {
  one = record { of_depth = refl; of_nodes = refl; of_root = refl; of_leaves = refl; of_places = refl };
  two = record { of_depth = refl; of_nodes = refl; of_root = refl; of_leaves = refl; of_places = refl };
  three = record { of_depth = refl; of_nodes = refl; of_root = refl; of_leaves = refl; of_places = refl };
  four = record { of_depth = refl; of_nodes = refl; of_root = refl; of_leaves = refl; of_places = refl };
  five = record { of_depth = refl; of_nodes = refl; of_root = refl; of_leaves = refl; of_places = refl };
  most = (map (λ place. 2 * place + 1) (range_with_len 0 64), record { of_depth = refl; of_nodes = refl; of_root = refl; of_leaves = refl; of_places = refl }, refl);
}
