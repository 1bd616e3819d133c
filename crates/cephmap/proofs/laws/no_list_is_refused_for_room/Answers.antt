use Rattle.cephmap.proofs.Rooms.{no_list_is_refused}
use Rattle.cephmap.proofs.laws.no_list_is_refused_for_room.Goals as goal

pub returns : goal.returns
returns c = no_list_is_refused
