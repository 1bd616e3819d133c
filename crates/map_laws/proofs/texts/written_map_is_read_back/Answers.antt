use Rattle.map_laws.proofs.ReadBack.{written_back}
use Rattle.map_laws.proofs.texts.written_map_is_read_back.Goals as goal

pub returns : goal.returns
returns c = λ epoch.
    let own = c.states_itself.ensures epoch in
    written_back c.args.map.now.map own.faultless own.stated c.parts_state_one_map.ensures
