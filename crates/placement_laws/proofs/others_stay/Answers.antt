use Rattle.osdmap.proofs.OthersStay.{others_stay}
use Rattle.placement_laws.proofs.others_stay.Goals as goal

pub returns : goal.returns
returns c = λ m step p n holds lawful found inside none.
    let was = others_stay m step p n holds lawful found inside none in
    record { pool = was.0; mapped = was.1 }
