use Rattle.std.proofs.Common.{subst}
use Rattle.mapstore.specs.Openings.{IsMapOf}
use Rattle.mapstore.proofs.OpenLemmas.{of_both}
use Rattle.mapstore.proofs.opening.open.Goals as goal

pub returns-clause-found : goal.returns-clause-found
returns-clause-found g c =
    of_both c.adopt.result _ _ _
    (λ r map clean db t late held stands. subst (λ ts. IsMapOf ts r.1.map) (c.in_ok-texts.ensures.found db t (clean late) held stands) map)
    c.adopt.ensures.map c.adopt.ensures.clean
