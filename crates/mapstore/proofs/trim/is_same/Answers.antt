use Rattle.std.proofs.Common.{◌≡◌, ◌∙◌, sym}
use Rattle.std.proofs.lemmas.Bool.Decides.{Decides-eqb}
use Rattle.std.proofs.lemmas.Slice.Eq.{slice_eq-Decides}
use Rattle.mapstore.proofs.OpenLemmas.{same_maps}
use Rattle.mapstore.proofs.trim.is_same.Goals as goal

pub returns : goal.returns
returns c is =
    let same : c.as_str.result.now ≡ c.as_str-2.result.now = (slice_eq-Decides Decides-eqb _ _ c.eq.result c.eq.ensures).0 is in
    same_maps c.args.left.now.map c.args.map.now.map c.in_ok-text.ensures.texted c.in_ok-other.ensures.texted
    (sym c.in_ok-text.ensures.text ∙ sym c.as_str.ensures.value ∙ same ∙ c.as_str-2.ensures.value ∙ c.in_ok-other.ensures.text)
