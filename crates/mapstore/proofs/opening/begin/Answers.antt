use Rattle.std.proofs.Common.{◌≡◌, ◌∙◌, sym, IfOk, subst}
use Rattle.mapjson.specs.Written.{written}
use Rattle.journalstore.specs.Texts.{begun_with}
use Rattle.journalstore.specs.Read.{texts_read}
use Rattle.sqlite.specs.Files.{over_files}
use Rattle.journalstore.specs.Stores.{Holds}
use Rattle.mapstore.specs.Openings.{IsMapOf}
use Rattle.mapstore.proofs.OpenLemmas.{of_both}
use Rattle.mapstore.proofs.opening.begin.Goals as goal

pub adopt-requires : goal.adopt-requires
adopt-requires g c = subst (Holds over_files c.in_ok-texts.texts) (sym c.in_ok-texts.ensures.read) c.in_ok-texts.ensures.begun

pub returns-clause-map : goal.returns-clause-map
returns-clause-map g c =
    let text : c.as_str.result.now ≡ written c.args.first.0.now.map = c.as_str.ensures.value ∙ c.in_ok-text.ensures.text in
    let read : texts_read c.in_ok-texts.found ≡ begun_with c.args.first.0.now.map.epoch (written c.args.first.0.now.map) = c.in_ok-texts.ensures.read ∙ (λ i. begun_with (c.epoch.ensures i) (text i)) in
    subst (λ ts. IfOk c.adopt.result (λ r. IsMapOf ts r.1.map)) read c.adopt.ensures.map

pub returns-clause-found : goal.returns-clause-found
returns-clause-found g c =
    of_both c.adopt.result _ _ _
    (λ r map clean db t late held stands. subst (λ ts. IsMapOf ts r.1.map) (c.in_ok-texts.ensures.found db t (clean late) held stands) map)
    c.adopt.ensures.map c.adopt.ensures.clean
