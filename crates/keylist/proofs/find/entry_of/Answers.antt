use Rattle.std.proofs.Common.{rules, sym}
use Rattle.std.proofs.lemmas.List.Sorted.{answers_always}
use Rattle.keylist.proofs.KeyedFinds.{entry-sought, entry-absent}
use Rattle.keylist.proofs.find.entry_of.Goals as goal

pub returns-in-Ok : goal.returns-in-Ok
returns-in-Ok g c =
    let key = g.K.Keyed.key_of in
    let place = c.in-Ok.ensures.position key (answers_always _ _ _ (λ f a r q called. search rules)) in
    sym (entry-sought key c.args.entries.now c.args.key c.in-Ok.at _ c.in-Ok.ensures.bound c.index-entries-at.is place c.requires)

pub returns-in-Err : goal.returns-in-Err
returns-in-Err g c =
    let key = g.K.Keyed.key_of in
    let place = c.in-Err.ensures.position key (answers_always _ _ _ (λ f a r q called. search rules)) in
    sym (entry-absent key c.args.entries.now c.args.key c.in-Err.field-0 place c.requires)
