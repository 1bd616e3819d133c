use Rattle.std.proofs.Common.{rules, arith, ◌∙◌, ◌≡◌, ◌<◌, ap, sym, take, drop, length, true, false, Err}
use Rattle.std.proofs.Math.Seq.{take-set-lt}
use Rattle.std.proofs.lemmas.List.{drop-set-lt, length-take}
use Rattle.std.proofs.lemmas.List.Sorted.{answers_always}
use Rattle.keylist.proofs.KeyedFinds.{has-sought, key-sought}
use Rattle.keylist.proofs.KeyedOrder.{rising_ascends}
use Rattle.keylist.proofs.Replacing.{set-key}
use Rattle.keylist.proofs.replace.replace.Goals as goal

pub unreachable-requires : goal.unreachable-requires
unreachable-requires g c =
    let key = g.K.Keyed.key_of in
    let place = c.in-Err.ensures.position key (answers_always _ _ _ (λ f a r q called. search rules)) in
    let none = has-sought key (take c.args.first c.args.list.now) c.key.result (Err c.in-Err.field-0) c.in-Err.ensures.bound place (rising_ascends key _ c.requires.rising) in
    let both : false ≡ true = none ∙ rw c.key.ensures c.requires.there in
    cc

pub returns-clause-front : goal.returns-clause-front
returns-clause-front g c =
    let key = g.K.Keyed.key_of in
    let front = take c.args.first c.args.list.now in
    let place = c.in-Ok.ensures.position key (answers_always _ _ _ (λ f a r q called. search rules)) in
    let same = key-sought key front c.key.result c.in-Ok.at c.args.entry place in
    let inside : c.in-Ok.at < length front = c.in-Ok.ensures.bound in
    rw (take-set-lt c.args.first c.args.list.now c.in-Ok.at c.args.entry (omega (arith, inside, length-take c.args.first c.args.list.now)))
    (set-key key front c.in-Ok.at c.args.entry c.requires.rising inside (same ∙ c.key.ensures))

pub returns-clause-back : goal.returns-clause-back
returns-clause-back g c =
    let inside : c.in-Ok.at < length (take c.args.first c.args.list.now) = c.in-Ok.ensures.bound in
    drop-set-lt c.args.first c.args.list.now c.in-Ok.at c.args.entry (omega (arith, inside, length-take c.args.first c.args.list.now))
