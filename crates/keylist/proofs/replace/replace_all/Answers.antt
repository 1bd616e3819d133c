use Rattle.std.proofs.Common.{◌≡◌, ◌∙◌, ◌+◌, ◌∷◌, ◌++◌, length, take, drop, ap, sym, rules, refl, arith, add-one}
use Rattle.std.specs.List.{fold}
use Rattle.std.proofs.Math.Seq.{drop-cons, drop-length}
use Rattle.std.proofs.lemmas.List.{length-take, take-append-drop}
use Rattle.keylist.specs.Puts.{put}
use Rattle.keylist.proofs.KeyedMaps.{rising-put}
use Rattle.keylist.proofs.Replacing.{first_there}
use Rattle.keylist.proofs.replace.replace_all.Goals as goal

pub replace-requires-clause-there : goal.replace-requires-clause-there
replace-requires-clause-there g c =
    let key = g.K.Keyed.key_of in
    let e = c.entry-item.result in
    let i = c.loop-entry.entry-index in
    let front = take c.args.first c.loop-entry.list in
    let split : drop i c.args.new.now ≡ e ∷ drop (i + 1) c.args.new.now = drop-cons c.args.new.now i e c.loop-entry-test.true ∙ rw (← c.entry-item.is, add-one) refl in
    let long : length front ≡ c.args.first = length-take c.args.first c.loop-entry.list ∙ omega (arith, c.requires.inside, c.loop-entry.auto.list) in
    let all : length (fold (put key) front (drop i c.args.new.now)) ≡ length front = ap length c.loop-entry.invariant.made ∙ c.requires.all_there ∙ sym long in
    first_there key front e (drop (i + 1) c.args.new.now) c.loop-entry.invariant.rising (rw split at all)

pub loop-entry-preserved : goal.loop-entry-preserved
loop-entry-preserved g c =
    let key = g.K.Keyed.key_of in
    let e = c.entry-item.result in
    let i = c.loop-entry.entry-index in
    let front = take c.args.first c.loop-entry.list in
    let split : drop i c.args.new.now ≡ e ∷ drop (i + 1) c.args.new.now = drop-cons c.args.new.now i e c.loop-entry-test.true ∙ rw (← c.entry-item.is, add-one) refl in
    record {
      rising = rw c.replace.ensures.front (rising-put key front e c.loop-entry.invariant.rising);
      made = rw c.replace.ensures.front (sym (ap (fold (put key) front) split) ∙ c.loop-entry.invariant.made);
      back = c.replace.ensures.back ∙ c.loop-entry.invariant.back;
    }

pub returns : goal.returns
returns g c =
    let key = g.K.Keyed.key_of in
    let front = take c.args.first c.loop-entry.list in
    let end : c.loop-entry.entry-index ≡ length c.args.new.now = omega (arith, c.loop-entry.auto.entry-index-end, c.loop-entry-test.false) in
    let made : front ≡ fold (put key) (take c.args.first c.args.list.now) c.args.new.now = rw (end, drop-length c.args.new.now) at c.loop-entry.invariant.made in
    sym (take-append-drop c.args.first c.loop-entry.list) ∙ rw (made, c.loop-entry.invariant.back) refl
