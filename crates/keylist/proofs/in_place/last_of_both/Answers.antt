use Rattle.std.proofs.Common.{sym, ◌∙◌, Less, Equal, Greater}
use Rattle.std.proofs.lemmas.Cmp.{ranked}
use Rattle.keylist.proofs.KeyedPuts.{old_last, both_last, new_above, new_alone}
use Rattle.keylist.proofs.in_place.last_of_both.Goals as goal
use Rattle.keylist.proofs.in_place.last_of_both.Goals.{in-Less, in-Equal, in-Greater}

pub returns-in_default : goal.returns-in_default
returns-in_default g c =
    let news = c.in_ok-y.ensures.cases.0 in
    rw news (new_alone g.K.Keyed.key_of c.args.old.now c.in_ok-y.news.now c.in_ok-y.y.now c.in_default.ensures.cases (rw news at c.requires.new))

pub returns : goal.returns
returns g c =
    let key = g.K.Keyed.key_of in
    let x = c.in-Some.x.now in
    let y = c.in_ok-y.y.now in
    let olds = c.in-Some.ensures.cases.0 in
    let news = c.in_ok-y.ensures.cases.0 in
    let old_rises = rw olds at c.requires.old in
    let new_rises = rw news at c.requires.new in
    let order = rw (c.key.ensures, c.key-2.ensures) at c.cmp.ensures in
    elim c.match-cmp.branch [
      | in-Less w ↦ rw (w.result-is, olds, news) (new_above key _ _ x y (ranked _ _ Less (sym w.in-Less.is ∙ order)) old_rises new_rises)
      | in-Equal w ↦ rw (w.result-is, olds, news) (both_last key _ _ x y (ranked _ _ Equal (sym w.in-Equal.is ∙ order)) old_rises new_rises)
      | in-Greater w ↦ rw (w.result-is, olds, news) (old_last key _ _ x y (ranked _ _ Greater (sym w.in-Greater.is ∙ order)) old_rises new_rises)
    ]
