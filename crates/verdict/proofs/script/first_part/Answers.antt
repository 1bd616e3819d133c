use Rattle.std.proofs.Common.{◌≤◌, ◌<◌, ◌+◌, ◌-◌, length, drop, arith, sym, length-drop}
use Rattle.std.proofs.lemmas.List.{take_all}
use Rattle.verdict.proofs.Cuts.{cut_some, cut_none}
use Rattle.verdict.proofs.script.first_part.Goals as goal

pub returns-in-None : goal.returns-in-None
returns-in-None c = record { parts = cut_none c.args.at c.args.text.now (sym c.in-None.ensures.place); shorter = tt }

pub returns-in-Some : goal.returns-in-Some
returns-in-Some c =
    let text = c.args.text.now in
    let rest_behind = drop (c.in-Some.place + 1) text in
    let few = length-drop (c.in-Some.place + 1) text in
    let all : length rest_behind ≤ length text - (c.in-Some.place + 1) = omega (arith, few) in
    let shorter : length rest_behind < length text = omega (arith, few, c.in-Some.ensures.within) in
    rw (take_all (length text - (c.in-Some.place + 1)) rest_behind all)
    (record { parts = cut_some c.args.at text c.in-Some.place (sym c.in-Some.ensures.place); shorter = shorter })
