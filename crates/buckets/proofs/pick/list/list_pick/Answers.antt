use Rattle.std.proofs.Common.{◌+◌, ◌-◌, ◌*◌, ◌%◌, length, sym, ◌∙◌, arith}
use Rattle.buckets.proofs.ListWinners.{place_won, place_lost, place_first, weight_more}
use Rattle.buckets.proofs.pick.list.list_pick.Goals as goal

pub returns-then-wins_draw-clause-place : goal.returns-then-wins_draw-clause-place
returns-then-wins_draw-clause-place c =
    let a = c.args in
    let l = c.loop-at in
    let from = length a.items.now % 4 + 4 * (c.loop-block.block - 1) in
    sym (place_won a.x a.id a.r _ l.upto (from + (l.at - 1)) (from + l.at) a.items.now c.wins_draw.result (omega arith) l.invariant.weighed (c.hashes_from-hashes.ensures (l.at - 1) (omega arith)) c.wins_draw.ensures c.if-wins_draw.true) ∙ l.invariant.rest

pub loop-at-preserved : goal.loop-at-preserved
loop-at-preserved c =
    let a = c.args in
    let l = c.loop-at in
    let from = length a.items.now % 4 + 4 * (c.loop-block.block - 1) in
    record {
      weighed = omega (arith, l.invariant.weighed, weight_more (from + (l.at - 1)) (from + l.at) a.items.now (omega arith) (omega arith));
      rest = sym (place_lost a.x a.id a.r _ l.upto (from + (l.at - 1)) (from + l.at) a.items.now c.wins_draw.result (omega arith) l.invariant.weighed (c.hashes_from-hashes.ensures (l.at - 1) (omega arith)) c.wins_draw.ensures c.if-wins_draw.false) ∙ l.invariant.rest;
    }

pub returns-then-wins_draw-2-clause-place : goal.returns-then-wins_draw-2-clause-place
returns-then-wins_draw-2-clause-place c =
    let a = c.args in
    let l = c.loop-place in
    sym (place_won a.x a.id a.r _ l.upto (l.place - 1) l.place a.items.now c.wins_draw-in-loop-place.result (omega arith) l.invariant.weighed c.hash_of.ensures c.wins_draw-in-loop-place.ensures c.if-wins_draw-2.true) ∙ l.invariant.rest

pub loop-place-preserved : goal.loop-place-preserved
loop-place-preserved c =
    let a = c.args in
    let l = c.loop-place in
    record {
      weighed = omega (arith, l.invariant.weighed, weight_more (l.place - 1) l.place a.items.now (omega arith) (omega arith));
      rest = sym (place_lost a.x a.id a.r _ l.upto (l.place - 1) l.place a.items.now c.wins_draw-in-loop-place.result (omega arith) l.invariant.weighed c.hash_of.ensures c.wins_draw-in-loop-place.ensures c.if-wins_draw-2.false) ∙ l.invariant.rest;
    }

pub returns-clause-place : goal.returns-clause-place
returns-clause-place c =
    let a = c.args in
    sym (place_first a.x a.id a.r c.loop-place.place a.items.now (omega arith)) ∙ c.loop-place.invariant.rest
