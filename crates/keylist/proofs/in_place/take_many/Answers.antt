use Rattle.std.proofs.Common.{ℕ, ◌≡◌, ◌∙◌, ◌<◌, ap, sym, cond, set, get_or, length, rules, refl, arith}
use Rattle.keylist.specs.Walks.{rest_from, begins_at}
use Rattle.keylist.proofs.Keeping.{keeping_from, keeping_next, length_kept}
use Rattle.keylist.proofs.Walking.{all_stay}
use Rattle.keylist.proofs.in_place.take_many.Goals as goal

-- two lists of one length have one length as vectors
sized : {a b c d : ℕ} → a ≡ b → b ≡ c → d ≡ c → a ≡ d
sized ab bc dc = ab ∙ bc ∙ sym dc

pub loop-at-preserved : goal.loop-at-preserved
loop-at-preserved g c =
    let own = g.K.Keyed.key_of in
    let key = g.G.Keyed.key_of in
    let e = c.index.result.now in
    let is : get_or c.loop-at.list.items c.loop-at.at e ≡ e = search rules in
    let inside : c.loop-at.at < length c.loop-at.list.items = omega (arith, c.loop-at.invariant.long, c.loop-at-test.true, c.len-at-end.ensures) in
    let rest : c.from-rest.result.now ≡ rest_from key c.loop-at.rest.now (own e) = c.from-rest.ensures ∙ ap (λ k. rest_from key c.loop-at.rest.now k) c.key-in-loop-at.ensures in
    let goes : c.begins_at.result ≡ begins_at key c.from-rest.result.now (own e) = c.begins_at.ensures ∙ ap (λ k. begins_at key c.from-rest.result.now k) c.key-in-loop-at-2.ensures in
    let next = keeping_next own key _ _ _ _ _ c.loop-at.invariant.keeping inside e is in
    record {
      keeping = rw (c.keep-kept.ensures.items, c.keep-kept.ensures.place, goes, rest) next;
      long = sized c.keep-kept.new.list.ok.0 (ap length c.keep-kept.ensures.items ∙ length_kept c.begins_at.result c.loop-at.list.items c.loop-at.kept e) c.loop-at.list.ok.0 ∙ c.loop-at.invariant.long;
      room = c.keep-kept.ensures.room ∙ c.loop-at.invariant.room;
    }

pub returns-then-not-share_key-clause-items : goal.returns-then-not-share_key-clause-items
returns-then-not-share_key-clause-items g c =
    let none = sym c.share_key.ensures ∙ c.if-not-share_key.true in
    sym (all_stay g.G.Keyed.key_of g.K.Keyed.key_of c.args.gone.now c.args.list.now.items (rw c.deref.ensures.value at none))

pub loop-at-init : goal.loop-at-init
loop-at-init g c =
    let h = c.in-Some.ensures in
    record {
      keeping = keeping_from g.K.Keyed.key_of g.G.Keyed.key_of c.args.list.now.items c.args.gone.now c.in-Some.first.now c.count_below-start.result (sym c.in-Some.ensures.value) c.requires.list c.requires.gone
          (rw c.deref-2.ensures.value at c.count_below-start.ensures.within) (λ k d low. rw (← c.key.ensures, ← c.deref-2.ensures.value) (c.count_below-start.ensures.below k d low));
      long = refl;
      room = refl;
    }
