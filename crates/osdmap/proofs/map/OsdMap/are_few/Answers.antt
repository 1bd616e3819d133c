use Rattle.std.proofs.Common.{◌≡◌, ◌∙◌, ap, rules, subst}
use Rattle.maptypes.specs.declared.change.ChangeParts.{ChangeParts}
use Rattle.mapparts.specs.Profiles.{most_pools}
use Rattle.keylist.specs.Order.{IsRising}
use Rattle.osdmap.specs.Stored.{StoredMap}
use Rattle.osdmap.proofs.CheckLemmas.{rightly-counted, many-counted}
use Rattle.osdmap.proofs.map.OsdMap.are_few.Goals as goal

pub returns-then-kept-most : goal.returns-then-kept-most
returns-then-kept-most c =
    let rises = subst (λ (k : StoredMap). IsRising (λ p. p.id) k.map.pools) c.self.view_is c.self.invariant.pools.rise in
    let most : c.most_pools-most.result ≡ most_pools c.args.change.now.profile = c.most_pools-most.ensures ∙ ap (λ (p : ChangeParts). most_pools p.profile) c.parts-2.ensures.value in
    rw (← most) (rightly-counted c.args.self.now.map c.args.change.now c.most_pools-most.result _ _ rises c.requires c.count_kept-kept.ensures (search rules) c.if-kept-most.true)

pub returns-else-kept-most : goal.returns-else-kept-most
returns-else-kept-most c =
    let rises = subst (λ (k : StoredMap). IsRising (λ p. p.id) k.map.pools) c.self.view_is c.self.invariant.pools.rise in
    let most : c.most_pools-most.result ≡ most_pools c.args.change.now.profile = c.most_pools-most.ensures ∙ ap (λ (p : ChangeParts). most_pools p.profile) c.parts-2.ensures.value in
    rw (← most) (many-counted c.args.self.now.map c.args.change.now c.most_pools-most.result c.count_kept-kept.result rises c.requires c.count_kept-kept.ensures c.if-kept-most.false)
