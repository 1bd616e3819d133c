use Rattle.std.proofs.Common.{◌≡◌, ◌∙◌, ◌≤◌, ap, sym, subst, refl, rules, arith, length}
use Rattle.osdmap.specs.Maps.{ClusterMap, HoldsTogether}
use Rattle.osdmap.specs.Stored.{StoredMap}
use Rattle.maptypes.specs.CrushMaps.{CrushFacts}
use Rattle.maptypes.specs.Incrementals.{Step}
use Rattle.maptypes.specs.Ordered.{IsChange}
use Rattle.osdmap.specs.Changes.{apply}
use Rattle.osdmap.proofs.Accepted.{accepted}
use Rattle.osdmap.proofs.AfterLemmas.{length-with_up}
use Rattle.maptypes.proofs.NamedParts.{comes}
use Rattle.osdmap.proofs.Named.{all_below}
use Rattle.osdmap.proofs.Kept.{HoldsTogether-after, assembled, buckets-ready, rules-ready}
use Rattle.osdmap.proofs.map.OsdMap.change_to.Goals as goal

pub change_pools-requires-clause-come : goal.change_pools-requires-clause-come
change_pools-requires-clause-come c =
    rw c.parts-parts.ensures.value (comes c.args.change.now (accepted c.args.self.now.map c.args.change.now c.requires.lawful).once c.parts-parts.ensures.in_order).pools

pub set_up-requires : goal.set_up-requires
set_up-requires c =
    let sized : length c.args.self.now.map.presences ≤ length c.self.inside.presences = subst (λ (k : StoredMap). length k.map.presences ≤ length c.self.inside.presences) c.self.view_is (omega arith) in
    let below = all_below c.args.self.now.map c.args.change.now (length c.self.inside.presences) sized (accepted _ _ c.requires.lawful).osds in
    rw (c.deref.ensures, c.parts-parts.ensures.value) below.down

pub set_up-requires-2 : goal.set_up-requires-2
set_up-requires-2 c =
    let sized : length c.args.self.now.map.presences ≤ length c.self.inside.presences = subst (λ (k : StoredMap). length k.map.presences ≤ length c.self.inside.presences) c.self.view_is (omega arith) in
    let below = all_below c.args.self.now.map c.args.change.now (length c.self.inside.presences) sized (accepted _ _ c.requires.lawful).osds in
    rw (c.deref-2.ensures, c.parts-parts.ensures.value, c.set_up.ensures, length-with_up) below.up

pub set_weights-requires : goal.set_weights-requires
set_weights-requires c =
    let sized : length c.args.self.now.map.presences ≤ length c.self.inside.presences = subst (λ (k : StoredMap). length k.map.presences ≤ length c.self.inside.presences) c.self.view_is (omega arith) in
    let below = all_below c.args.self.now.map c.args.change.now (length c.self.inside.presences) sized (accepted _ _ c.requires.lawful).osds in
    rw (c.deref-3.ensures, c.parts-parts.ensures.value, c.self.invariant.osds.weighed) below.weight

pub change_exceptions-requires : goal.change_exceptions-requires
change_exceptions-requires c =
    let new = (comes c.args.change.now (accepted c.args.self.now.map c.args.change.now c.requires.lawful).once c.parts-parts.ensures.in_order).upmap in
    let order = c.parts-parts.ensures.in_order in
    let room = rw (← c.self.view_is) at c.requires.room in (
      search rules,
      (
        c.self.invariant.explicit.rise,
        (
          rw (c.deref-4.ensures, c.parts-parts.ensures.value) order.pools.gone,
          (
            rw c.parts-parts.ensures.value order.explicit.gone,
            (rw c.parts-parts.ensures.value new, rw c.parts-parts.ensures.value (omega (arith, room.explicit, c.self.inside.explicit.ok.0))),
          ),
        ),
      ),
    )

pub change_exceptions-requires-2 : goal.change_exceptions-requires-2
change_exceptions-requires-2 c =
    let new = (comes c.args.change.now (accepted c.args.self.now.map c.args.change.now c.requires.lawful).once c.parts-parts.ensures.in_order).items in
    let order = c.parts-parts.ensures.in_order in
    let room = rw (← c.self.view_is) at c.requires.room in (
      search rules,
      (
        c.self.invariant.items.rise,
        (
          rw (c.deref-5.ensures, c.parts-parts.ensures.value) order.pools.gone,
          (
            rw c.parts-parts.ensures.value order.items.gone,
            (rw c.parts-parts.ensures.value new, rw c.parts-parts.ensures.value (omega (arith, room.items, c.self.inside.items.ok.0))),
          ),
        ),
      ),
    )

-- the map that is made is that after the change
made : (c : goal.After-change_exceptions-2) → ◌≡◌ {A = ClusterMap}
    (record {
      epoch = c.args.epoch;
      buckets = c.replace.new.crush.buckets;
      rules = c.replace.new.crush.rules;
      pools = c.change_pools.new.pools.items;
      presences = c.set_up-2.new.presences;
      weights = c.set_weights.new.weights;
      explicit = c.change_exceptions.new.exceptions.items;
      items = c.change_exceptions-2.new.exceptions.items;
    })
    (apply c.args.self.now.map (record { epoch = c.args.epoch; change = c.args.change.now }))
made c =
    let ready : c.self.inside.ready ≡ c.args.change.now.crush = ap (λ (k : StoredMap). k.room.crush) c.self.view_is ∙ c.requires.room.crush in
    let value = c.parts-parts.ensures.value in
    rw (← c.self.view_is)
    (assembled _ _ _ (record {
      epoch = refl;
      buckets = ap (λ (k : CrushFacts). k.buckets) c.replace.ensures.crush ∙ rw (buckets-ready c.self.inside.ready c.self.inside.crush, ready) refl;
      rules = ap (λ (k : CrushFacts). k.rules) c.replace.ensures.crush ∙ rw (rules-ready c.self.inside.ready c.self.inside.crush, ready) refl;
      pools = rw value at c.change_pools.ensures;
      presences = rw (c.set_up.ensures, c.deref.ensures, c.deref-2.ensures, value) at c.set_up-2.ensures;
      weights = rw (c.deref-3.ensures, value) at c.set_weights.ensures;
      explicit = rw (c.deref-4.ensures, value) at c.change_exceptions.ensures;
      items = rw (c.deref-5.ensures, value) at c.change_exceptions-2.ensures;
    }))

pub invariant_of-self : goal.invariant_of-self
invariant_of-self c =
    let step : Step = record { epoch = c.args.epoch; change = c.args.change.now } in
    let is : IsChange c.args.change.now = record { in_order = c.parts-parts.ensures.in_order; pools_within = c.parts-parts.ensures.pools_within; growths_within = c.parts-parts.ensures.growths_within; crush_map = c.parts-parts.ensures.crush_map } in
    let held = subst (λ (k : StoredMap). HoldsTogether k.map) c.self.view_is c.self.invariant in
    subst HoldsTogether (sym (made c)) (HoldsTogether-after c.args.self.now.map step c.requires.lawful is held)

pub returns : goal.returns
returns c = made c
