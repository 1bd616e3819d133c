use Rattle.maptypes.proofs.change.Change.new.Goals as goal

pub invariant_of-result : goal.invariant_of-result
invariant_of-result c = record {
  in_order = record {
    pools = record {
      gone = c.in_ok-pools.ensures.gone.ascending;
      come = c.in_ok-pools.ensures.come.ascending;
      grow = c.in_ok-pools.ensures.grow.ascending;
    };
    osds = record { down = c.in_ok-osds.ensures.down.ascending; up = c.in_ok-osds.ensures.up.ascending };
    weights = c.in_ok-weights.ensures.ascending;
    explicit = record { gone = c.in_ok-explicit.ensures.gone.ascending; come = c.in_ok-explicit.ensures.come.ascending };
    items = record { gone = c.in_ok-items.ensures.gone.ascending; come = c.in_ok-items.ensures.come.ascending };
  };
  pools_within = rw c.deref.ensures at c.are_within_limits.ensures;
  growths_within = rw c.deref-2.ensures at c.are_growths.ensures;
  crush_map = c.is_crush_map.ensures;
}
