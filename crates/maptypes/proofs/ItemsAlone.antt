-- A change of pairs alone, which rise, is made as it is stated.
use Rattle.std.proofs.Common.{◌≡◌, ℕ, List, [], arith}
use Rattle.keylist.specs.Order.{IsRising, SortsBy}
use Rattle.maptypes.specs.declared.change.ChangeParts.{ChangeParts}
use Rattle.maptypes.specs.declared.exception.Exception.{Exception}
use Rattle.maptypes.specs.declared.exception.Pair.{Pair}
use Rattle.maptypes.specs.Exceptions.{pg_key, key_of}
use Rattle.maptypes.specs.Ordered.{IsOrdered}
use Rattle.mapparts.specs.declared.profile.Profile.{Profile}
use Rattle.maptypes.specs.Named.{items_alone}
use Rattle.maptypes.proofs.RisingListsEqual.{sorted_same}

-- the empty list rises
none_rises : {X : Type 0} (key : X → ℕ) → IsRising key []
none_rises key i j d below inside = absurd (omega arith)

-- the empty list is sorted into itself alone
sorts_none : {X : Type 0} (key : X → ℕ) (ys : List X) → SortsBy key [] ys → ys ≡ []
sorts_none key ys sorts = sorted_same key [] ys (none_rises key) sorts

-- a change of pairs that rise is its own order
pub ordered_same : (profile : Profile) (items : List (Exception Pair)) (c : ChangeParts) → IsRising key_of items → IsOrdered (items_alone profile items) c → c ≡ items_alone profile items
ordered_same profile items c rises ordered = λ i. record {
  profile = ordered.profile i;
  pools = record {
    gone = sorts_none (λ id. id) c.pools.gone ordered.pools.gone i;
    come = sorts_none (λ p. p.id) c.pools.come ordered.pools.come i;
    grow = sorts_none (λ g. g.pool) c.pools.grow ordered.pools.grow i;
  };
  crush = ordered.crush i;
  osds = record {
    down = sorts_none (λ osd. osd) c.osds.down ordered.osds.down i;
    up = sorts_none (λ osd. osd) c.osds.up ordered.osds.up i;
  };
  weights = sorts_none (λ w. w.osd) c.weights ordered.weights i;
  explicit = record {
    gone = sorts_none pg_key c.explicit.gone ordered.explicit.gone i;
    come = sorts_none key_of c.explicit.come ordered.explicit.come i;
  };
  items = record {
    gone = sorts_none pg_key c.items.gone ordered.items.gone i;
    come = sorted_same key_of items c.items.come rises ordered.items.come i;
  };
}
