use Rattle.std.proofs.Common.{rules, tests, ap}
use Rattle.maptypes.specs.Pools.{PoolFacts}
use Rattle.std.specs.Prelude.{ℕ, not}
use Rattle.std.proofs.lemmas.Iterator.{YieldsList-from_slice}
use Rattle.std.proofs.lemmas.Iterator.Consumers.{YieldsList-from_filter}
use Rattle.std.proofs.lemmas.Iterator.Search.{all_from_yields_List}
use Rattle.keylist.specs.Keys.{has_key}
use Rattle.osdmap.specs.Maps.{has_rule}
use Rattle.osdmap.specs.Stored.{StoredMap}
use Rattle.osdmap.proofs.CheckLemmas.{kept-is}
use Rattle.osdmap.proofs.map.OsdMap.keep_rules.Goals as goal

pub returns : goal.returns
returns c =
    let pools = ap (λ (k : StoredMap). k.map.pools) c.self.view_is in
    rw (kept-is c.args.self.now.map c.args.change.now) (all_from_yields_List (has_rule c.args.rules.now) _ _ c.all.result c.all.ensures.ran (YieldsList-from_filter _ (λ (q : PoolFacts). not (has_key (λ (k : ℕ). k) c.args.change.now.pools.gone q.id)) (YieldsList-from_slice c.args.self.now.map.pools (cc pools)) c.filter.ensures.closure (λ x b q k. search (rules, tests))) (λ x b q k. search (rules, tests)))
