-- Changes that leave all raw sets: only a group whose exceptions they name is placed otherwise, and the map before them
-- says how.
use Rattle.std.proofs.Common.{◌≡◌, ◌∙◌, refl, sym, ap, ℕ, ◌+◌, ◌<◌, Bool, true, false, eqb, List, [], ◌∷◌, length, Option, Some, None, arith}
use mathlib.Core.Bool.{false≢true}
use Rattle.std.specs.Prelude.{IfSome}
use Rattle.std.specs.List.{All}
use Rattle.std.proofs.lemmas.Bool.{eqb-true}
use Rattle.maptypes.specs.declared.change.ChangeParts.{ChangeParts}
use Rattle.maptypes.specs.declared.exception.Pair.{Pair}
use Rattle.maptypes.specs.declared.pg.Pg.{Pg}
use Rattle.maptypes.specs.Exceptions.{said_of}
use Rattle.maptypes.specs.Incrementals.{Step}
use Rattle.maptypes.specs.Named.{NamedRise, explicit_after, items_after, is_empty}
use Rattle.maptypes.proofs.NamedParts.{LeavesRawSets, leaving, none_renewed}
use Rattle.maptypes.specs.Ordered.{IsChange}
use Rattle.maptypes.specs.Pools.{PoolFacts}
use Rattle.osdmap.specs.Maps.{ClusterMap, pool_at, has_rule, HoldsTogether}
use Rattle.osdmap.specs.Changes.{change_fault}
use Rattle.osdmap.specs.Evals.{reaches_reweighted, is_touched}
use Rattle.osdmap.specs.Mapped.{with_exceptions}
use Rattle.osdmap.specs.Placement.{group_of, raw_set, mapped_with, mapped_set, IsPlacedBy as IsPlaced}
use Rattle.osdmap.proofs.PlacementLemmas.{found_passes}
use Rattle.osdmap.proofs.Kept.{HoldsTogether-after}
use Rattle.osdmap.proofs.OthersStay.{raw_stays}
use Rattle.osdmap.proofs.PartsStay.{pools_left, weights_left, explicit_then, items_then}
use Rattle.pgtable.specs.Patches.{changed_map, LeadsFrom, IsSource, concerned_numbers}
use Rattle.pgtable.specs.Candidates.{IsCandidates}
use Rattle.pgtable.proofs.Concerning.{concerned_alike, concerned_found}
use Rattle.pgtable.proofs.Found.{mapped_small}

-- ---- what such a change leaves

-- no pool is touched
pub none_touched : (m : ClusterMap) (c : ChangeParts) (p : PoolFacts) → LeavesRawSets c → is_touched m c p ≡ false
unfolding is_touched reaches_reweighted
none_touched m c p s = rw (none_renewed c p.id s, s.weights) refl

-- a rule reaches no OSD that gets another reweight
none_reached : (m : ClusterMap) (c : ChangeParts) (p : PoolFacts) → LeavesRawSets c → reaches_reweighted m c p ≡ false
unfolding reaches_reweighted
none_reached m c p s = rw s.weights refl

-- the pools stay
pub pools_stay : (m : ClusterMap) (c : ChangeParts) → LeavesRawSets c → (changed_map m c).pools ≡ m.pools
pools_stay m c s = pools_left m (record { epoch = m.epoch + 1; change = c }) s

-- ---- the mapped set of a group after it

-- the raw set of a group stays
raw_stay : (m : ClusterMap) (c : ChangeParts) (p : PoolFacts) (n : ℕ) → LeavesRawSets c → HoldsTogether m → pool_at m.pools p.id ≡ Some p → raw_set m p n ≡ raw_set (changed_map m c) p n
raw_stay m c p n s holds there =
    let has = found_passes _ (has_rule m.rules) m.pools p there holds.ruled in
    raw_stays m (record { epoch = m.epoch + 1; change = c }) p n holds has s.crush (none_reached (changed_map m c) c p s)

-- the same reweights, exceptions and raw set make the same mapped set
all_same : (ws ws' : List ℕ) (explicit explicit' : Option (List ℕ)) (items items' : Option (List Pair)) (raw raw' : List (Option ℕ)) → ws ≡ ws' → explicit ≡ explicit' → items ≡ items' → raw ≡ raw'
    → with_exceptions ws explicit items raw ≡ with_exceptions ws' explicit' items' raw'
all_same ws ws' explicit explicit' items items' raw raw' e f g h = rw (e, f, g, h) refl

-- the raw set under what the change makes of the group's exceptions is its mapped set after the change
mapped_then : (m : ClusterMap) (c : ChangeParts) (p : PoolFacts) (n : ℕ) → LeavesRawSets c → HoldsTogether m → pool_at m.pools p.id ≡ Some p → NamedRise c
    → mapped_with (explicit_after c (said_of m.explicit (group_of p n)) (group_of p n)) (items_after c (said_of m.items (group_of p n)) (group_of p n)) m p n ≡ mapped_set (changed_map m c) p n
unfolding mapped_set
mapped_then m c p n s holds there rise =
    let step : Step = record { epoch = m.epoch + 1; change = c } in
    all_same m.weights (changed_map m c).weights _ (said_of (changed_map m c).explicit (group_of p n)) _ (said_of (changed_map m c).items (group_of p n)) (raw_set m p n) (raw_set (changed_map m c) p n)
    (sym (weights_left m step s)) (sym (explicit_then m step (group_of p n) s rise)) (sym (items_then m step (group_of p n) s rise)) (raw_stay m c p n s holds there)

-- so that is what is placed under these exceptions
pub placed_then : (m : ClusterMap) (c : ChangeParts) (p : PoolFacts) (id n : ℕ) (places : List (Option ℕ)) (explicit : Option (List ℕ)) (items : Option (List Pair)) → LeavesRawSets c → HoldsTogether m → pool_at m.pools p.id ≡ Some p
    → NamedRise c → id ≡ p.id
    → explicit ≡ explicit_after c (said_of m.explicit (record { pool = id; number = n })) (record { pool = id; number = n })
    → items ≡ items_after c (said_of m.items (record { pool = id; number = n })) (record { pool = id; number = n })
    → IsPlaced (mapped_with explicit items) m (record { pool = id; number = n }) places → places ≡ mapped_set (changed_map m c) p n
placed_then m c p id n places explicit items s holds there rise same first second is =
    let found : pool_at m.pools id ≡ Some p = rw same there in
    let made : places ≡ mapped_with explicit items m p n = rw found at is.is in
    made
    ∙ all_same m.weights m.weights explicit (explicit_after c (said_of m.explicit (group_of p n)) (group_of p n)) items (items_after c (said_of m.items (group_of p n)) (group_of p n)) (raw_set m p n) (raw_set m p n) refl (rw same at first) (rw same at second) refl
    ∙ mapped_then m c p n s holds there rise

-- ---- the source of the sets

-- a change that nothing refuses leads to the next map
pub leads_next : (m : ClusterMap) (c : ChangeParts) → change_fault m c ≡ None → IsChange c → HoldsTogether m → LeadsFrom m c (changed_map m c)
leads_next m c lawful is holds = record {
  lawful = lawful;
  is = refl;
  holds = holds;
  holds_after = HoldsTogether-after m (record { epoch = m.epoch + 1; change = c }) lawful is holds;
}

-- what such a set names are OSDs below 4,096
pub small_then : (m : ClusterMap) (c : ChangeParts) (p : PoolFacts) (n : ℕ) (places : List (Option ℕ)) → LeadsFrom m c (changed_map m c) → places ≡ mapped_set (changed_map m c) p n
    → All (λ place. IfSome place (λ osd. osd < 4096)) places
small_then m c p n places leads is = mapped_small (changed_map m c) p n places leads.holds_after is

-- the source has the pools of the map after the change
pub source_pools : (m source : ClusterMap) (c : ChangeParts) (is_after : Bool) → IsSource m c source is_after → source.pools ≡ (changed_map m c).pools
source_pools m source c true is_source = ap (λ n. n.pools) (is_source.after refl)
source_pools m source c false is_source = ap (λ n. n.pools) (is_source.before refl) ∙ sym (pools_stay m c (leaving c (is_source.leaves refl)))

-- by it the change concerns the groups that it concerns by the map after it
pub source_concerned : (m source : ClusterMap) (c : ChangeParts) (p : PoolFacts) (is_after : Bool) → IsSource m c source is_after → concerned_numbers source c p ≡ concerned_numbers (changed_map m c) c p
source_concerned m source c p true is_source = ap (λ n. concerned_numbers n c p) (is_source.after refl)
source_concerned m source c p false is_source = concerned_alike source (changed_map m c) c p (leaving c (is_source.leaves refl)).weights

-- where there is no candidate, the change concerns no group
pub none_concerned : (m : ClusterMap) (c : ChangeParts) (p : PoolFacts) (groups : List Pg) → IsCandidates m c groups → is_empty groups ≡ true → [] ≡ concerned_numbers m c p
none_concerned m c p [] all none = concerned_found m c p [] all.rising all.all
none_concerned m c p (g ∷ gs) all none = absurd (false≢true none)

-- a list of length 0 has no entries
pub no_entries : {X : Type 0} (xs : List X) (n : ℕ) (b : Bool) → b ≡ eqb n 0 → b ≡ true → n ≡ length xs → xs ≡ []
no_entries [] n b is empty long = refl
no_entries (x ∷ xs) n b is empty long = let none : n ≡ 0 = eqb-true n 0 (sym is ∙ empty) in absurd (omega arith)
