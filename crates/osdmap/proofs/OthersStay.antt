-- A group that is not among the evaluations of a change has the mapped set that it had.
use Rattle.std.proofs.Common.{◌≡◌, ◌∙◌, refl, sym, ap, subst, ℕ, ◌^◌, ◌<◌, ℤ, pos, negsuc, Bool, true, false, eqb, List, [], ◌∷◌, ◌++◌, map, Option, Some, None, unwrap_or, inl, inr, arith}
use Rattle.std.specs.Prelude.{option_and_then}
use Rattle.std.specs.List.{list_any, list_all, find, fold, flat_map}
use Rattle.std.specs.Option.{option_map_or}
use Rattle.std.proofs.lemmas.Bool.{cases_Bool, eqb-true}
use Rattle.std.proofs.lemmas.List.Elements.{All-append}
use Rattle.keylist.specs.Keys.{has_key}
use Rattle.keylist.proofs.Tests.{and_first, and_second}
use Rattle.keylist.proofs.Each.{map-agree}
use Rattle.buckets.specs.declared.bucket.Bucket.{Bucket}
use Rattle.crush.specs.Grammar.{IsLawfulRule, rule_limits_ok, rule_ok, is_rule, takes_known}
use Rattle.crush.specs.Paths as paths
use Rattle.crush.proofs.ReadsReached.{run_reads_reached}
use Rattle.maptypes.specs.declared.change.ChangeParts.{ChangeParts}
use Rattle.maptypes.specs.declared.change.Reweight.{Reweight}
use Rattle.maptypes.specs.declared.pg.Pg.{Pg}
use Rattle.maptypes.specs.declared.rules.NumberedRule.{NumberedRule}
use Rattle.maptypes.specs.Incrementals.{Step}
use Rattle.maptypes.specs.Pools.{PoolFacts, IsWithinLimits}
use Rattle.maptypes.specs.CrushMaps.{is_rule_over, rule_at}
use Rattle.crush.specs.Run.{run_of}
use Rattle.crush.specs.World.{world_of}
use Rattle.maptypes.specs.Exceptions.{said_of, target, sides}
use Rattle.osdmap.specs.Maps.{ClusterMap, pool_at, has_rule, HoldsTogether}
use Rattle.osdmap.specs.Changes.{with_weight, apply}
use Rattle.osdmap.specs.Evals.{reaches_reweighted, is_touched, names_reweighted, concerns}
use Rattle.maptypes.specs.Sets.{kept_places}
use Rattle.osdmap.specs.Placement.{placement_input, group_of, existing_osd, placed_devices, raw_set, steps_of}
use Rattle.osdmap.proofs.Fitting.{not_both, found_of_all}
use Rattle.osdmap.proofs.PlacementLemmas.{found_passes}
use Rattle.osdmap.proofs.Kept.{exists-after}
use Rattle.osdmap.specs.Changes.{change_fault}
use Rattle.osdmap.specs.Evals.{is_evaluated}
use Rattle.osdmap.specs.Placement.{mapped_set}
use Rattle.osdmap.proofs.MappedAlike.{Agree, alike_map_alike}
use Rattle.maptypes.specs.Named.{loses}
use Rattle.maptypes.proofs.NamedParts.{or_first, or_second, IsUnnamed, unnamed, IsUnrenewed, unrenewed}
use Rattle.osdmap.proofs.PartsStay.{pool_stays, explicit_stays, items_stay, weight_stays, IsSame, explicit_agree, items_agree}

-- ---- raw sets

-- a device that is reached gets no other reweight where none that does is reached
unreached : (reach : ℕ → Bool) (ws : List Reweight) (osd : ℕ) → reach osd ≡ true → list_any (λ w. reach w.osd) ws ≡ false → has_key (λ w. w.osd) ws osd ≡ false
unreached reach [] osd is none = refl
unreached reach (w ∷ ws) osd is none =
    let rest = unreached reach ws osd is (or_second (reach w.osd) (list_any (λ v. reach v.osd) ws) none) in
    elim (cases_Bool (eqb w.osd osd)) [
      | inl same ↦ absurd (not_both (reach w.osd) (rw (eqb-true w.osd osd same) is) (or_first (reach w.osd) (list_any (λ v. reach v.osd) ws) none))
      | inr other ↦ rw (other, rest) refl
    ]

-- a rule of a map is lawful
rule_lawful : (buckets : List Bucket) (r : NumberedRule) → is_rule_over buckets r ≡ true → IsLawfulRule r.rule.kind r.rule.steps
unfolding is_rule_over
rule_lawful buckets r ok =
    let first = and_first _ (rule_ok r.rule.kind r.rule.steps buckets) ok in
    let second = and_second _ (rule_ok r.rule.kind r.rule.steps buckets) ok in
    record {
      limits = and_second _ (rule_limits_ok r.rule.steps) first;
      grammar = and_first (is_rule r.rule.kind r.rule.steps) (list_all (takes_known buckets) r.rule.steps) second;
    }

-- two maps of one forest and the same rules, in which no OSD that the rule reaches has another reweight, place alike
placed_alike : (m other : ClusterMap) (ws : List Reweight) (p : PoolFacts) (n : ℕ) → other.buckets ≡ m.buckets → other.rules ≡ m.rules → other.weights ≡ fold with_weight m.weights ws
    → HoldsTogether m → has_rule m.rules p ≡ true → list_any (λ w. paths.reaches m.buckets (steps_of m p) (pos w.osd)) ws ≡ false → placed_devices m p n ≡ placed_devices other p n
unfolding placed_devices
placed_alike m other ws p n buckets rules weights holds has none = rw (buckets, rules, weights) (by_rule (find (λ r. eqb r.id p.rule) m.rules) refl)
  where
    by_rule : (r : Option NumberedRule) → find (λ r'. eqb r'.id p.rule) m.rules ≡ r
        → run_of (world_of m.buckets m.weights (placement_input p n)) (steps_of m p) p.size ≡ run_of (world_of m.buckets (fold with_weight m.weights ws) (placement_input p n)) (steps_of m p) p.size
    by_rule None found = absurd (not_both _ has (rw found refl))
    by_rule (Some r) found =
        let lawful = rule_lawful m.buckets r (found_passes _ (is_rule_over m.buckets) m.rules r found holds.crush.rules_over) in
        let nowhere : list_any (λ w. paths.reaches m.buckets r.rule.steps (pos w.osd)) ws ≡ false = rw found at none in
        rw found (run_reads_reached m.buckets r.rule.kind r.rule.steps m.weights (fold with_weight m.weights ws) (placement_input p n) p.size holds.crush.forest lawful
        (λ osd reached. sym (weight_stays m.weights ws osd (unreached (λ o. paths.reaches m.buckets r.rule.steps (pos o)) ws osd reached nowhere))))

-- the forest and the rules stay where none come
buckets_stay : (m : ClusterMap) (step : Step) → step.change.crush ≡ None → (apply m step).buckets ≡ m.buckets
unfolding apply
buckets_stay m step none = rw none refl

-- without a new CRUSH map the rules stay
rules_stay : (m : ClusterMap) (step : Step) → step.change.crush ≡ None → (apply m step).rules ≡ m.rules
unfolding apply
rules_stay m step none = rw none refl

-- the reweights after a change are those of its entries put over the ones before
weights_are : (m : ClusterMap) (step : Step) → (apply m step).weights ≡ fold with_weight m.weights step.change.weights
unfolding apply
weights_are m step = refl

-- a rule that reaches no reweighted OSD after a change reached none before
unreached_before : (m other : ClusterMap) (c : ChangeParts) (p : PoolFacts) → other.buckets ≡ m.buckets → other.rules ≡ m.rules → reaches_reweighted other c p ≡ false → list_any (λ w. paths.reaches m.buckets (steps_of m p) (pos w.osd)) c.weights ≡ false
unfolding reaches_reweighted
unreached_before m other c p buckets rules none =
    subst (λ (rs : List NumberedRule). list_any (λ w. paths.reaches m.buckets (option_map_or (λ r. r.steps) (rule_at rs p.rule) []) (pos w.osd)) c.weights ≡ false) rules
    (subst (λ (bs : List Bucket). list_any (λ w. paths.reaches bs (steps_of other p) (pos w.osd)) c.weights ≡ false) buckets none)

-- a rule that reaches no reweighted OSD places a group as before
placed_stays : (m : ClusterMap) (step : Step) (p : PoolFacts) (n : ℕ) → HoldsTogether m → has_rule m.rules p ≡ true → step.change.crush ≡ None → reaches_reweighted (apply m step) step.change p ≡ false → placed_devices m p n ≡ placed_devices (apply m step) p n
placed_stays m step p n holds has same none =
    let buckets = buckets_stay m step same in
    let rules = rules_stay m step same in
    placed_alike m (apply m step) step.change.weights p n buckets rules (weights_are m step) holds has (unreached_before m (apply m step) step.change p buckets rules none)

-- who exists is the same before and after a change
existing_stays : (m : ClusterMap) (step : Step) (x : Option ℤ) → option_and_then (existing_osd m) x ≡ option_and_then (existing_osd (apply m step)) x
existing_stays m step None = refl
existing_stays m step (Some (pos osd)) = rw (exists-after m step osd) refl
existing_stays m step (Some (negsuc n)) = refl

-- the raw set of a group stays where no forest comes and the pool's rule reaches no OSD that gets another reweight
pub raw_stays : (m : ClusterMap) (step : Step) (p : PoolFacts) (n : ℕ) → HoldsTogether m → has_rule m.rules p ≡ true → step.change.crush ≡ None → reaches_reweighted (apply m step) step.change p ≡ false → raw_set m p n ≡ raw_set (apply m step) p n
unfolding raw_set
raw_stays m step p n holds has same none =
    let first = map-agree (option_and_then (existing_osd m)) (option_and_then (existing_osd (apply m step))) (existing_stays m step) (placed_devices m p n) in
    ap (kept_places p.kind) (first ∙ ap (map (option_and_then (existing_osd (apply m step)))) (placed_stays m step p n holds has same none))

-- ---- all of it

-- a group that a change does not concern: the change does not name it, and no exception of it names a reweighted OSD
record IsUnconcerned (m : ClusterMap) (c : ChangeParts) (g : Pg) : Type 0 where
  unnamed : IsUnnamed c g
  explicit : names_reweighted target c (said_of m.explicit g) ≡ false
  items : names_reweighted sides c (said_of m.items g) ≡ false

-- that is what the test finds
unconcerned : (m : ClusterMap) (c : ChangeParts) (g : Pg) → concerns m c g ≡ false → IsUnconcerned m c g
unfolding concerns
unconcerned m c g none =
    let two = or_first _ (names_reweighted sides c (said_of m.items g)) none in
    record {
      unnamed = unnamed c g (or_first _ (names_reweighted target c (said_of m.explicit g)) two);
      explicit = or_second _ (names_reweighted target c (said_of m.explicit g)) two;
      items = or_second _ (names_reweighted sides c (said_of m.items g)) none;
    }

-- what does not touch a pool: it does not make the pool anew, and its rule reaches no OSD that gets another reweight
pub record IsUntouched (m : ClusterMap) (c : ChangeParts) (p : PoolFacts) : Type 0 where
  pub pool : IsUnrenewed c p.id
  pub reach : reaches_reweighted m c p ≡ false

-- that is what the test finds
pub untouched : (m : ClusterMap) (c : ChangeParts) (p : PoolFacts) → is_touched m c p ≡ false → IsUntouched m c p
unfolding is_touched
untouched m c p none = record {
  pool = unrenewed c p.id (or_first _ (reaches_reweighted m c p) none);
  reach = or_second _ (reaches_reweighted m c p) none;
}

-- the pool of a change that does not touch it was there
pub pool_there : (m : ClusterMap) (step : Step) (p : PoolFacts) → pool_at (apply m step).pools p.id ≡ Some p → is_touched (apply m step) step.change p ≡ false → (loses step.change p.id ≡ false) × (pool_at m.pools p.id ≡ Some p)
unfolding apply
pool_there m step p found none =
    let quiet = untouched (apply m step) step.change p none in
    pool_stays m step.change p.id p quiet.pool.new quiet.pool.grow found

-- and the reweights of the OSDs that both name
weights_agree : (m : ClusterMap) (step : Step) (g : Pg) → IsUnconcerned (apply m step) step.change g → said_of (apply m step).explicit g ≡ said_of m.explicit g → said_of (apply m step).items g ≡ said_of m.items g
    → Agree m.weights (apply m step).weights (unwrap_or (said_of m.explicit g) [] ++ flat_map sides (unwrap_or (said_of m.items g) []))
unfolding apply
weights_agree m step g none explicit items =
    All-append (IsSame m.weights step.change.weights) (unwrap_or (said_of m.explicit g) []) (flat_map sides (unwrap_or (said_of m.items g) []))
    (explicit_agree m.weights step.change.weights step.change (said_of m.explicit g) refl (rw explicit at none.explicit))
    (items_agree m.weights step.change.weights step.change (said_of m.items g) refl (rw items at none.items))

-- a group of the map after a change that is not among the evaluations of the change was there, with the same mapped set
pub others_stay : (m : ClusterMap) (step : Step) (p : PoolFacts) (n : ℕ) → HoldsTogether m → change_fault m step.change ≡ None → pool_at (apply m step).pools p.id ≡ Some p → n < p.pg_num
    → is_evaluated (apply m step) step.change p n ≡ false → (pool_at m.pools p.id ≡ Some p) × (mapped_set m p n ≡ mapped_set (apply m step) p n)
others_stay m step p n holds lawful found inside none =
    let touched = or_first (is_touched (apply m step) step.change p) (concerns (apply m step) step.change (group_of p n)) none in
    let quiet = unconcerned (apply m step) step.change (group_of p n) (or_second (is_touched (apply m step) step.change p) (concerns (apply m step) step.change (group_of p n)) none) in
    let there = pool_there m step p found touched in
    let limits = found_of_all IsWithinLimits (λ q. eqb q.id p.id) m.pools p there.1 holds.pools.within in
    let few : n < 2 ^ 32 = omega (arith, inside, limits.groups_most) in
    let has = found_passes _ (has_rule m.rules) m.pools p there.1 holds.ruled in
    let explicit = explicit_stays m step (group_of p n) holds few there.0 quiet.unnamed in
    let items = items_stay m step (group_of p n) holds few there.0 quiet.unnamed in (
      there.1,
      alike_map_alike m (apply m step) p p n
          (raw_stays m step p n holds has (untouched (apply m step) step.change p touched).pool.crush (untouched (apply m step) step.change p touched).reach)
          (sym explicit) (sym items) (weights_agree m step (group_of p n) quiet explicit items),
    )
