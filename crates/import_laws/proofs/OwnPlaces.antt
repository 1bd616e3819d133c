-- The rule of a map places what CRUSH over the cluster's own map places.
use Rattle.std.proofs.Common.{◌≡◌, ℕ, ◌<◌, ℤ, pos, negsuc, ◌&&◌, ◌||◌, Bool, true, not, cond, eqb, List, [], ◌∷◌, ◌++◌, length, map, Some, None, inl, inr, sym, ap, refl, ◌∙◌, subst, arith, Contains}
use Rattle.std.specs.Prelude.{is_some, slice_get}
use Rattle.std.specs.List.{list_all}
use Rattle.std.proofs.lemmas.Bool.{cases_Bool, and_parts, eqb-true}
use Rattle.std.proofs.lemmas.Bool.Decides.{nat_tests}
use Rattle.std.proofs.lemmas.Int.{ints}
use Rattle.std.proofs.lemmas.List.Elements.{All-tail}
use Rattle.keylist.proofs.Distinct.{list_all-moved}
use Rattle.keylist.proofs.Each.{list_all-at}
use Rattle.buckets.specs.declared.bucket.Bucket.{Bucket}
use Rattle.crush.specs.Forest.{bucket_at}
use Rattle.crush.specs.Grammar.{takes_known, rule_ok}
use Rattle.crush.specs.Run.{Progress, no_progress, run_of}
use Rattle.crush.specs.WellFormed.{has_own_ids}
use Rattle.crush.specs.World.{World, world_of}
use Rattle.crush.proofs.PickableBuckets.{device-has_none}
use Rattle.crush.proofs.Sorted.{own_ids-moved, bucket_at-moved}
use Rattle.crush.proofs.RunsWithin.{TakesIn}
use Rattle.mapparts.specs.declared.parts.MapParts.{MapParts}
use Rattle.mapparts.specs.declared.parts.StepPart.{StepPart}
use Rattle.maptypes.specs.Values.{step_of}
use Rattle.maptypes.specs.declared.rules.NumberedRule.{NumberedRule}
use Rattle.maptypes.specs.CrushMaps.{is_rule_over}
use Rattle.maptypes.specs.Values.{rule_of}
use Rattle.osdmap.specs.Maps.{ClusterMap, HoldsTogether}
use Rattle.osdmap.specs.Stated.{buckets_of, IsStated}
use Rattle.cephmap.specs.declared.crush.Tunables.{Tunables}
use Rattle.cephmap.specs.declared.map.CephMap.{CephMap}
use Rattle.cephmap.specs.declared.pool.Pool.{Pool}
use Rattle.cephmap.specs.declared.rule.Rule.{Rule}
use Rattle.cephmap.specs.declared.rule.Step.{Step}
use Rattle.cephimport.specs.Buckets.{slot_parts, all_parts}
use Rattle.cephimport.specs.FitRules.{has_known_words, has_negative, are_of_size, has_counts}
use Rattle.cephimport.specs.Reach.{in_use, kept}
use Rattle.cephimport.specs.Rules.{size_of, rule_steps, imported_rule, rule_parts}
use Rattle.cephimport.specs.Steps.{idle_ahead, kept_steps}
use Rattle.cephimport.specs.Tuned.{front}
use Rattle.cephimport.specs.Uses.{any_has_rule, is_used}
use Rattle.cephimport.specs.Whole.{imported_parts}
use Rattle.import_laws.specs.Own.{own_buckets_in, own_buckets, own_start, own_run}
use Rattle.import_laws.specs.Runs.{PlaceAlike}
use Rattle.import_laws.proofs.AllSizes.{sizes_same}
use Rattle.import_laws.proofs.OwnBuckets.{kept_of, paired_at, stays_found, IsKnown, stays_known, steps_known, none_of_device, all_of_bucket}
use Rattle.import_laws.proofs.OwnImports.{CameIn, came_in, rules_pass, pool_uses, words_known, counts_known, rule_passes, steps_within, some_places}
use Rattle.import_laws.proofs.OwnFronts.{front_tries, at_front, run_parts, parts_append, front_is, front_unset}
use Rattle.import_laws.proofs.OwnRuns.{AreSound, RunAlike, new_block, runs_same}
use Rattle.import_laws.proofs.PairedWorlds.{IsBeside, beside, ArePaired}

-- ---- one rule

-- a fact of all of some steps is one of those behind others
all_behind : (R : ℤ → Type 0) (first kept : List StepPart) → AreSound R (first ++ kept) → AreSound R kept
all_behind R [] kept h = h
all_behind R (s ∷ first) kept h = all_behind R first kept (record {
  takes = All-tail (TakesIn R) (step_of s) (map step_of (first ++ kept)) h.takes;
  fits = (and_parts _ _ h.fits).1;
})

-- no list without a length has an item
no_items : {X : Type 0} (xs : List X) → eqb (length xs) 0 ≡ true → xs ≡ []
no_items [] e = refl
no_items (x ∷ xs) e = absurd (omega (arith, eqb-true (length (x ∷ xs)) 0 e))

-- both begin alike
begin_alike : (R : ℤ → Type 0) (size : ℕ) (t : Tunables) (steps : List Step) → RunAlike R size (idle_ahead size steps) steps (own_start t) (at_front (front_tries t steps))
begin_alike R size t steps = new_block R size steps (own_start t) (at_front (front_tries t steps)) (inr (front_unset t steps, refl, refl)) refl (omega arith) refl refl

-- the steps that stay are sound where the rule's are
kept_sound : (R : ℤ → Type 0) (t : Tunables) (size : ℕ) (steps : List Step) → AreSound R (rule_steps t size steps) → AreSound R (kept_steps size (idle_ahead size steps) steps)
unfolding rule_steps
kept_sound R t size steps h =
    let kept = kept_steps size (idle_ahead size steps) steps in
    elim (cases_Bool (eqb (length kept) 0)) [
      | inl none ↦ (let e = no_items kept none in subst (AreSound R) (sym e) (subst (AreSound R) (ap (λ c. cond c [] (front t steps ++ kept)) none) h))
      | inr some ↦ all_behind R (front t steps) kept (subst (AreSound R) (ap (λ c. cond c [] (front t steps ++ kept)) some) h)
    ]

-- what a rule of the map emits, it emits behind its front
made_is : (v : World) (size : ℕ) (t : Tunables) (steps : List Step) → run_of v (map step_of (rule_steps t size steps)) size ≡ (run_parts v size (at_front (front_tries t steps)) (kept_steps size (idle_ahead size steps) steps)).emitted
unfolding rule_steps run_of
made_is v size t steps =
    let kept = kept_steps size (idle_ahead size steps) steps in
    let q = at_front (front_tries t steps) in
    elim (cases_Bool (eqb (length kept) 0)) [
      | inl none ↦ rw none (sym (ap (λ ks. (run_parts v size q ks).emitted) (no_items kept none)))
      | inr some ↦ rw some (ap (λ (o : Progress). o.emitted) (parts_append v size no_progress (front t steps) kept ∙ ap (λ o. run_parts v size o kept) (front_is v size t steps)))
    ]

-- a rule places alike in a world beside
pub rule_alike : (R : ℤ → Type 0) (bs : List Bucket) (v : World) (t : Tunables) (size : ℕ) (steps : List Step) → IsBeside R bs v → 0 < size → has_known_words steps ≡ true → AreSound R (rule_steps t size steps) → run_of v (map step_of (rule_steps t size steps)) size ≡ own_run (beside v bs) t steps size
unfolding own_run
rule_alike R bs v t size steps beside_it some known sound =
    made_is v size t steps
    ∙ sym (runs_same R bs v size steps (idle_ahead size steps) (own_start t) (at_front (front_tries t steps)) beside_it some known (kept_sound R t size steps sound) (begin_alike R size t steps))

-- ---- a map that came in

-- the rule that pools of a size have
steps_for : (m : CephMap) (rule : ℕ) (r : Rule) (pool : Pool) → has_counts m.pools rule r.steps ≡ true → Contains m.pools pool → pool.rule ≡ rule → rule_steps m.crush.tunables (size_of m.pools rule) r.steps ≡ rule_steps m.crush.tunables pool.size r.steps
unfolding has_counts
steps_for m rule r pool counts there is = elim (cases_Bool (has_negative r.steps)) [
  | inr none ↦ sizes_same m.crush.tunables (size_of m.pools rule) pool.size r.steps none
  | inl some ↦
      let sized : (any_has_rule m.pools rule && are_of_size m.pools rule (size_of m.pools rule)) ≡ true = rw some at counts in
      let all = (and_parts (any_has_rule m.pools rule) (are_of_size m.pools rule (size_of m.pools rule)) sized).1 in
      let test : Pool → Bool = λ p. not (eqb p.rule rule) || eqb p.size (size_of m.pools rule) in
      let here : test pool ≡ true = rw there.2 at (list_all-at test m.pools there.0 pool there.1 all) in
      let same : size_of m.pools rule ≡ pool.size = grind (arith, nat_tests, is, here) in
      ap (λ n. rule_steps m.crush.tunables n r.steps) same
]

-- a test of what others become
mapped_all : {X Y : Type 0} (f : X → Y) (test : Y → Bool) (xs : List X) → list_all test (map f xs) ≡ true → list_all (λ x. test (f x)) xs ≡ true
mapped_all f test [] e = refl
mapped_all f test (x ∷ xs) e =
    let both = and_parts (test (f x)) (list_all test (map f xs)) e in
    rw both.0 (mapped_all f test xs both.1)

-- the map's rule takes what is in its forest
takes_of : (m : CephMap) (parts : MapParts) (c : ClusterMap) (rule : ℕ) (r : Rule) → CameIn m parts → IsStated parts c → HoldsTogether c → slice_get m.crush.rules rule ≡ Some (record { holds = Some r }) → is_used m.pools rule ≡ true → list_all (takes_known c.buckets) (map step_of (imported_rule m rule r).steps) ≡ true
unfolding is_rule_over imported_parts
takes_of m parts c rule r in_it stated holds at used =
    let test : NumberedRule → Bool = is_rule_over c.buckets in
    let stated_rules : list_all test (map rule_of parts.rules) ≡ true = sym (list_all-moved test (map rule_of parts.rules) c.rules stated.rules) ∙ holds.crush.rules_over in
    let same : rule_parts m ≡ parts.rules = ap (λ (p : MapParts). p.rules) in_it.are in
    let own : list_all (λ q. test (rule_of q)) (rule_parts m) ≡ true = ap (list_all (λ q. test (rule_of q))) same ∙ mapped_all rule_of test parts.rules stated_rules in
    let over : test (rule_of (imported_rule m rule r)) ≡ true = rule_passes m (λ q. test (rule_of q)) rule r own at used in
    let lawful : rule_ok (imported_rule m rule r).kind (map step_of (imported_rule m rule r).steps) c.buckets ≡ true = (and_parts _ _ over).1 in
    (and_parts _ _ lawful).1

-- the buckets of the map are those that stay of the cluster's own
bucket_same : (m : CephMap) (parts : MapParts) (c : ClusterMap) (id : ℤ) → CameIn m parts → IsStated parts c → HoldsTogether c → bucket_at c.buckets id ≡ bucket_at (kept_of (in_use m (all_parts m.crush)) (slot_parts m.crush.weight_sets m.crush.buckets)) id
unfolding imported_parts kept all_parts
bucket_same m parts c id in_it stated holds =
    let own : has_own_ids c.buckets ≡ true = (and_parts _ _ (and_parts _ _ (and_parts _ _ holds.over_osds).0).0).0 in
    let given : has_own_ids (buckets_of parts) ≡ true = sym (own_ids-moved (buckets_of parts) c.buckets stated.buckets) ∙ own in
    bucket_at-moved (buckets_of parts) c.buckets stated.buckets given id
    ∙ ap (λ (p : MapParts). bucket_at (buckets_of p) id) (sym in_it.are)

-- each id that is known leads to a pair, or to none
pairs_of : (m : CephMap) (parts : MapParts) (c : ClusterMap) (id : ℤ) → CameIn m parts → IsStated parts c → HoldsTogether c → IsKnown c.buckets id → ArePaired (bucket_at (own_buckets m.crush) id) (bucket_at c.buckets id)
pairs_of m parts c (pos n) in_it stated holds known =
    let made : bucket_at c.buckets (pos n) ≡ None = device-has_none c.buckets holds.crush.forest (pos n) (pos n) refl (grind (arith, ints)) in
    let own = none_of_device (own_buckets_in m.crush.weight_sets m.crush.buckets) n in
    subst (ArePaired (bucket_at (own_buckets m.crush) (pos n))) (sym made) (subst (λ o. ArePaired o None) (sym own) tt)
pairs_of m parts c (negsuc n) in_it stated holds known =
    let stay = in_use m (all_parts m.crush) in
    let all = slot_parts m.crush.weight_sets m.crush.buckets in
    let same = bucket_same m parts c (negsuc n) in_it stated holds in
    let found : is_some (bucket_at (kept_of stay all) (negsuc n)) ≡ true = sym (ap is_some same) ∙ known in
    let stays = stays_found stay (negsuc n) all found in
    let own = all_of_bucket (own_buckets_in m.crush.weight_sets m.crush.buckets) n in
    subst (ArePaired (bucket_at (own_buckets m.crush) (negsuc n))) (sym same)
    (subst (λ o. ArePaired o (bucket_at (kept_of stay all) (negsuc n))) (sym own) (paired_at stay m.crush.weight_sets (negsuc n) m.crush.buckets stays))

-- the law: where a map comes in, its rules place what CRUSH over the cluster's own places
pub place_alike : PlaceAlike
unfolding imported_rule
place_alike m parts c ok stated holds rule r pool weights x at there is =
    let in_it = came_in m parts ok in
    let pass = rules_pass m in_it.rules in
    let used : is_used m.pools rule ≡ true = rw is at (pool_uses m.pools pool there) in
    let R = IsKnown c.buckets in
    let v = world_of c.buckets weights x in
    let t = m.crush.tunables in
    let steps = rule_steps t (size_of m.pools rule) r.steps in
    let same = steps_for m rule r pool (counts_known m rule r pass at used) there is in
    let known_takes = takes_of m parts c rule r in_it stated holds at used in
    let sound : AreSound R steps = record {
      takes = steps_known c.buckets (map step_of steps) holds.crush.forest known_takes;
      fits = steps_within m parts rule r in_it at used;
    } in
    let beside_it : IsBeside R (own_buckets m.crush) v = record {
      within = stays_known c.buckets weights x holds.crush.forest;
      paired = λ id known. pairs_of m parts c id in_it stated holds known;
    } in
    ap (λ ks. run_of v (map step_of ks) pool.size) same
    ∙ rule_alike R (own_buckets m.crush) v t pool.size r.steps beside_it (some_places m parts pool in_it there) (words_known m rule r pass at used) (subst (AreSound R) same sound)
