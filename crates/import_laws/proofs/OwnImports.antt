-- What an import has seen to where a map comes in.
use Rattle.std.proofs.Common.{◌≡◌, ℕ, zero, suc, ◌+◌, ◌<◌, pos, ◌&&◌, ◌||◌, Bool, true, false, not, cond, eqb, List, [], ◌∷◌, length, map, get_or, Option, Some, None, inl, inr, sym, ap, refl, ◌∙◌, subst, arith, Contains}
use Rattle.std.specs.Prelude.{int_le, slice_get, Result, Ok, Err}
use Rattle.std.specs.List.{list_all, list_any, filter_map, enumerate_from, cons_option}
use Rattle.std.proofs.lemmas.Bool.{cases_Bool, and_parts}
use Rattle.std.proofs.lemmas.Bool.Decides.{nat_tests}
use Rattle.std.proofs.lemmas.Int.{ints}
use Rattle.std.proofs.lemmas.List.Folds.{list_any_at}
use Rattle.mapparts.specs.declared.parts.MapParts.{MapParts}
use Rattle.mapparts.specs.declared.parts.PoolPart.{PoolPart}
use Rattle.mapparts.specs.declared.parts.RulePart.{RulePart}
use Rattle.mapparts.specs.declared.parts.StepPart.{StepPart}
use Rattle.mapparts.specs.declared.parts.StepPart.TheVariants.{SetChooseTries, SetChooseleafTries, SetChooseleafVaryR, SetChooseleafStable, Take, Choose as Chooses, Emit}
use Rattle.mapparts.specs.declared.limits.Limits.{Limits}
use Rattle.mapparts.specs.declared.profile.Profile.{Profile}
use Rattle.mapparts.specs.declared.profile.Profile.TheVariants.{Plain, Stock}
use Rattle.mapparts.specs.Parts.{is_between, step_fits_in, step_fits, rule_fits_in, pool_fits_in, parts_fit_in}
use Rattle.mapparts.specs.Profiles.{limits_of}
use Rattle.cephmap.specs.declared.bucket.Slot.{Slot}
use Rattle.cephmap.specs.declared.map.CephMap.{CephMap}
use Rattle.cephmap.specs.declared.pool.Pool.{Pool}
use Rattle.cephmap.specs.declared.rule.Rule.{Rule}
use Rattle.cephimport.specs.declared.fit_rules.RuleTest.{RuleTest}
use Rattle.cephimport.specs.declared.fit_rules.RuleTest.TheVariants as rules
use Rattle.cephimport.specs.declared.why.StaysOut.{StaysOut}
use Rattle.cephimport.specs.declared.why.StaysOut.TheVariants as out
use Rattle.cephimport.specs.Buckets.{all_parts}
use Rattle.cephimport.specs.FitRules.{passes, has_known_words, has_counts, rule_slot_fails, some_rule_fails}
use Rattle.cephimport.specs.Pools.{imported_pool}
use Rattle.cephimport.specs.Reach.{kept}
use Rattle.cephimport.specs.Rules.{slot_rule, imported_rule, rule_parts}
use Rattle.cephimport.specs.Uses.{has_pools, any_has_rule, is_used}
use Rattle.cephimport.specs.Whole.{buckets_why, rules_why, others_why, first_why, why, profile_of, imported_parts, within_limits, unless_why, imported}

-- ---- a map that came in

-- nothing keeps a map out that came in, and its parts are those of the definition, within their limits
pub record CameIn (m : CephMap) (parts : MapParts) : Type 0 where
  pub rules : rules_why m ≡ None
  pub fits : parts_fit_in (limits_of (profile_of parts.buckets parts.rules)) parts ≡ true
  pub are : imported_parts m (kept m (all_parts m.crush)) ≡ parts

-- what is within limits is as it was
within_is : (p parts : MapParts) → within_limits p ≡ Ok parts → (parts_fit_in (limits_of (profile_of p.buckets p.rules)) p ≡ true) × (p ≡ parts)
unfolding within_limits
within_is p parts e = elim (cases_Bool (parts_fit_in (limits_of (profile_of p.buckets p.rules)) p)) [
  | inl fits ↦ (let same : Ok p ≡ Ok parts = rw fits at e in (fits, cc))
  | inr too_great ↦ (let gone : Err out.Limit ≡ Ok parts = rw too_great at e in absurd (cc))
]

-- where there is a reason there are no parts
unless_is : (o : Option StaysOut) (r : Result MapParts StaysOut) (parts : MapParts) → unless_why o r ≡ Ok parts → (o ≡ None) × (r ≡ Ok parts)
unless_is None r parts e = (refl, e)
unless_is (Some reason) r parts e = absurd (cc)

-- where two reasons are none, each is
first_none : (a b : Option StaysOut) → first_why a b ≡ None → (a ≡ None) × (b ≡ None)
first_none None b e = (refl, e)
first_none (Some reason) b e = absurd (cc)

-- so a map came in by all tests
pub came_in : (m : CephMap) (parts : MapParts) → imported m ≡ Ok parts → CameIn m parts
unfolding imported
came_in m parts e =
    let all = kept m (all_parts m.crush) in
    let made = unless_is (why m all) (within_limits (imported_parts m all)) parts e in
    let within = within_is (imported_parts m all) parts made.1 in
    let reasons = first_none (buckets_why m all) (first_why (rules_why m) (others_why m)) made.0 in
    record {
      rules = (first_none (rules_why m) (others_why m) reasons.1).0;
      fits = subst (λ (p : MapParts). parts_fit_in (limits_of (profile_of p.buckets p.rules)) p ≡ true) within.1 within.0;
      are = within.1;
    }

-- ---- its rules

-- no rule that is used fails a test
pub record PassRules (m : CephMap) : Type 0 where
  pub words : some_rule_fails rules.Words m ≡ false
  pub counts : some_rule_fails rules.Counts m ≡ false

-- a reason by tests, one after another, is none only where all pass
pub rules_pass : (m : CephMap) → rules_why m ≡ None → PassRules m
unfolding rules_why
rules_pass m e =
    let after : (c : Bool) (reason : StaysOut) (later : Option StaysOut) → cond c (Some reason) later ≡ None → (c ≡ false) × (later ≡ None) = after_test in
    let kind = after (some_rule_fails rules.Kind m) out.RuleKind _ e in
    let words = after (some_rule_fails rules.Words m) out.RuleStep _ kind.1 in
    let lengths = after (some_rule_fails rules.Length m) out.RuleLength _ words.1 in
    let counts = after (some_rule_fails rules.Counts m) out.RuleCount _ lengths.1 in
    record { words = words.0; counts = counts.0 }
  where
    after_test : (c : Bool) (reason : StaysOut) (later : Option StaysOut) → cond c (Some reason) later ≡ None → (c ≡ false) × (later ≡ None)
    after_test true reason later e = absurd (cc)
    after_test false reason later e = (refl, e)

-- neither of two tests passes
neither : (a b : Bool) → (a || b) ≡ false → (a ≡ false) × (b ≡ false)
neither true b e = absurd (cc)
neither false b e = (refl, e)

-- a test that passes at no place does not pass at one
none_at : {X : Type 0} (f : ℕ × X → Bool) (xs : List X) (n k : ℕ) (x : X) → list_any f (enumerate_from n xs) ≡ false → slice_get xs k ≡ Some x → f (n + k, x) ≡ false
none_at f [] n k x none at = absurd (cc)
none_at f (y ∷ xs) n zero x none at =
    let same : y ≡ x = cc in
    let place : n + 0 ≡ n = omega arith in
    rw place (rw (sym same) (neither (f (n, y)) (list_any f (enumerate_from (n + 1) xs)) none).0)
none_at f (y ∷ xs) n (suc k) x none at =
    let place : n + suc k ≡ (n + 1) + k = omega arith in
    rw place (none_at f xs (n + 1) k x (neither (f (n, y)) (list_any f (enumerate_from (n + 1) xs)) none).1 at)

-- a rule that is used passes a test that none fails
used_passes : (t : RuleTest) (m : CephMap) (rule : ℕ) (r : Rule) → some_rule_fails t m ≡ false → slice_get m.crush.rules rule ≡ Some (record { holds = Some r }) → is_used m.pools rule ≡ true → passes t m.pools rule r ≡ true
unfolding rule_slot_fails
used_passes t m rule r none at used =
    let f : ℕ × Slot Rule → Bool = λ p. rule_slot_fails t m.pools p.0 p.1 in
    let start : 0 + rule ≡ rule = omega arith in
    let here : rule_slot_fails t m.pools rule (record { holds = Some r }) ≡ false = rw start at (none_at f m.crush.rules 0 rule (record { holds = Some r }) none at) in
    let fails : (is_used m.pools rule && not (passes t m.pools rule r)) ≡ false = here in
    grind (arith, used, fails)

-- a rule is used that a pool has
pub pool_uses : (pools : List Pool) (pool : Pool) → Contains pools pool → is_used pools pool.rule ≡ true
unfolding is_used
pool_uses pools pool there =
    let has : any_has_rule pools pool.rule ≡ true = list_any_at (λ (p : Pool). eqb p.rule pool.rule) pools there.0 pool there.1 (rw there.2 (grind (arith, nat_tests))) in
    rw has (either_way (not (has_pools pools)))
  where
    either_way : (b : Bool) → (b || true) ≡ true
    either_way true = refl
    either_way false = refl

-- its steps are known
pub words_known : (m : CephMap) (rule : ℕ) (r : Rule) → PassRules m → slice_get m.crush.rules rule ≡ Some (record { holds = Some r }) → is_used m.pools rule ≡ true → has_known_words r.steps ≡ true
words_known m rule r pass at used = used_passes rules.Words m rule r pass.words at used

-- and its counts are of pools of one size
pub counts_known : (m : CephMap) (rule : ℕ) (r : Rule) → PassRules m → slice_get m.crush.rules rule ≡ Some (record { holds = Some r }) → is_used m.pools rule ≡ true → has_counts m.pools rule r.steps ≡ true
counts_known m rule r pass at used = used_passes rules.Counts m rule r pass.counts at used

-- a test that all rules of the map pass
all_at : (m : CephMap) (test : RulePart → Bool) (slots : List (Slot Rule)) (n k : ℕ) (s : Slot Rule) (q : RulePart) → list_all test (filter_map (λ p. slot_rule m p.0 p.1) (enumerate_from n slots)) ≡ true → slice_get slots k ≡ Some s → slot_rule m (n + k) s ≡ Some q → test q ≡ true
all_at m test [] n k s q all at is = absurd (cc)
all_at m test (t ∷ slots) n zero s q all at is =
    let same : t ≡ s = cc in
    let place : n + 0 ≡ n = omega arith in
    let here : slot_rule m n t ≡ Some q = ap (slot_rule m n) same ∙ ap (λ i. slot_rule m i s) (sym place) ∙ is in
    let tests : list_all test (cons_option (slot_rule m n t) (filter_map (λ p. slot_rule m p.0 p.1) (enumerate_from (n + 1) slots))) ≡ true = all in
    (and_parts (test q) _ (rw here at tests)).0
all_at m test (t ∷ slots) n (suc k) s q all at is =
    let place : n + suc k ≡ (n + 1) + k = omega arith in
    all_at m test slots (n + 1) k s q (rest_of (slot_rule m n t) (filter_map (λ p. slot_rule m p.0 p.1) (enumerate_from (n + 1) slots)) all) at (ap (λ i. slot_rule m i s) (sym place) ∙ is)
  where
    rest_of : (o : Option RulePart) (rest : List RulePart) → list_all test (cons_option o rest) ≡ true → list_all test rest ≡ true
    rest_of None rest all = all
    rest_of (Some r) rest all = (and_parts (test r) (list_all test rest) all).1

-- one of them passes it
pub rule_passes : (m : CephMap) (test : RulePart → Bool) (rule : ℕ) (r : Rule) → list_all test (rule_parts m) ≡ true → slice_get m.crush.rules rule ≡ Some (record { holds = Some r }) → is_used m.pools rule ≡ true → test (imported_rule m rule r) ≡ true
unfolding rule_parts slot_rule
rule_passes m test rule r all at used =
    let start : 0 + rule ≡ rule = omega arith in
    let is : slot_rule m rule (record { holds = Some r }) ≡ Some (imported_rule m rule r) = ap (λ c. cond c (Some (imported_rule m rule r)) None) used in
    all_at m test m.crush.rules 0 rule (record { holds = Some r }) (imported_rule m rule r) all at (ap (λ i. slot_rule m i (record { holds = Some r })) start ∙ is)

-- ---- within the limits

-- a step within the limits of a profile is within those of all
step_wider : (profile : Profile) (s : StepPart) → step_fits_in (limits_of profile) s ≡ true → step_fits s ≡ true
unfolding step_fits_in is_between
step_wider Stock s e = e
step_wider Plain (SetChooseTries n) e = e
step_wider Plain (SetChooseleafTries n) e = e
step_wider Plain (SetChooseleafVaryR n) e = e
step_wider Plain (SetChooseleafStable n) e = e
step_wider Plain (Take id) e = e
step_wider Plain (Chooses c) e = grind (arith, ints, e)
step_wider Plain Emit e = e

-- so are all steps
steps_wider : (profile : Profile) (steps : List StepPart) → list_all (step_fits_in (limits_of profile)) steps ≡ true → list_all step_fits steps ≡ true
steps_wider profile [] e = refl
steps_wider profile (s ∷ steps) e =
    let both = and_parts (step_fits_in (limits_of profile) s) (list_all (step_fits_in (limits_of profile)) steps) e in
    rw (step_wider profile s both.0) (steps_wider profile steps both.1)

-- parts within limits have such rules and pools
parts_within : (l : Limits) (p : MapParts) → parts_fit_in l p ≡ true → (list_all (rule_fits_in l) p.rules ≡ true) × (list_all (pool_fits_in l) p.pools ≡ true)
unfolding parts_fit_in
parts_within l p e = (grind (arith, e), grind (arith, e))

-- the steps of a rule within limits are
rule_within : (l : Limits) (r : RulePart) → rule_fits_in l r ≡ true → list_all (step_fits_in l) r.steps ≡ true
unfolding rule_fits_in
rule_within l r e = (and_parts _ _ e).1

-- the steps of the map's rule are within the limits
pub steps_within : (m : CephMap) (parts : MapParts) (rule : ℕ) (r : Rule) → CameIn m parts → slice_get m.crush.rules rule ≡ Some (record { holds = Some r }) → is_used m.pools rule ≡ true → list_all step_fits (imported_rule m rule r).steps ≡ true
unfolding imported_parts
steps_within m parts rule r in_it at used =
    let profile = profile_of parts.buckets parts.rules in
    let l = limits_of profile in
    let all = (parts_within l parts in_it.fits).0 in
    let same : rule_parts m ≡ parts.rules = ap (λ (p : MapParts). p.rules) in_it.are in
    let own : list_all (rule_fits_in l) (rule_parts m) ≡ true = ap (list_all (rule_fits_in l)) same ∙ all in
    steps_wider profile (imported_rule m rule r).steps (rule_within l (imported_rule m rule r) (rule_passes m (rule_fits_in l) rule r own at used))

-- a pool has a place
size_within : (l : Limits) (p : Pool) → pool_fits_in l (imported_pool p) ≡ true → 0 < p.size
unfolding pool_fits_in imported_pool is_between
size_within l p e =
    let low : int_le (pos 1) (pos p.size) ≡ true = grind (arith, e) in
    grind (arith, ints, low)

-- a test of what others become
mapped_at : (test : PoolPart → Bool) (pools : List Pool) (k : ℕ) (pool : Pool) → list_all test (map imported_pool pools) ≡ true → k < length pools → get_or pools k pool ≡ pool → test (imported_pool pool) ≡ true
mapped_at test [] k pool all within at = absurd (omega arith)
mapped_at test (p ∷ pools) zero pool all within at = rw (ap imported_pool at) at ((and_parts (test (imported_pool p)) (list_all test (map imported_pool pools)) all).0)
mapped_at test (p ∷ pools) (suc k) pool all within at = mapped_at test pools k pool (and_parts (test (imported_pool p)) (list_all test (map imported_pool pools)) all).1 (omega arith) at

-- so each pool has
pub some_places : (m : CephMap) (parts : MapParts) (pool : Pool) → CameIn m parts → Contains m.pools pool → 0 < pool.size
unfolding imported_parts
some_places m parts pool in_it there =
    let l = limits_of (profile_of parts.buckets parts.rules) in
    let all = (parts_within l parts in_it.fits).1 in
    let same : map imported_pool m.pools ≡ parts.pools = ap (λ (p : MapParts). p.pools) in_it.are in
    size_within l pool (mapped_at (pool_fits_in l) m.pools there.0 pool (ap (list_all (pool_fits_in l)) same ∙ all) there.1 there.2)
