-- Values within their limits fit as parts.
use Rattle.std.proofs.Common.{◌≡◌, ◌∙◌, ℕ, ◌^◌, ◌≤◌, pos, true, nat_lt, List, [], ◌∷◌, map, length, get_or, nat_abs, refl, arith}
use Rattle.std.specs.List.{list_all, sum_by, All}
use Rattle.std.proofs.lemmas.Bool.Decides.{nat_tests}
use Rattle.std.proofs.lemmas.List.{length-map}
use Rattle.std.proofs.lemmas.List.Elements.{All-weaker}
use Rattle.std.proofs.lemmas.List.Folds.{list_all-map}
use Rattle.std.proofs.lemmas.List.Sums.{get_or-le-sum_by, list_all-from_AllPass}
use Rattle.buckets.specs.declared.bucket.Item.{Item}
use Rattle.buckets.specs.declared.bucket.Bucket.{Bucket}
use Rattle.buckets.specs.declared.bucket.BucketKind.{BucketKind}
use Rattle.buckets.specs.declared.bucket.BucketKind.TheVariants.{Uniform, List as InList, Tree, Straw2}
use Rattle.crush.specs.declared.step.Step.{Step}
use Rattle.crush.specs.declared.step.Step.TheVariants as step
use Rattle.buckets.specs.Items.{weight_of}
use Rattle.buckets.specs.Kinds.{most_items}
use Rattle.buckets.specs.Limits.{is_within}
use Rattle.buckets.specs.Buckets.{is_bucket_id, item_limits_ok, bucket_limits_ok, is_even, weights_ok}
use Rattle.crush.specs.Grammar.{step_limits_ok}
use Rattle.keylist.proofs.Each.{list_all-at, list_all-from}
use Rattle.maptypes.specs.declared.rules.NumberedRule.{NumberedRule}
use Rattle.maptypes.specs.CrushMaps.{is_rule_over}
use Rattle.mapparts.specs.Parts.{is_between, has_between, item_fits, bucket_fits, step_fits, rule_fits, has_few_groups, pool_fits, bucket_fits_in, item_fits_in, pool_fits_in, rule_fits_in, step_fits_in}
use Rattle.osdmap.specs.PartsOf.{item_part, bucket_part, step_part, rule_part, pool_part}
use Rattle.mapparts.specs.declared.parts.PoolPart.{PoolPart}
use Rattle.maptypes.specs.Pools.{PoolFacts, total_groups, IsWithinLimits}
use Rattle.maptypes.proofs.Totals.{sum_by-map}
use Rattle.mapjson.proofs.OwnValues.{natural_fits}
use Rattle.keylist.proofs.Tests.{and_first}
use Rattle.keylist.proofs.Each.{all_more}

-- ---- numbers and counts

-- a number that is tested to be between two limits is, as a stated one
within_fits : (low high n : ℕ) → is_within low high n ≡ true → is_between (pos low) (pos high) (pos n) ≡ true
within_fits low high n h = natural_fits low high n (grind (arith, nat_tests, h)) (grind (arith, nat_tests, h))

-- a list of so many has as many when each is made into something
pub count_fits : {X Y : Type 0} (f : X → Y) (low high : ℕ) (xs : List X) → low ≤ length xs → length xs ≤ high → has_between low high (map f xs) ≡ true
unfolding has_between
count_fits f low high xs least most = rw (length-map xs f) (grind (arith, nat_tests, least, most))

-- so it is where the number is tested
within_counts : {X Y : Type 0} (f : X → Y) (low high : ℕ) (xs : List X) → is_within low high (length xs) ≡ true → has_between low high (map f xs) ≡ true
within_counts f low high xs h = count_fits f low high xs (grind (arith, nat_tests, h)) (grind (arith, nat_tests, h))

-- ---- the forest

-- weights that add up have at most 32 bits
weights_light : (kind : BucketKind) (items : List Item) → weights_ok kind items ≡ true → nat_lt (weight_of items) (2 ^ 32) ≡ true
weights_light Uniform items h = and_first (nat_lt (weight_of items) (2 ^ 32)) (is_even items) h
weights_light InList items h = h
weights_light Tree items h = h
weights_light Straw2 items h = h

-- an item for where there is none
no_item : Item
no_item = record { id = pos 0; weight = 0 }

-- an item within the limits fits a text
item_fine : (i : Item) → item_limits_ok i ≡ true → i.weight ≤ 4294967295 → item_fits (item_part i) ≡ true
unfolding item_fits_in is_between
item_fine i limits light = grind (arith, nat_tests, limits, light)

-- so do all of a bucket
items_fine : (items : List Item) → list_all item_limits_ok items ≡ true → nat_lt (weight_of items) (2 ^ 32) ≡ true → list_all item_fits (map item_part items) ≡ true
items_fine items limits light =
    list_all-map item_fits item_part items
    ∙ list_all-from (λ i. item_fits (item_part i)) items no_item (λ k inside.
    let most = get_or-le-sum_by (λ (i : Item). i.weight) items k no_item inside in
    let few : (get_or items k no_item).weight ≤ 4294967295 = grind (arith, nat_tests, light, most) in
    item_fine (get_or items k no_item) (list_all-at item_limits_ok items k no_item inside limits) few)

-- no kind of bucket has more than 4,096 items
few_items : (kind : BucketKind) → most_items kind ≤ 4096
few_items Uniform = omega arith
few_items InList = omega arith
few_items Tree = omega arith
few_items Straw2 = omega arith

-- a bucket within the limits fits
bucket_fine : (b : Bucket) → bucket_limits_ok b ≡ true → weights_ok b.kind b.items ≡ true → bucket_fits (bucket_part b) ≡ true
unfolding bucket_fits_in
bucket_fine b limits weights =
    let id : is_bucket_id b.id ≡ true = grind (arith, limits) in
    let level = within_fits 1 15 b.level (grind (arith, limits)) in
    let count = within_counts item_part 1 (most_items b.kind) b.items (grind (arith, limits)) in
    let few = count_fits item_part 0 4096 b.items (omega arith) (grind (arith, nat_tests, limits, few_items b.kind)) in
    let items = items_fine b.items (grind (arith, limits)) (weights_light b.kind b.items weights) in
    rw (id, level, count, few, items) refl

-- so do all of a forest
pub buckets_fine : (buckets : List Bucket) → list_all bucket_limits_ok buckets ≡ true → list_all (λ b. weights_ok b.kind b.items) buckets ≡ true → list_all bucket_fits (map bucket_part buckets) ≡ true
buckets_fine [] limits weights = refl
buckets_fine (b ∷ bs) limits weights =
    rw (
      bucket_fine b (grind (arith, limits)) (grind (arith, weights)),
      buckets_fine bs (grind (arith, limits)) (grind (arith, weights)),
    ) refl

-- ---- rules

-- a step within the limits fits
step_fine : (s : Step) → step_limits_ok s ≡ true → step_fits (step_part s) ≡ true
unfolding step_fits_in
step_fine (step.SetChooseTries n) h = natural_fits 1 200 n (grind (arith, nat_tests, h)) (grind (arith, nat_tests, h))
step_fine (step.SetChooseleafTries n) h = natural_fits 1 200 n (grind (arith, nat_tests, h)) (grind (arith, nat_tests, h))
step_fine (step.SetChooseleafVaryR n) h = natural_fits 0 4 n (omega arith) (grind (arith, nat_tests, h))
step_fine (step.SetChooseleafStable n) h = natural_fits 0 1 n (omega arith) (grind (arith, nat_tests, h))
step_fine (step.Take id) h = h
step_fine (step.Choose c) h =
    let count = natural_fits 0 20 c.count (omega arith) (grind (arith, nat_tests, h)) in
    let level = natural_fits 0 15 c.level (omega arith) (grind (arith, nat_tests, h)) in
    rw (count, level) refl
step_fine step.Emit h = refl

-- a rule over some buckets fits
rule_fine : (buckets : List Bucket) (r : NumberedRule) → is_rule_over buckets r ≡ true → rule_fits (rule_part r) ≡ true
unfolding is_rule_over rule_fits_in
rule_fine buckets r h =
    let id = natural_fits 0 255 r.id (omega arith) (grind (arith, nat_tests, h)) in
    let count = within_counts step_part 1 16 r.rule.steps (grind (arith, h)) in
    let steps = list_all-map step_fits step_part r.rule.steps ∙ all_more step_limits_ok (λ s. step_fits (step_part s)) r.rule.steps step_fine (grind (arith, h)) in
    rw (id, count, steps) refl

-- so do all rules
pub rules_fine : (buckets : List Bucket) (rules : List NumberedRule) → list_all (is_rule_over buckets) rules ≡ true → list_all rule_fits (map rule_part rules) ≡ true
rules_fine buckets rules all = list_all-map rule_fits rule_part rules ∙ all_more (is_rule_over buckets) (λ r. rule_fits (rule_part r)) rules (rule_fine buckets) all

-- ---- pools

-- a pool within the limits fits
pool_fine : (p : PoolFacts) → IsWithinLimits p → pool_fits (pool_part p) ≡ true
unfolding pool_fits_in
pool_fine p within =
    let id = natural_fits 1 65535 p.id (omega (arith, within.id_some)) within.id_most in
    let pg_num = natural_fits 1 65536 p.pg_num (omega (arith, within.groups_some, within.groups_few)) within.groups_most in
    let pgp_num = natural_fits 1 65536 p.pgp_num (omega (arith, within.groups_some)) (omega (arith, within.groups_few, within.groups_most)) in
    let rule = natural_fits 0 255 p.rule (omega arith) within.rule_most in
    let size = natural_fits 1 20 p.size (omega (arith, within.size_some)) within.size_most in
    rw (id, pg_num, pgp_num, rule, size) refl

-- so do all pools
pub pools_fine : (pools : List PoolFacts) → All IsWithinLimits pools → list_all pool_fits (map pool_part pools) ≡ true
pools_fine pools within =
    list_all-map pool_fits pool_part pools
    ∙ list_all-from_AllPass (λ p. pool_fits (pool_part p)) pools (All-weaker IsWithinLimits (λ p. pool_fits (pool_part p) ≡ true) pool_fine pools within)

-- and they have as few groups together
pub groups_fine : (pools : List PoolFacts) → total_groups pools ≤ 1048576 → has_few_groups (map pool_part pools) ≡ true
unfolding has_few_groups
groups_fine pools few =
    let same : sum_by (λ (q : PoolPart). nat_abs q.pg_num) (map pool_part pools) ≡ total_groups pools = sum_by-map (λ (q : PoolPart). nat_abs q.pg_num) pool_part pools in
    rw same (grind (arith, nat_tests, few))
