-- The parts of maps and changes as a text states them: their limits, and what is wrong with them.
use Rattle.std.specs.Prelude.{ℕ, is_some, ℤ, pos, nat_abs, int_le, nat_le, Bool, true, false, not, ◌&&◌, List, length, Option, Some, if◌then◌else◌}
use Rattle.std.specs.List.{list_all, sum_by}
use Rattle.std.specs.Option.{option_map_or}
use Rattle.buckets.specs.Kinds.{most_items}
use Rattle.buckets.specs.Buckets.{is_bucket_id}
use Rattle.mapparts.specs.declared.parts.MapParts.{MapParts}
use Rattle.mapparts.specs.declared.parts.BucketPart.{BucketPart}
use Rattle.mapparts.specs.declared.parts.ItemPart.{ItemPart}
use Rattle.mapparts.specs.declared.parts.RulePart.{RulePart}
use Rattle.mapparts.specs.declared.parts.StepPart.{StepPart}
use Rattle.mapparts.specs.declared.parts.StepPart.TheVariants.{SetChooseTries, SetChooseleafTries, SetChooseleafVaryR, SetChooseleafStable, Take, Choose as Chooses, Emit}
use Rattle.mapparts.specs.declared.parts.PoolPart.{PoolPart}
use Rattle.mapparts.specs.declared.parts.OsdPart.{OsdPart}
use Rattle.mapparts.specs.declared.parts.ExceptionPart.{ExceptionPart}
use Rattle.mapparts.specs.declared.parts.PairPart.{PairPart}
use Rattle.mapparts.specs.declared.parts.GrowPart.{GrowPart}
use Rattle.mapparts.specs.declared.parts.CrushParts.{CrushParts}
use Rattle.mapparts.specs.declared.pg_parts.PgParts.{PgParts}
use Rattle.mapparts.specs.declared.limits.Limits.{Limits}
use Rattle.refusal.specs.declared.refused.Refusal.{Refusal}
use Rattle.refusal.specs.declared.refused.Refusal.TheVariants.{BadLimit, BadPool}
use Rattle.refusal.specs.Outcomes.{refused_unless}
use Rattle.crush.specs.Limits.{max_steps, max_tries, max_vary, max_stable}
use Rattle.buckets.specs.Limits.{lowest_bucket, max_level}
use Rattle.mapparts.specs.Limits.{stock, max_version, max_first_epoch, max_item_weight, max_rule_id, max_pool_id, max_total_groups}
use Rattle.crush.specs.Limits.{full_weight}

-- ---- limits

-- from `low` to `high`, both among them
unfoldable pub is_between : ℤ → ℤ → ℤ → Bool
is_between low high z = int_le low z && int_le z high

-- at least `low` and at most `high` entries
unfoldable pub has_between : {X : Type 0} → ℕ → ℕ → List X → Bool
has_between low high xs = nat_le low (length xs) && nat_le (length xs) high

-- the id of an OSD
unfoldable pub is_osd_id_in : Limits → ℤ → Bool
is_osd_id_in l z = is_between (pos 0) l.osd z

-- an item of a bucket and its weight
unfoldable pub item_fits_in : Limits → ItemPart → Bool
item_fits_in l i = is_between lowest_bucket l.osd i.id && is_between (pos 1) (pos max_item_weight) i.weight

-- a straw2 bucket may have more items than others
unfoldable pub bucket_fits_in : Limits → BucketPart → Bool
bucket_fits_in l b =
    is_bucket_id b.id && is_between (pos 1) (pos max_level) b.level && has_between 1 (most_items b.kind) b.items
    && has_between 0 l.items b.items && list_all (item_fits_in l) b.items

-- a step of a rule
unfoldable pub step_fits_in : Limits → StepPart → Bool
step_fits_in l (SetChooseTries tries) = is_between (pos 1) (pos max_tries) tries
step_fits_in l (SetChooseleafTries tries) = is_between (pos 1) (pos max_tries) tries
step_fits_in l (SetChooseleafVaryR vary) = is_between (pos 0) (pos max_vary) vary
step_fits_in l (SetChooseleafStable stable) = is_between (pos 0) (pos max_stable) stable
step_fits_in l (Take id) = is_bucket_id id
step_fits_in l (Chooses c) = is_between (pos 0) l.count c.count && is_between (pos 0) (pos max_level) c.level
step_fits_in l Emit = true

-- a rule and its steps
unfoldable pub rule_fits_in : Limits → RulePart → Bool
rule_fits_in l r =
    is_between (pos 0) (pos max_rule_id) r.id && has_between 1 max_steps r.steps && list_all (step_fits_in l) r.steps

-- the numbers of groups of a pool, and of those for placement
abbrev pub groups_fit_in : Limits → ℤ → ℤ → Bool
groups_fit_in l pg_num pgp_num = is_between (pos 1) l.groups pg_num && is_between (pos 1) l.groups pgp_num

-- a pool
unfoldable pub pool_fits_in : Limits → PoolPart → Bool
pool_fits_in l p =
    is_between (pos 1) (pos max_pool_id) p.id && groups_fit_in l p.pg_num p.pgp_num
    && is_between (pos 0) (pos max_rule_id) p.rule && is_between (pos 1) l.size p.size

-- an OSD that is listed
unfoldable pub osd_fits_in : Limits → OsdPart → Bool
osd_fits_in l o = is_between (pos 0) l.osd o.id && is_between (pos 0) (pos full_weight) o.weight

-- a group: the id of a pool, and a number of at most 32 bits
unfoldable pub pg_fits : PgParts → Bool
pg_fits g = option_map_or (λ pool. nat_le 1 pool && nat_le pool max_pool_id) g.pool false && is_some g.number

-- by each profile
abbrev pub pg_fits_in : Limits → PgParts → Bool
pg_fits_in l g = pg_fits g

-- a pair of two OSDs
unfoldable pub pair_fits_in : Limits → PairPart → Bool
pair_fits_in l p = is_osd_id_in l p.from && is_osd_id_in l p.to

-- an exception: a group, and no more entries than a group has places, each within the limits
unfoldable pub exception_fits_in : {P : Type 0} → (P → Bool) → Limits → ExceptionPart P → Bool
exception_fits_in within l e = pg_fits e.pg && has_between 0 l.places e.entries && list_all within e.entries

-- no more entries than a list may have, each within the limits
unfoldable pub entries_fit_in : {X : Type 0} → (X → Bool) → Limits → List X → Bool
entries_fit_in within l xs = has_between 0 l.entries xs && list_all within xs

-- the numbers that stand alone
unfoldable pub head_fits_in : Limits → MapParts → Bool
head_fits_in l p =
    is_between (pos 1) (pos max_version) p.version && is_between (pos 1) (pos max_first_epoch) p.epoch
    && is_between (pos 1) l.max_osd p.max_osd

-- how many buckets, rules and pools there are
unfoldable pub lists_fit_in : Limits → MapParts → Bool
lists_fit_in l p = has_between 1 l.buckets p.buckets && has_between 1 l.rules p.rules && has_between 0 l.pools p.pools

-- the numbers of a growth, each by itself
unfoldable pub growth_fits_in : Limits → GrowPart → Bool
growth_fits_in l g =
    is_between (pos 1) (pos max_pool_id) g.pool && groups_fit_in l g.pg_num g.pgp_num

-- all pools together have at most 1,048,576 groups
unfoldable pub has_few_groups : List PoolPart → Bool
has_few_groups pools = nat_le (sum_by (λ p. nat_abs p.pg_num) pools) max_total_groups

-- every number and every length of a CRUSH map
unfoldable pub crush_fits_in : Limits → CrushParts → Bool
crush_fits_in l p =
    has_between 1 l.buckets p.buckets && has_between 1 l.rules p.rules
    && list_all (bucket_fits_in l) p.buckets && list_all (rule_fits_in l) p.rules

-- every number and every length of a map
unfoldable pub parts_fit_in : Limits → MapParts → Bool
parts_fit_in l p =
    head_fits_in l p && lists_fit_in l p && list_all (bucket_fits_in l) p.buckets && list_all (rule_fits_in l) p.rules
    && list_all (pool_fits_in l) p.pools && has_few_groups p.pools && list_all (osd_fits_in l) p.osds
    && entries_fit_in (exception_fits_in (is_osd_id_in l) l) l p.pg_upmap
    && entries_fit_in (exception_fits_in (pair_fits_in l) l) l p.pg_upmap_items

-- ---- the same by the limits of all clusters

-- the id of an OSD
abbrev pub is_osd_id : ℤ → Bool
is_osd_id = is_osd_id_in stock

-- an item of a bucket and its weight
abbrev pub item_fits : ItemPart → Bool
item_fits = item_fits_in stock

-- a bucket and its items
abbrev pub bucket_fits : BucketPart → Bool
bucket_fits = bucket_fits_in stock

-- a step of a rule
abbrev pub step_fits : StepPart → Bool
step_fits = step_fits_in stock

-- a rule and its steps
abbrev pub rule_fits : RulePart → Bool
rule_fits = rule_fits_in stock

-- a pool
abbrev pub pool_fits : PoolPart → Bool
pool_fits = pool_fits_in stock

-- an OSD that is listed
abbrev pub osd_fits : OsdPart → Bool
osd_fits = osd_fits_in stock

-- a pair of two OSDs
abbrev pub pair_fits : PairPart → Bool
pair_fits = pair_fits_in stock

-- an exception of one kind
abbrev pub exception_fits : {P : Type 0} → (P → Bool) → ExceptionPart P → Bool
exception_fits fits e = exception_fits_in fits stock e

-- the exceptions of one kind
abbrev pub exceptions_fit : {P : Type 0} → (P → Bool) → List (ExceptionPart P) → Bool
exceptions_fit fits es = entries_fit_in (exception_fits fits) stock es

-- the numbers that stand alone
abbrev pub head_fits : MapParts → Bool
head_fits = head_fits_in stock

-- how many buckets, rules and pools there are
abbrev pub lists_fit : MapParts → Bool
lists_fit = lists_fit_in stock

-- the numbers of a growth, each by itself
abbrev pub growth_fits : GrowPart → Bool
growth_fits = growth_fits_in stock

-- every number and every length of a CRUSH map
abbrev pub crush_fits : CrushParts → Bool
crush_fits = crush_fits_in stock

-- every number and every length of a map
abbrev pub parts_fit : MapParts → Bool
parts_fit = parts_fit_in stock

-- ---- what is wrong

-- no more groups for placement than groups
unfoldable pub has_enough_groups : PoolPart → Bool
has_enough_groups p = int_le p.pgp_num p.pg_num

-- of a pool by itself: a number outside its limits, else more groups for placement than groups
abbrev pub pool_fault : Limits → PoolPart → Option Refusal
pool_fault l p = if not (pool_fits_in l p) then Some BadLimit else refused_unless (has_enough_groups p) BadPool

-- a growth has no more groups for placement than groups
unfoldable pub grows_evenly : GrowPart → Bool
grows_evenly g = int_le g.pgp_num g.pg_num

-- of a growth by itself, in the same order
abbrev pub growth_fault : Limits → GrowPart → Option Refusal
growth_fault l g = if not (growth_fits_in l g) then Some BadLimit else refused_unless (grows_evenly g) BadPool
