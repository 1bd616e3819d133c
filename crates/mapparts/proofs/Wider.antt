-- What is within the limits of plain clusters is within those of all.
use Rattle.std.proofs.Common.{◌≡◌, ℕ, ◌≤◌, ℤ, pos, negsuc, Bool, true, List, Option, Some, None, refl, arith}
use Rattle.std.proofs.lemmas.Bool.{and_parts, and_from}
use Rattle.std.proofs.lemmas.Bool.Decides.{nat_tests}
use Rattle.std.specs.List.{list_all}
use Rattle.std.specs.Option.{option_map_or}
use Rattle.keylist.proofs.Each.{all_more}
use Rattle.mapparts.specs.declared.profile.Profile.{Profile}
use Rattle.mapparts.specs.declared.profile.Profile.TheVariants.{Plain, Stock}
use Rattle.mapparts.specs.declared.change.PoolChanges.{PoolChanges}
use Rattle.mapparts.specs.declared.change.OsdChanges.{OsdChanges}
use Rattle.mapparts.specs.declared.change.ExceptionChanges.{ExceptionChanges}
use Rattle.mapparts.specs.declared.change.RawChange.{RawChange}
use Rattle.mapparts.specs.declared.change.ReweightPart.{ReweightPart}
use Rattle.mapparts.specs.declared.parts.MapParts.{MapParts}
use Rattle.mapparts.specs.declared.parts.CrushParts.{CrushParts}
use Rattle.mapparts.specs.declared.parts.BucketPart.{BucketPart}
use Rattle.mapparts.specs.declared.parts.ItemPart.{ItemPart}
use Rattle.mapparts.specs.declared.parts.RulePart.{RulePart}
use Rattle.mapparts.specs.declared.parts.StepPart.{StepPart}
use Rattle.mapparts.specs.declared.parts.StepPart.TheVariants.{SetChooseTries, SetChooseleafTries, SetChooseleafVaryR, SetChooseleafStable, Take, Choose as Chooses, Emit}
use Rattle.mapparts.specs.declared.parts.PoolPart.{PoolPart}
use Rattle.mapparts.specs.declared.parts.GrowPart.{GrowPart}
use Rattle.mapparts.specs.declared.parts.OsdPart.{OsdPart}
use Rattle.mapparts.specs.declared.parts.ExceptionPart.{ExceptionPart}
use Rattle.mapparts.specs.declared.parts.PairPart.{PairPart}
use Rattle.mapparts.specs.declared.pg_parts.PgParts.{PgParts}
use Rattle.mapparts.specs.Limits.{plain, stock}
use Rattle.mapparts.specs.Profiles.{limits_of}
use Rattle.mapparts.specs.Parts.{is_between, has_between, is_osd_id_in, item_fits_in, bucket_fits_in, step_fits_in, rule_fits_in, pool_fits_in, osd_fits_in, pg_fits, pair_fits_in, exception_fits_in, entries_fit_in, head_fits_in, lists_fit_in, growth_fits_in, crush_fits_in, parts_fit_in, has_few_groups}
use Rattle.mapparts.specs.Changes.{is_pool_id, reweight_fits_in, pool_ids_fit_in, pool_changes_fit_in, osd_changes_fit_in, exception_changes_fit_in, change_fits_in}

-- a number within a lower bound is within a higher one
wider_between : (low : ℤ) (a b : ℕ) (z : ℤ) → a ≤ b → is_between low (pos a) z ≡ true → is_between low (pos b) z ≡ true
unfolding is_between
wider_between low a b (pos n) more h = grind (arith, nat_tests)
wider_between low a b (negsuc n) more h = h

-- so is a count
wider_count : {X : Type 0} (low a b : ℕ) (xs : List X) → a ≤ b → has_between low a xs ≡ true → has_between low b xs ≡ true
unfolding has_between
wider_count low a b xs more h = grind (arith, nat_tests)

-- an OSD's id
osd_wider : (z : ℤ) → is_osd_id_in plain z ≡ true → is_osd_id_in stock z ≡ true
unfolding is_osd_id_in
osd_wider z h = wider_between (pos 0) 1023 4095 z (omega arith) h

-- a pair
pair_wider : (p : PairPart) → pair_fits_in plain p ≡ true → pair_fits_in stock p ≡ true
unfolding pair_fits_in
pair_wider p h =
    let from : is_osd_id_in plain p.from ≡ true = grind arith in
    let to : is_osd_id_in plain p.to ≡ true = grind arith in
    rw (osd_wider p.from from, osd_wider p.to to) refl

-- a pool
pub pool_wider : (p : PoolPart) → pool_fits_in plain p ≡ true → pool_fits_in stock p ≡ true
unfolding pool_fits_in
pool_wider p h =
    let id : is_between (pos 1) (pos 65535) p.id ≡ true = grind arith in
    let pg_num : is_between (pos 1) (pos 4096) p.pg_num ≡ true = grind arith in
    let pgp_num : is_between (pos 1) (pos 4096) p.pgp_num ≡ true = grind arith in
    let rule : is_between (pos 0) (pos 255) p.rule ≡ true = grind arith in
    let size : is_between (pos 1) (pos 10) p.size ≡ true = grind arith in
    rw (
      id,
      wider_between (pos 1) 4096 65536 p.pg_num (omega arith) pg_num,
      wider_between (pos 1) 4096 65536 p.pgp_num (omega arith) pgp_num,
      rule,
      wider_between (pos 1) 10 20 p.size (omega arith) size,
    ) refl

-- a growth
pub growth_wider : (g : GrowPart) → growth_fits_in plain g ≡ true → growth_fits_in stock g ≡ true
unfolding growth_fits_in
growth_wider g h =
    let pool : is_between (pos 1) (pos 65535) g.pool ≡ true = grind arith in
    let pg_num : is_between (pos 1) (pos 4096) g.pg_num ≡ true = grind arith in
    let pgp_num : is_between (pos 1) (pos 4096) g.pgp_num ≡ true = grind arith in
    rw (
      pool,
      wider_between (pos 1) 4096 65536 g.pg_num (omega arith) pg_num,
      wider_between (pos 1) 4096 65536 g.pgp_num (omega arith) pgp_num,
    ) refl

-- a reweight
reweight_wider : (w : ReweightPart) → reweight_fits_in plain w ≡ true → reweight_fits_in stock w ≡ true
unfolding reweight_fits_in
reweight_wider w h =
    let osd : is_osd_id_in plain w.osd ≡ true = grind arith in
    let weight : is_between (pos 0) (pos 4294967295) w.weight ≡ true = grind arith in
    rw (osd_wider w.osd osd, weight) refl

-- an OSD that is listed
listed_wider : (o : OsdPart) → osd_fits_in plain o ≡ true → osd_fits_in stock o ≡ true
unfolding osd_fits_in
listed_wider o h =
    let id : is_between (pos 0) (pos 1023) o.id ≡ true = grind arith in
    let weight : is_between (pos 0) (pos 65536) o.weight ≡ true = grind arith in
    rw (wider_between (pos 0) 1023 4095 o.id (omega arith) id, weight) refl

-- an item
item_wider : (i : ItemPart) → item_fits_in plain i ≡ true → item_fits_in stock i ≡ true
unfolding item_fits_in
item_wider i h =
    let id : is_between (negsuc 65535) (pos 1023) i.id ≡ true = grind arith in
    let weight : is_between (pos 1) (pos 4294967295) i.weight ≡ true = grind arith in
    rw (wider_between (negsuc 65535) 1023 4095 i.id (omega arith) id, weight) refl

-- a bucket
bucket_wider : (b : BucketPart) → bucket_fits_in plain b ≡ true → bucket_fits_in stock b ≡ true
unfolding bucket_fits_in
bucket_wider b h =
    let few : has_between 0 64 b.items ≡ true = grind arith in
    let items : list_all (item_fits_in plain) b.items ≡ true = grind arith in
    let more : has_between 0 4096 b.items ≡ true = wider_count 0 64 4096 b.items (omega arith) few in
    let all : list_all (item_fits_in stock) b.items ≡ true = all_more (item_fits_in plain) (item_fits_in stock) b.items item_wider items in
    grind (arith, more, all)

-- a step
step_wider : (s : StepPart) → step_fits_in plain s ≡ true → step_fits_in stock s ≡ true
unfolding step_fits_in
step_wider (SetChooseTries n) h = h
step_wider (SetChooseleafTries n) h = h
step_wider (SetChooseleafVaryR n) h = h
step_wider (SetChooseleafStable n) h = h
step_wider (Take id) h = h
step_wider (Chooses c) h =
    let count : is_between (pos 0) (pos 10) c.count ≡ true = grind arith in
    let level : is_between (pos 0) (pos 15) c.level ≡ true = grind arith in
    rw (wider_between (pos 0) 10 20 c.count (omega arith) count, level) refl
step_wider Emit h = refl

-- a rule
rule_wider : (r : RulePart) → rule_fits_in plain r ≡ true → rule_fits_in stock r ≡ true
unfolding rule_fits_in
rule_wider r h =
    let steps : list_all (step_fits_in plain) r.steps ≡ true = grind arith in
    let all : list_all (step_fits_in stock) r.steps ≡ true = all_more (step_fits_in plain) (step_fits_in stock) r.steps step_wider steps in
    grind (arith, all)

-- an exception
exception_wider : {P : Type 0} (narrow wide : P → Bool) → ((p : P) → narrow p ≡ true → wide p ≡ true) → (e : ExceptionPart P)
    → exception_fits_in narrow plain e ≡ true → exception_fits_in wide stock e ≡ true
unfolding exception_fits_in
exception_wider narrow wide more e h =
    let pg : pg_fits e.pg ≡ true = grind arith in
    let few : has_between 0 10 e.entries ≡ true = grind arith in
    let entries : list_all narrow e.entries ≡ true = grind arith in
    rw (pg, wider_count 0 10 20 e.entries (omega arith) few, all_more narrow wide e.entries more entries) refl

-- a list
entries_wider : {X : Type 0} (narrow wide : X → Bool) → ((x : X) → narrow x ≡ true → wide x ≡ true) → (xs : List X)
    → entries_fit_in narrow plain xs ≡ true → entries_fit_in wide stock xs ≡ true
unfolding entries_fit_in
entries_wider narrow wide more xs h =
    let few : has_between 0 131072 xs ≡ true = grind arith in
    let all : list_all narrow xs ≡ true = grind arith in
    rw (wider_count 0 131072 1048576 xs (omega arith) few, all_more narrow wide xs more all) refl

-- explicit sets, and pairs
sets_wider : (es : List (ExceptionPart ℤ)) → entries_fit_in (exception_fits_in (is_osd_id_in plain) plain) plain es ≡ true
    → entries_fit_in (exception_fits_in (is_osd_id_in stock) stock) stock es ≡ true
sets_wider es h =
    entries_wider (exception_fits_in (is_osd_id_in plain) plain) (exception_fits_in (is_osd_id_in stock) stock) (exception_wider (is_osd_id_in plain) (is_osd_id_in stock) osd_wider) es h

-- pairs within the limits of plain clusters are within those of all
pairs_wider : (es : List (ExceptionPart PairPart)) → entries_fit_in (exception_fits_in (pair_fits_in plain) plain) plain es ≡ true
    → entries_fit_in (exception_fits_in (pair_fits_in stock) stock) stock es ≡ true
pairs_wider es h =
    entries_wider (exception_fits_in (pair_fits_in plain) plain) (exception_fits_in (pair_fits_in stock) stock) (exception_wider (pair_fits_in plain) (pair_fits_in stock) pair_wider) es h

-- a CRUSH map
crush_wider : (c : CrushParts) → crush_fits_in plain c ≡ true → crush_fits_in stock c ≡ true
unfolding crush_fits_in
crush_wider c h =
    let buckets : has_between 1 512 c.buckets ≡ true = grind arith in
    let rules : has_between 1 32 c.rules ≡ true = grind arith in
    let each_bucket : list_all (bucket_fits_in plain) c.buckets ≡ true = grind arith in
    let each_rule : list_all (rule_fits_in plain) c.rules ≡ true = grind arith in
    rw (
      wider_count 1 512 4096 c.buckets (omega arith) buckets,
      wider_count 1 32 256 c.rules (omega arith) rules,
      all_more (bucket_fits_in plain) (bucket_fits_in stock) c.buckets bucket_wider each_bucket,
      all_more (rule_fits_in plain) (rule_fits_in stock) c.rules rule_wider each_rule,
    ) refl

-- a CRUSH map of a change, where it has one
new_crush_wider : (c : Option CrushParts) → option_map_or (crush_fits_in plain) c true ≡ true → option_map_or (crush_fits_in stock) c true ≡ true
new_crush_wider None h = refl
new_crush_wider (Some c) h = crush_wider c h

-- what a change does with pools
pool_changes_wider : (c : PoolChanges ℤ PoolPart GrowPart) → pool_changes_fit_in plain c ≡ true → pool_changes_fit_in stock c ≡ true
pool_changes_wider c h =
    let few : has_between 0 131072 c.gone ≡ true = grind arith in
    let ids : list_all is_pool_id c.gone ≡ true = grind arith in
    let come : entries_fit_in (pool_fits_in plain) plain c.come ≡ true = grind arith in
    let grow : entries_fit_in (growth_fits_in plain) plain c.grow ≡ true = grind arith in
    rw (
      wider_count 0 131072 1048576 c.gone (omega arith) few,
      ids,
      entries_wider (pool_fits_in plain) (pool_fits_in stock) pool_wider c.come come,
      entries_wider (growth_fits_in plain) (growth_fits_in stock) growth_wider c.grow grow,
    ) refl

-- with OSDs
osd_changes_wider : (c : OsdChanges ℤ) → osd_changes_fit_in plain c ≡ true → osd_changes_fit_in stock c ≡ true
osd_changes_wider c h =
    let down : entries_fit_in (is_osd_id_in plain) plain c.down ≡ true = grind arith in
    let up : entries_fit_in (is_osd_id_in plain) plain c.up ≡ true = grind arith in
    rw (
      entries_wider (is_osd_id_in plain) (is_osd_id_in stock) osd_wider c.down down,
      entries_wider (is_osd_id_in plain) (is_osd_id_in stock) osd_wider c.up up,
    ) refl

-- exceptions of one kind that a change takes away and brings
exception_changes_wider : {P : Type 0} (narrow wide : P → Bool) → ((p : P) → narrow p ≡ true → wide p ≡ true) → (c : ExceptionChanges PgParts (ExceptionPart P))
    → exception_changes_fit_in narrow plain c ≡ true → exception_changes_fit_in wide stock c ≡ true
exception_changes_wider narrow wide more c h =
    let both = and_parts (entries_fit_in pg_fits plain c.gone) (entries_fit_in (exception_fits_in narrow plain) plain c.come) h in
    rw (
      entries_wider pg_fits pg_fits (λ g is. is) c.gone both.0,
      entries_wider (exception_fits_in narrow plain) (exception_fits_in wide stock) (exception_wider narrow wide more) c.come both.1,
    ) refl

-- a change within the limits of a profile is within those of all
pub change_fits_all : (profile : Profile) (c : RawChange) → change_fits_in (limits_of profile) c ≡ true → change_fits_in stock c ≡ true
unfolding change_fits_in
change_fits_all Stock c h = h
change_fits_all Plain c h =
    let items = and_parts _ (exception_changes_fit_in (pair_fits_in plain) plain c.items) h in
    let explicit = and_parts _ (exception_changes_fit_in (is_osd_id_in plain) plain c.explicit) items.0 in
    let weights = and_parts _ (entries_fit_in (reweight_fits_in plain) plain c.weights) explicit.0 in
    let osds = and_parts _ (osd_changes_fit_in plain c.osds) weights.0 in
    let crush = and_parts _ (option_map_or (crush_fits_in plain) c.crush true) osds.0 in
    let pools = and_parts (is_between (pos 0) (pos 18446744073709551615) c.base) (pool_changes_fit_in plain c.pools) crush.0 in
    let with_pools = and_from _ _ pools.0 (pool_changes_wider c.pools pools.1) in
    let with_crush = and_from _ _ with_pools (new_crush_wider c.crush crush.1) in
    let with_osds = and_from _ _ with_crush (osd_changes_wider c.osds osds.1) in
    let with_weights = and_from _ _ with_osds (entries_wider (reweight_fits_in plain) (reweight_fits_in stock) reweight_wider c.weights weights.1) in
    let with_explicit = and_from _ _ with_weights (exception_changes_wider (is_osd_id_in plain) (is_osd_id_in stock) osd_wider c.explicit explicit.1) in
    and_from _ _ with_explicit (exception_changes_wider (pair_fits_in plain) (pair_fits_in stock) pair_wider c.items items.1)

-- the numbers of a map that stand alone
head_wider : (p : MapParts) → head_fits_in plain p ≡ true → head_fits_in stock p ≡ true
unfolding head_fits_in
head_wider p h =
    let max_osd = and_parts _ (is_between (pos 1) (pos 1024) p.max_osd) h in
    and_from _ _ max_osd.0 (wider_between (pos 1) 1024 4096 p.max_osd (omega arith) max_osd.1)

-- its lists
lists_wider : (p : MapParts) → lists_fit_in plain p ≡ true → lists_fit_in stock p ≡ true
unfolding lists_fit_in
lists_wider p h =
    let pools = and_parts _ (has_between 0 32 p.pools) h in
    let rules = and_parts (has_between 1 512 p.buckets) (has_between 1 32 p.rules) pools.0 in
    let with_rules = and_from _ _ (wider_count 1 512 4096 p.buckets (omega arith) rules.0) (wider_count 1 32 256 p.rules (omega arith) rules.1) in
    and_from _ _ with_rules (wider_count 0 32 256 p.pools (omega arith) pools.1)

-- pools of a profile are within the limits of all
pub pools_fit_all : (profile : Profile) (pools : List PoolPart) → list_all (pool_fits_in (limits_of profile)) pools ≡ true → list_all (pool_fits_in stock) pools ≡ true
pools_fit_all Stock pools h = h
pools_fit_all Plain pools h = all_more (pool_fits_in plain) (pool_fits_in stock) pools pool_wider h

-- a map within the limits of a profile is within those of all
pub map_fits_all : (profile : Profile) (p : MapParts) → parts_fit_in (limits_of profile) p ≡ true → parts_fit_in stock p ≡ true
unfolding parts_fit_in
map_fits_all Stock p h = h
map_fits_all Plain p h =
    let pairs = and_parts _ (entries_fit_in (exception_fits_in (pair_fits_in plain) plain) plain p.pg_upmap_items) h in
    let sets = and_parts _ (entries_fit_in (exception_fits_in (is_osd_id_in plain) plain) plain p.pg_upmap) pairs.0 in
    let osds = and_parts _ (list_all (osd_fits_in plain) p.osds) sets.0 in
    let few = and_parts _ (has_few_groups p.pools) osds.0 in
    let pools = and_parts _ (list_all (pool_fits_in plain) p.pools) few.0 in
    let rules = and_parts _ (list_all (rule_fits_in plain) p.rules) pools.0 in
    let buckets = and_parts _ (list_all (bucket_fits_in plain) p.buckets) rules.0 in
    let head = and_parts (head_fits_in plain p) (lists_fit_in plain p) buckets.0 in
    let with_lists = and_from _ _ (head_wider p head.0) (lists_wider p head.1) in
    let with_buckets = and_from _ _ with_lists (all_more (bucket_fits_in plain) (bucket_fits_in stock) p.buckets bucket_wider buckets.1) in
    let with_rules = and_from _ _ with_buckets (all_more (rule_fits_in plain) (rule_fits_in stock) p.rules rule_wider rules.1) in
    let with_pools = and_from _ _ with_rules (all_more (pool_fits_in plain) (pool_fits_in stock) p.pools pool_wider pools.1) in
    let with_groups = and_from _ _ with_pools few.1 in
    let with_osds = and_from _ _ with_groups (all_more (osd_fits_in plain) (osd_fits_in stock) p.osds listed_wider osds.1) in
    let with_sets = and_from _ _ with_osds (sets_wider p.pg_upmap sets.1) in
    and_from _ _ with_sets (pairs_wider p.pg_upmap_items pairs.1)
