-- The map that a cluster's own map is, as parts, or what first keeps it out.
use Rattle.std.specs.Prelude.{ℕ, ◌==◌, ℤ, pos, int_lt, Bool, true, false, not, ◌&&◌, ◌||◌, List, map, Option, Some, None, Result, Ok, Err, if◌then◌else◌}
use Rattle.std.specs.Ordering.{int_eq}
use Rattle.std.specs.List.{list_any, list_all}
use Rattle.cephmap.specs.declared.map.CephMap.{CephMap}
use Rattle.cephmap.specs.declared.pool.Pool.{Pool}
use Rattle.cephmap.specs.declared.crush.WeightSet.{WeightSet}
use Rattle.mapparts.specs.declared.parts.MapParts.{MapParts}
use Rattle.mapparts.specs.declared.parts.BucketPart.{BucketPart}
use Rattle.mapparts.specs.declared.parts.RulePart.{RulePart}
use Rattle.mapparts.specs.declared.parts.StepPart.{StepPart}
use Rattle.mapparts.specs.declared.parts.StepPart.TheVariants.{SetChooseTries, SetChooseleafTries, SetChooseleafVaryR, SetChooseleafStable, Take, Choose, Emit}
use Rattle.mapparts.specs.declared.profile.Profile.{Profile}
use Rattle.mapparts.specs.declared.profile.Profile.TheVariants.{Plain, Stock}
use Rattle.mapparts.specs.Profiles.{limits_of, are_plain_kinds, are_plain_words}
use Rattle.mapparts.specs.Parts.{parts_fit_in}
use Rattle.cephimport.specs.declared.why.StaysOut.{StaysOut}
use Rattle.cephimport.specs.declared.why.StaysOut.TheVariants as out
use Rattle.cephimport.specs.declared.fit_buckets.BucketTest.TheVariants as buckets
use Rattle.cephimport.specs.declared.fit_rules.RuleTest.TheVariants as rules
use Rattle.cephimport.specs.Pools.{imported_pool, hashes_well}
use Rattle.cephimport.specs.Osds.{imported_osds}
use Rattle.cephimport.specs.Exceptions.{set_parts, pair_parts, leads_nowhere}
use Rattle.cephimport.specs.Buckets.{all_parts}
use Rattle.cephimport.specs.Reach.{kept}
use Rattle.cephimport.specs.Rules.{rule_parts}
use Rattle.cephimport.specs.Uses.{has_pools}
use Rattle.cephimport.specs.Tuned.{are_settable}
use Rattle.cephimport.specs.FitRules.{some_rule_fails}
use Rattle.cephimport.specs.FitBuckets.{some_bucket_fails, stand_once, any_unknown}
use Rattle.cephimport.specs.WeightSets.{is_compat}

-- ---- what keeps a map out

-- a pool is there
abbrev pub pool_is_there : List Pool → ℤ → Bool
pool_is_there pools id = list_any (λ p. int_eq p.id id) pools

-- a weight set of a pool alone; where there is no pool, of any
unfoldable pub is_pool_set : List Pool → WeightSet → Bool
is_pool_set pools s = not (is_compat s) && (not (has_pools pools) || pool_is_there pools s.pool)

-- some weight set is of a pool alone
abbrev pub has_pool_set : List Pool → List WeightSet → Bool
has_pool_set pools sets = list_any (is_pool_set pools) sets

-- what keeps a map out by its buckets, first of all
unfoldable pub buckets_why : CephMap → List BucketPart → Option StaysOut
buckets_why m kept =
    if some_bucket_fails buckets.Kind m.crush kept then Some out.StrawBucket
    else if some_bucket_fails buckets.Hash m.crush kept then Some out.BucketHash
    else if some_bucket_fails buckets.WeightSet m.crush kept then Some out.WeightSet
    else if not (stand_once kept) then Some out.SeveralTrees
    else if any_unknown m kept then Some out.UnknownOsd
    else None

-- what keeps it out by its rules, first of all
unfoldable pub rules_why : CephMap → Option StaysOut
rules_why m =
    if some_rule_fails rules.Kind m then Some out.RuleKind
    else if some_rule_fails rules.Words m then Some out.RuleStep
    else if some_rule_fails rules.Length m then Some out.RuleLength
    else if some_rule_fails rules.Counts m then Some out.RuleCount
    else None

-- what else keeps it out, first of all
unfoldable pub others_why : CephMap → Option StaysOut
others_why m =
    if not (are_settable m.crush.tunables) then Some out.Tunable
    else if has_pool_set m.pools m.crush.weight_sets then Some out.PoolWeightSet
    else if not (list_all hashes_well m.pools) then Some out.PoolHash
    else if leads_nowhere m then Some out.ExceptionOsd
    else None

-- the first of two reasons
abbrev pub first_why : Option StaysOut → Option StaysOut → Option StaysOut
first_why (Some why) later = Some why
first_why None later = later

-- what keeps it out first: a bucket in use, a rule that is used, else something else
abbrev pub why : CephMap → List BucketPart → Option StaysOut
why m kept = first_why (buckets_why m kept) (first_why (rules_why m) (others_why m))

-- ---- its parts

-- a step sets tries, or how leaves are sought
abbrev pub sets_anything : StepPart → Bool
sets_anything (SetChooseTries _) = true
sets_anything (SetChooseleafTries _) = true
sets_anything (SetChooseleafVaryR _) = true
sets_anything (SetChooseleafStable _) = true
sets_anything (Take _) = false
sets_anything (Choose _) = false
sets_anything Emit = false

-- a step of a rule sets anything
abbrev pub rule_sets : RulePart → Bool
rule_sets r = list_any sets_anything r.steps

-- a step of some rule sets anything
abbrev pub any_sets : List RulePart → Bool
any_sets rules = list_any rule_sets rules

-- the version of the form: 2 where a step of a rule sets anything
unfoldable pub form_version : List RulePart → ℤ
form_version rules = if any_sets rules then pos 2 else pos 1

-- the profile: stock where a bucket is straw2, or a rule sets how leaves are sought
unfoldable pub profile_of : List BucketPart → List RulePart → Profile
profile_of buckets rules = if are_plain_kinds buckets && are_plain_words rules then Plain else Stock

-- a number that is at least 1, and at most another
unfoldable pub capped : ℕ → ℤ → ℤ
capped n most = if n == 0 then pos 1 else if int_lt most (pos n) then most else pos n

-- the parts of a map with such buckets in use
unfoldable pub imported_parts : CephMap → List BucketPart → MapParts
imported_parts m kept = record {
  version = form_version (rule_parts m);
  epoch = pos m.epoch;
  max_osd = capped m.osds.max_osd (limits_of (profile_of kept (rule_parts m))).max_osd;
  buckets = kept;
  rules = rule_parts m;
  pools = map imported_pool m.pools;
  osds = imported_osds m.osds;
  pg_upmap = set_parts m;
  pg_upmap_items = pair_parts m;
}

-- parts whose numbers and lengths are within the limits of their profile
unfoldable pub within_limits : MapParts → Result MapParts StaysOut
within_limits p =
    if parts_fit_in (limits_of (profile_of p.buckets p.rules)) p then Ok p else Err out.Limit

-- a reason, or else these parts
abbrev pub unless_why : Option StaysOut → Result MapParts StaysOut → Result MapParts StaysOut
unless_why (Some why) parts = Err why
unless_why None parts = parts

-- the parts of a cluster's own map with these buckets in use, or why it stays out
abbrev pub import_with : CephMap → List BucketPart → Result MapParts StaysOut
import_with m kept = unless_why (why m kept) (within_limits (imported_parts m kept))

-- the parts of the map that a cluster's own map is, or why it stays out
unfoldable pub imported : CephMap → Result MapParts StaysOut
imported m = import_with m (kept m (all_parts m.crush))
