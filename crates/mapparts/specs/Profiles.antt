-- Profiles: which kinds of buckets and which steps (Ceph, crush.h) the texts of maps and changes may state, and whose
-- limits hold.
use Rattle.std.specs.Prelude.{ℕ, Bool, true, false, List}
use Rattle.std.specs.List.{list_all}
use Rattle.buckets.specs.declared.bucket.BucketKind.{BucketKind}
use Rattle.buckets.specs.declared.bucket.BucketKind.TheVariants.{Uniform, List as Listed, Tree, Straw2}
use Rattle.mapparts.specs.declared.parts.BucketPart.{BucketPart}
use Rattle.mapparts.specs.declared.parts.RulePart.{RulePart}
use Rattle.mapparts.specs.declared.parts.StepPart.{StepPart}
use Rattle.mapparts.specs.declared.parts.StepPart.TheVariants.{SetChooseTries, SetChooseleafTries, SetChooseleafVaryR, SetChooseleafStable, Take, Choose, Emit}
use Rattle.mapparts.specs.declared.profile.Profile.{Profile}
use Rattle.mapparts.specs.declared.profile.Profile.TheVariants.{Plain, Stock}
use Rattle.mapparts.specs.declared.limits.Limits.{Limits}
use Rattle.mapparts.specs.Limits.{max_pools, plain_pools, plain, stock}

-- whether the limits are those of stock clusters
abbrev pub is_stock : Profile → Bool
is_stock Plain = false
is_stock Stock = true

-- the limits that hold
abbrev pub limits_of : Profile → Limits
limits_of Plain = plain
limits_of Stock = stock

-- how many pools a cluster has at most
abbrev pub most_pools : Profile → ℕ
most_pools Plain = plain_pools
most_pools Stock = max_pools

-- whether each profile has buckets of this kind
abbrev pub is_plain_kind : BucketKind → Bool
is_plain_kind Uniform = true
is_plain_kind Listed = true
is_plain_kind Tree = true
is_plain_kind Straw2 = false

-- whether each profile has the kinds of all these buckets
abbrev pub are_plain_kinds : List BucketPart → Bool
are_plain_kinds buckets = list_all (λ b. is_plain_kind b.kind) buckets

-- whether a profile has the kinds of all these buckets
abbrev pub has_kinds : Profile → List BucketPart → Bool
has_kinds Plain buckets = are_plain_kinds buckets
has_kinds Stock buckets = true

-- whether each profile has such a step
abbrev pub is_plain_word : StepPart → Bool
is_plain_word (SetChooseTries _) = true
is_plain_word (SetChooseleafTries _) = true
is_plain_word (SetChooseleafVaryR _) = false
is_plain_word (SetChooseleafStable _) = false
is_plain_word (Take _) = true
is_plain_word (Choose _) = true
is_plain_word Emit = true

-- whether each profile has all steps of these rules
abbrev pub are_plain_words : List RulePart → Bool
are_plain_words rules = list_all (λ r. list_all is_plain_word r.steps) rules

-- whether a profile has all steps of these rules
abbrev pub has_words : Profile → List RulePart → Bool
has_words Plain rules = are_plain_words rules
has_words Stock rules = true
