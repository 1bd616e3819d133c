-- What an import answers: the parts that a definition gives, or why there are none, unless memory ran out.
use Rattle.std.specs.Prelude.{◌≡◌, ℕ, List, codes, Result, Ok, Err}
use Rattle.cephimport.specs.declared.why.StaysOut.{StaysOut}
use Rattle.cephimport.specs.declared.why.StaysOut.TheVariants as out
use Rattle.cephimport.specs.declared.why.ImportError.{ImportError}
use Rattle.cephimport.specs.declared.why.ImportError.TheVariants as errors

-- what ended an import is what it gives, or memory ran out
abbrev pub EndsImport : {X : Type 0} → ImportError → Result X StaysOut → Type 0
EndsImport errors.Memory wanted = Unit {0}
EndsImport (errors.StaysOut why) wanted = wanted ≡ Err why

-- a function returned what an import gives, unless memory ran out
abbrev pub ImportGives : {X : Type 0} → Result X ImportError → Result X StaysOut → Type 0
ImportGives (Ok x) wanted = wanted ≡ Ok x
ImportGives (Err e) wanted = EndsImport e wanted

-- the name of what keeps a map out
abbrev pub why_name : StaysOut → List ℕ
why_name out.StrawBucket = codes "StrawBucket"
why_name out.BucketHash = codes "BucketHash"
why_name out.SeveralTrees = codes "SeveralTrees"
why_name out.UnknownOsd = codes "UnknownOsd"
why_name out.Tunable = codes "Tunable"
why_name out.WeightSet = codes "WeightSet"
why_name out.PoolWeightSet = codes "PoolWeightSet"
why_name out.PoolHash = codes "PoolHash"
why_name out.ExceptionOsd = codes "ExceptionOsd"
why_name out.RuleKind = codes "RuleKind"
why_name out.RuleStep = codes "RuleStep"
why_name out.RuleLength = codes "RuleLength"
why_name out.RuleCount = codes "RuleCount"
why_name out.Limit = codes "Limit"
