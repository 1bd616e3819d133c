-- What a script does to a cluster's own map, as if all its OSDs were up.
use Rattle.std.specs.Prelude.{◌≡◌, ℕ, List, Result, Ok, Err}
use Rattle.mapparts.specs.declared.parts.MapParts.{MapParts}
use Rattle.osdmap.specs.Maps.{ClusterMap}
use Rattle.osdmap.specs.Stated.{IsStated}
use Rattle.cephimport.specs.declared.why.StaysOut.{StaysOut}
use Rattle.cephimport.specs.Whole.{profile_of}
use Rattle.verdict.specs.Counts.{all_up, all_counts}
use Rattle.verdict.specs.Scripts.{said_in}
use Rattle.verdict.specs.Verdicts.{judged}
use Rattle.verdict.specs.Reading.{IsVerdict}
use Rattle.readmap.specs.declared.judged.JudgedScript.{JudgedScript}

-- the parts that come in, with all their OSDs up
abbrev pub with_all_up : Result MapParts StaysOut → Result MapParts StaysOut
with_all_up (Ok parts) = Ok (all_up parts)
with_all_up (Err why) = Err why

-- what a script does to the map that parts state, and the groups of each OSD before and after
abbrev pub IsJudgedAt : MapParts → ClusterMap → List ℕ → JudgedScript → Type 0
IsJudgedAt parts m script j =
    (j.before.items ≡ all_counts m)
    × IsVerdict j.verdict (judged (profile_of parts.buckets parts.rules) m (said_in script))
    × (j.after.items ≡ all_counts j.verdict.map.map)

-- the same for parts that come in
abbrev pub IsJudged : Result MapParts StaysOut → List ℕ → JudgedScript → Type 0
IsJudged (Ok parts) script j = (m : ClusterMap) × IsStated parts m × IsJudgedAt parts m script j
IsJudged (Err why) script j = ⊥
