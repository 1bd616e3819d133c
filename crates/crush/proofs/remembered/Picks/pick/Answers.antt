use Rattle.std.proofs.Common.{SFits, w32, ap, ◌∙◌, rules}
use Rattle.std.proofs.lemmas.Int.{to_z-of_z}
use Rattle.crush.specs.Forest.{bucket_at}
use Rattle.crush.specs.Placed.{world}
use Rattle.crush.proofs.remembered.Picks.pick.Goals as goal

pub returns-in-Some-clause-value : goal.returns-in-Some-clause-value
returns-in-Some-clause-value c =
    let a = c.args in
    let w = world a.placement.now in
    let fits : SFits w32 c.in-Some.item = search rules in
    let passed : SFits w32 a.id = c.ranges.id in
    to_z-of_z w32 c.in-Some.item fits
    ∙ c.in-Some.ensures w (c.start_remembering.ensures w c.requires.picks) a.bucket.now (ap (bucket_at w.buckets) (to_z-of_z w32 a.id passed) ∙ c.requires.listed)
