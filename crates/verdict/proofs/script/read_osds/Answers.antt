use Rattle.std.proofs.Common.{◌∙◌, sym}
use Rattle.std.specs.Option.{option_copied}
use Rattle.verdict.specs.Reading.{parts_left}
use Rattle.verdict.proofs.Lines.{osds_none, osds_more, osds_all}
use Rattle.verdict.proofs.script.read_osds.Goals as goal

pub returns-in_default-read_osd : goal.returns-in_default-read_osd
returns-in_default-read_osd c =
    let none = osds_none c.loop-left.osds.items c.first_part.result.first.now (parts_left 32 (option_copied c.first_part.result.rest)) (sym c.read_osd.ensures ∙ c.in_default-read_osd.is) in
    sym ((rw (c.in-Some.is, c.first_part.ensures.parts) at c.loop-left.invariant) ∙ none)

pub loop-left-preserved : goal.loop-left-preserved
loop-left-preserved c =
    let more = osds_more c.loop-left.osds.items c.first_part.result.first.now (parts_left 32 (option_copied c.first_part.result.rest)) c.in-Some-read_osd.osd (sym c.read_osd.ensures ∙ c.in-Some-read_osd.is) in
    rw (c.in_ok-push.ensures.items) ((rw (c.in-Some.is, c.first_part.ensures.parts) at c.loop-left.invariant) ∙ more)

pub returns : goal.returns
returns c = sym ((rw (c.in_default.is) at c.loop-left.invariant) ∙ osds_all c.loop-left.osds.items)
