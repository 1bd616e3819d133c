use Rattle.std.proofs.Common.{◌∙◌, sym, arith}
use Rattle.std.proofs.lemmas.List.FromFn.{map-range_with_len_more}
use Rattle.balancer.specs.Moves.{domain_of}
use Rattle.balancer.proofs.domains.domains_of.Goals as goal

pub loop-osd-preserved : goal.loop-osd-preserved
loop-osd-preserved c =
    let more = map-range_with_len_more (domain_of c.args.map.now.map c.args.level) 0 c.loop-osd.osd c.loop-osd.osd (omega arith) in
    c.in_ok-push.ensures.items ∙ rw (c.loop-osd.invariant, c.domain_of.ensures) (sym more)
