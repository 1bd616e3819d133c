use Rattle.std.proofs.Common.{◌∙◌, sym, arith}
use Rattle.balancer.specs.Shares.{is_candidate}
use Rattle.balancer.proofs.WeightsOfCandidates.{filter_range_yes, filter_range_no, few_filtered}
use Rattle.balancer.proofs.shares.candidates.Goals as goal
use Rattle.balancer.proofs.shares.candidates.Goals.{then-is_candidate+in_ok-push, else-is_candidate}

pub loop-osd-preserved : goal.loop-osd-preserved
loop-osd-preserved c = elim c.if-is_candidate.branch [
  | then-is_candidate+in_ok-push w ↦
      let is = sym c.is_candidate.ensures ∙ w.if-is_candidate.true in
      let more = filter_range_yes (is_candidate c.args.map.now.map c.args.pool.now) c.loop-osd.osd is in
      rw (w.osds-is, w.in_ok-push.ensures.items, c.loop-osd.invariant) (sym more)
  | else-is_candidate w ↦
      let is = sym c.is_candidate.ensures ∙ w.if-is_candidate.false in
      let same = filter_range_no (is_candidate c.args.map.now.map c.args.pool.now) c.loop-osd.osd is in
      rw (w.osds-is, c.loop-osd.invariant) (sym same)
]

pub returns-clause-few : goal.returns-clause-few
returns-clause-few c =
    rw c.loop-osd.invariant (few_filtered (is_candidate c.args.map.now.map c.args.pool.now) c.loop-osd.osd 4096 (omega (arith, c.loop-osd.auto.osd-end, c.max_osd-osd-end.ensures.few)))
