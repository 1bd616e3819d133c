use Rattle.pgtable.proofs.Concerning.{candidates_have}
use Rattle.pgtable.proofs.candidates.candidates.Goals as goal

pub returns : goal.returns
returns c = record {
  rising = c.in_ok-groups.ensures.rising;
  all = λ g loud. rw c.in_ok-groups.ensures.candidates (candidates_have c.args.after.now.map c.args.change.now g loud);
}
