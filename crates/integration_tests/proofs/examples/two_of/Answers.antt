use Rattle.std.proofs.Common.{Some}
use Rattle.std.proofs.lemmas.List.Elements.{All-pop}
use Rattle.monitor.specs.Members.{IsNewMemberOf}
use Rattle.integration_tests.proofs.examples.two_of.Goals as goal

-- src/examples.rt:25:1
pub returns : goal.returns
returns c =
    let new = IsNewMemberOf c.args.monitor.now in
    let first = All-pop new c.args.members.items c.pop.new.self.items (Some c.in_ok-one.one) c.in_ok-one.ensures.items c.requires in
    let second =
    All-pop new c.pop.new.self.items c.pop-2.new.self.items (Some c.in_ok-other.other) c.in_ok-other.ensures.items first.0 in
    (first.1, second.1)
