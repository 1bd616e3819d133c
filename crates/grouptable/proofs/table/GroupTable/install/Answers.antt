use Rattle.std.proofs.Common.{arith}
use Rattle.grouptable.proofs.Changes.{length-sets_after}
use Rattle.grouptable.proofs.Drafts.{put_in}
use Rattle.grouptable.proofs.table.GroupTable.install.Goals as goal

pub install-requires-clause-few : goal.install-requires-clause-few
install-requires-clause-few c = c.self.invariant.each.few

pub install-requires-clause-place : goal.install-requires-clause-place
install-requires-clause-place c = (rw (← c.self.view_is) at c.requires.room) c.self.inside.index.items c.self.invariant.each

pub invariant_of-self : goal.invariant_of-self
invariant_of-self c =
    let sets = c.self.inside.sets.sets in
    let changes = c.args.patch.changes.items in
    let lists = rw (← c.self.view_is) at c.requires.lists in
    rw c.put_all.ensures (
    record {
      few = omega (arith, length-sets_after sets changes, c.self.invariant.few);
      each = record {
        few = c.install.ensures.few;
        each = put_in sets changes c.self.inside.index.items c.install.new.index.items c.args.patch.fresh.entries c.self.invariant.each lists c.install.ensures.each;
        trimmed = c.install.ensures.trimmed;
      };
    }
    )
