use Rattle.pgtable.specs.Rooms.{runs_of}
use Rattle.state.proofs.Journals.{IsKept-opened}
use Rattle.state.proofs.state.State.new.Goals as goal

pub invariant_of-result : goal.invariant_of-result
invariant_of-result g c = (
  rw (c.new-2.ensures.value, c.in_ok-first.ensures, c.in_ok-pass.ensures.history, c.in_ok-pass.ensures.row) (IsKept-opened c.args.map.map c.args.row.now c.in_ok-table.table (runs_of c.build.new.rooms) c.requires.row c.in_ok-table.ensures.table),
  rw (c.in_ok-first.ensures, c.in_ok-pass.ensures.history) (c.new-2.ensures.kept _ c.requires.held),
)
