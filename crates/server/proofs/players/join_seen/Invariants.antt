use Rattle.std.proofs.Common.{◌≡◌, All, take}
use Rattle.epochlog.specs.Epochs.{Begins}
use Rattle.server.specs.declared.left.Left.{Left}
use Rattle.server.specs.Serving.{seen_left}
use Rattle.server.proofs.players.join_seen.Given as goal

-- what each member so far has seen begins what the monitor has ended with
abbrev pub invariant-loop-left : goal.invariant-loop-left
invariant-loop-left g l =
    (l.all.row ≡ l.ended.state.value.pass.row) × (l.all.history ≡ l.ended.state.value.pass.history)
    × All (λ (left : Left). Begins (seen_left left) l.all.history) (take l.left-index l.lefts)
