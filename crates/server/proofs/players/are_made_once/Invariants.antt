use Rattle.std.proofs.Common.{◌≡◌, ◌<◌, ℕ}
use Rattle.server.specs.Players.{made_by}
use Rattle.server.proofs.players.are_made_once.Given as goal

-- each epoch so far is made once
abbrev pub invariant-loop-at : goal.invariant-loop-at
invariant-loop-at l = (k : ℕ) → k < l.at → made_by l.lefts k ≡ 1
