use Rattle.std.proofs.Common.{◌≡◌, All, length, take, vec_len, ◌+◌}
use Rattle.monitor.specs.Members.{IsNewMemberOf}
use Rattle.server.specs.Pairs.{Pairs}
use Rattle.server.specs.Players.{IsStartedFor}
use Rattle.server.proofs.players.start_all.Given as goal

-- a thread is started for each part so far, and a member is left for each of the others
abbrev pub invariant-loop-part : goal.invariant-loop-part
invariant-loop-part g l =
    All (IsNewMemberOf l.monitor) l.free.items × (vec_len l.free + l.part-index ≡ length l.parts)
    × (vec_len l.players ≡ l.part-index) × Pairs (IsStartedFor l.monitor) 1 l.players.items (take l.part-index l.parts)
