use Rattle.std.proofs.Common.{◌≡◌, ℕ, ◌<◌, true, false, length, take}
use Rattle.maptypes.specs.Sets.{stands}
use Rattle.balancer.specs.Boards.{may_go}
use Rattle.balancer.specs.Marks.{is_shut, NumberAlike}
use Rattle.balancer.proofs.board.Board.look_again_at.Given as goal

-- nothing more is shut, and nothing from the OSDs of the places so far that is open for the group
abbrev pub invariant-loop-place : goal.invariant-loop-place
invariant-loop-place l =
    NumberAlike l.marks l.initial.marks
    × ((f t : ℕ) → t < length l.self.frame.map.now.map.presences → is_shut l.marks f t ≡ true
    → (is_shut l.initial.marks f t ≡ true) × (stands f (take l.place-index l.group.places) ≡ true → may_go l.self.frame.map.now.map l.self.frame.pool f t l.group ≡ false))
