-- Where a plan stands.
use Rattle.std.specs.Prelude.{◌≡◌, ℕ, Bool, true, false, ℤ, int_lt, List, Option, Some, All, map}
use Rattle.std.specs.List.Sorted.{IsPermutation}
use Rattle.osdmap.specs.Maps.{ClusterMap}
use Rattle.balancer.specs.declared.board.Board.{Board}
use Rattle.balancer.specs.declared.frame.Frame.{Frame}
use Rattle.balancer.specs.declared.marks.Marks.{Marks}
use Rattle.balancer.specs.Shares.{is_candidate, candidate_osds, deviation, Aim, aim_of, least_gap}
use Rattle.balancer.specs.Greedy.{after_moves, gap, beats, good_moves}
use Rattle.balancer.specs.Boards.{IsOrder, is_wanted, IsGood, IsBest, IsBetter, CoversPair, CoversFrom}
use Rattle.balancer.specs.Marks.{IsMarked, is_shut}
use Rattle.balancer.specs.Widths.{bound_of, best_gap, IsBound, AreBounds}
use Rattle.balancer.specs.declared.moves.Move.{Move}

-- the map that the plan goes by
abbrev pub cluster : Board → ClusterMap
cluster b = b.frame.map.now.map

-- the map after the moves so far
abbrev pub reached : Board → ClusterMap
reached b = after_moves b.frame.map.now.map b.frame.pool b.moves.items

-- what the plan goes by beside it
abbrev pub aim_in : Board → Aim
aim_in b = aim_of b.frame.carried.now b.frame.apart

-- a board is of the plan that goes by a frame
pub record IsBoardFor (f : Frame) (b : Board) : Type 0 where
  pub map : b.frame.map.now.map ≡ f.map.now.map
  pub pool : b.frame.pool ≡ f.pool
  pub aim : aim_of b.frame.carried.now b.frame.apart ≡ aim_of f.carried.now f.apart

-- two boards are of plans for one pool of one map, with one aim
pub record AreOfOnePlan (a b : Board) : Type 0 where
  pub map : cluster a ≡ cluster b
  pub pool : a.frame.pool ≡ b.frame.pool
  pub aim : aim_in a ≡ aim_in b

-- an OSD is one of those that the plan moves groups between
abbrev pub takes_part : Board → ℕ → Bool
takes_part b osd = is_candidate b.frame.map.now.map b.frame.pool osd

-- what is marked holds of the groups as they stand
abbrev pub IsMarkedOn : Board → Marks → Type 0
IsMarkedOn b marks = IsMarked b.frame.map.now.map b.frame.pool b.groups.items marks

-- each candidate once, in any order
abbrev pub AreAll : Board → List (ℤ × ℕ) → Type 0
AreAll b order = IsPermutation (map (λ e. e.1) order) (candidate_osds b.frame.map.now.map b.frame.pool)

-- each candidate once with its deviation, in any order
abbrev pub AreMeasured : Board → List (ℤ × ℕ) → Type 0
AreMeasured b order = AreAll b order × All (λ e. e.0 ≡ deviation (reached b) b.frame.pool (aim_in b) e.1) order

-- the candidates in order, the emptiest first
abbrev pub IsOrderOf : Board → List (ℤ × ℕ) → Type 0
IsOrderOf b order = IsOrder b.frame.map.now.map (reached b) b.frame.pool (aim_in b) b.frame.osds.items order

-- what is known of how far moves go, once an OSD has become emptier: nothing more than before, and for candidates what
-- holds of moves to that OSD too, where it is not known that no group may go there
abbrev pub AreWidened : Board → ℕ → Marks → List (Option ℤ) → List (Option ℤ) → Type 0
AreWidened b emptier marks before now =
    (from : ℕ) (bound : ℤ) → bound_of now from ≡ Some bound
    → ((old : ℤ) × (bound_of before from ≡ Some old) × (int_lt bound old ≡ false))
    × (is_candidate b.frame.map.now.map b.frame.pool from ≡ true → is_shut marks from emptier ≡ false
    → int_lt bound (gap (reached b) b.frame.pool (aim_in b) from emptier) ≡ false)

-- ---- words of moves, by the map after the moves so far

-- the deviation of an OSD, and the difference of those of two
abbrev pub deviation_on : Board → ℕ → ℤ
deviation_on b osd = deviation (reached b) b.frame.pool (aim_in b) osd

-- the difference of the deviations of two OSDs
abbrev pub gap_on : Board → ℕ → ℕ → ℤ
gap_on b from to = gap (reached b) b.frame.pool (aim_in b) from to

-- the difference above which a move is good
abbrev pub least_gap_on : Board → ℕ
least_gap_on b = least_gap (reached b) b.frame.pool (aim_in b)

-- whether a move is taken rather than another
abbrev pub beats_on : Board → Move → Move → Bool
beats_on b u v = beats (reached b) b.frame.pool (aim_in b) u v

-- whether some move between two OSDs could be taken rather than the best one so far
abbrev pub is_wanted_on : Board → ℕ → ℕ → Option Move → Bool
is_wanted_on b from to best = is_wanted (reached b) b.frame.pool (aim_in b) from to best

-- the good moves
abbrev pub good_moves_on : Board → List Move
good_moves_on b = good_moves (reached b) b.frame.pool (aim_in b)

-- a move is good, or the best one
abbrev pub IsGoodOn : Board → Move → Type 0
IsGoodOn b v = IsGood (reached b) b.frame.pool (aim_in b) v

-- a move is the best one
abbrev pub IsBestOn : Board → Move → Type 0
IsBestOn b v = IsBest (reached b) b.frame.pool (aim_in b) v

-- the best move so far is good and covers what the one before it covered
abbrev pub IsBetterOn : Board → Option Move → Option Move → Type 0
IsBetterOn b old new = IsBetter (reached b) b.frame.pool (aim_in b) old new

-- the best move so far covers those between two OSDs, or from an OSD to all candidates
abbrev pub CoversPairOn : Board → Option Move → ℕ → ℕ → Type 0
CoversPairOn b best from to = CoversPair (reached b) b.frame.pool (aim_in b) best from to

-- the best move so far covers those from an OSD to all candidates
abbrev pub CoversFromOn : Board → Option Move → ℕ → Type 0
CoversFromOn b best from = CoversFrom (reached b) b.frame.pool (aim_in b) best from b.frame.osds.items

-- how far the best move so far goes
abbrev pub best_gap_on : Board → Option Move → ℤ
best_gap_on b best = best_gap (reached b) b.frame.pool (aim_in b) best

-- no good move from an OSD goes further
abbrev pub IsBoundOn : Board → ℕ → ℤ → Type 0
IsBoundOn b from bound = IsBound (reached b) b.frame.pool (aim_in b) from bound

-- what is known of how far moves go is so
abbrev pub AreBoundsOn : Board → List (Option ℤ) → Type 0
AreBoundsOn b bounds = AreBounds (reached b) b.frame.pool (aim_in b) bounds
