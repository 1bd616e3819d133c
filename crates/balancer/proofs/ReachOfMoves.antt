-- How far moves from an OSD go at most: as far as to the first in order to which some group may go.
use Rattle.std.proofs.Common.{◌≡◌, ◌∙◌, refl, sym, All, ℕ, ◌<◌, Bool, true, false, ◌&&◌, ℤ, pos, List, length, get_or, take, Option, Some, None, arith}
use Rattle.std.specs.Prelude.{int_lt}
use Rattle.std.specs.List.{Contains}
use mathlib.Core.Bool.{false≢true}
use Rattle.std.proofs.lemmas.List.Elements.{All-weaker}
use Rattle.maptypes.specs.Pools.{PoolFacts}
use Rattle.osdmap.specs.Maps.{ClusterMap}
use Rattle.balancer.specs.declared.moves.Move.{Move}
use Rattle.balancer.specs.Shares.{is_candidate, least_gap, Aim}
use Rattle.balancer.specs.Moves.{move_of}
use Rattle.balancer.specs.Greedy.{gap, beats}
use Rattle.balancer.specs.Boards.{IsOrder, CoversPair, is_wanted}
use Rattle.balancer.specs.Widths.{IsBound}
use Rattle.balancer.proofs.MovesCompare.{higher_not_better}
use Rattle.balancer.proofs.SearchCovers.{order_cut, order_end}
use Rattle.balancer.proofs.BoundsOfMoves.{covered_bound}

module _ (m n : ClusterMap) (p : PoolFacts) (cs : Aim) (from : ℕ) (osds : List ℕ) (order : List (ℤ × ℕ)) (is : IsOrder m n p cs osds order) (all : (to : ℕ) → is_candidate n p to ≡ true → Contains osds to) where
  -- where no move to an OSD is good, any best one covers them
  any_covers : (best : Option Move) (to : ℕ) → CoversPair n p cs None from to → CoversPair n p cs best from to
  any_covers None to none = none
  any_covers (Some b) to none = record { each = λ g below yes. absurd (false≢true (sym (none.each g below) ∙ yes)) }

  -- no move is wanted rather than itself
  not_rather : (to : ℕ) → is_wanted n p cs from to (Some (move_of from to 0)) ≡ false
  not_rather to = no_and (int_lt (pos (least_gap n p cs)) (gap n p cs from to)) (beats n p cs (move_of from to 0) (move_of from to 0)) (higher_not_better n p cs from to 0 0 (omega arith))
    where
      no_and : (a b : Bool) → b ≡ false → (a && b) ≡ false
      no_and true b e = e
      no_and false b e = refl

  -- where no move to those before an OSD is good, none goes further than to it
  pub first_open : (i : ℕ) (e : ℤ × ℕ) → i < length order → e ≡ get_or order i e → All (λ f. CoversPair n p cs None from f.1) (take i order) → IsBound n p cs from (gap n p cs from e.1)
  first_open i e inside at before =
      covered_bound n p cs osds from (Some (move_of from e.1 0)) all
      (order_cut n p cs m (Some (move_of from e.1 0)) from osds order i e is inside at (not_rather e.1)
      (All-weaker (λ (f : ℤ × ℕ). CoversPair n p cs None from f.1) (λ (f : ℤ × ℕ). CoversPair n p cs (Some (move_of from e.1 0)) from f.1) (λ f none. any_covers (Some (move_of from e.1 0)) f.1 none) (take i order) before))

  -- where no move to any is good, none goes further than one that is not
  pub none_open : All (λ f. CoversPair n p cs None from f.1) order → IsBound n p cs from (pos (least_gap n p cs))
  none_open covers = covered_bound n p cs osds from None all (order_end n p cs m None from osds order is covers)
