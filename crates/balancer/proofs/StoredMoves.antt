-- One more move, as it is stored.
use Rattle.std.proofs.Common.{◌≡◌, ◌∙◌, refl, sym, ap, ℕ, ◌*◌, ◌^◌, ◌<◌, ◌≤◌, ℤ, pos, negsuc, List, [], ◌∷◌, ◌++◌, length, get_or, set, Some, true, arith}
use Rattle.std.specs.Prelude.{◌+ℤ◌, ◌-ℤ◌, ◌*ℤ◌, ◌<ℤ◌, neg_ℤ}
use mir.Syntax.{w32, w128}
use mir.Val.{SFits, to_z, of_z}
use Rattle.std.proofs.lemmas.Int.{ints, to_z-of_z}
use Rattle.std.proofs.lemmas.List.{get_or-set_other}
use Rattle.std.proofs.lemmas.List.FromFn.{get_or-map-range_with_len}
use Rattle.maptypes.specs.Pools.{PoolFacts}
use Rattle.osdmap.specs.Maps.{ClusterMap, pool_at}
use Rattle.balancer.specs.declared.group.Group.{Group}
use Rattle.balancer.specs.declared.moves.Move.{Move}
use Rattle.balancer.specs.Shares.{is_candidate, total_weight, deviation, group_weight, Aim, AreSmall}
use Rattle.balancer.specs.Greedy.{after_moves}
use Rattle.balancer.specs.Boards.{IsGood, IsBoardOf, IsReached, group_at, group_after}
use Rattle.balancer.proofs.DeviationsSmall.{word_small, times_small, sum_small, pool_within, pool_now, candidate_below, small_now, shown_now, long_now, long_deviations}
use Rattle.balancer.proofs.AllowedByTests.{good_apart}
use Rattle.balancer.proofs.SearchCovers.{good_ends, long_groups}
use Rattle.balancer.proofs.MapAfterMove.{room_left}
use Rattle.balancer.proofs.MovesMakeEven.{board_more}

-- ---- numbers of 128 bits

-- a number of at most 110 bits fits into 128
fits_small : (z : ℤ) → z <ℤ pos (2 ^ 110) → neg_ℤ (pos (2 ^ 110)) <ℤ z → SFits w128 z
fits_small (pos n) high low = record { sfits = omega (arith, ints) }
fits_small (negsuc n) high low = record { sfits = omega (arith, ints) }

-- what is read back of a difference of two numbers that fit
pub read_less : (x w : ℤ) → SFits w128 x → SFits w128 w → (to_z w128 (of_z w128 x) -ℤ to_z w128 (of_z w128 w)) ≡ (x -ℤ w)
read_less x w fx fw = rw (to_z-of_z w128 x fx, to_z-of_z w128 w fw) refl

-- what is read back of their sum
pub read_more : (x w : ℤ) → SFits w128 x → SFits w128 w → (to_z w128 (of_z w128 x) +ℤ to_z w128 (of_z w128 w)) ≡ (x +ℤ w)
read_more x w fx fw = rw (to_z-of_z w128 x fx, to_z-of_z w128 w fw) refl

-- what is read back of a sum with a product
pub read_with : (x z w : ℤ) → SFits w128 x → SFits w128 z → SFits w128 w → SFits w128 (z *ℤ w) → SFits w128 (x +ℤ z *ℤ w)
    → to_z w128 (of_z w128 (to_z w128 (of_z w128 x) +ℤ to_z w128 (of_z w128 (to_z w128 (of_z w128 z) *ℤ to_z w128 (of_z w128 w))))) ≡ (x +ℤ z *ℤ w)
read_with x z w fx fz fw product sum = rw (to_z-of_z w128 x fx, to_z-of_z w128 z fz, to_z-of_z w128 w fw, to_z-of_z w128 (z *ℤ w) product, to_z-of_z w128 (x +ℤ z *ℤ w) sum) refl

-- what an OSD carries times the weight of all fits
pub times_fits : (z : ℤ) (t : ℕ) → SFits w32 z → t ≤ 2 ^ 60 → SFits w128 (z *ℤ pos t)
times_fits z t fits small =
    let few = word_small z fits in
    let product = times_small z t few.0 few.1 small in
    fits_small (z *ℤ pos t) (omega (arith, ints, product.0)) (omega (arith, ints, product.1))

-- and more than what an OSD is above its share
pub with_fits : (x z : ℤ) (t : ℕ) → x <ℤ pos (2 ^ 107) → neg_ℤ (pos (2 ^ 107)) <ℤ x → SFits w32 z → t ≤ 2 ^ 60 → SFits w128 (x +ℤ z *ℤ pos t)
with_fits x z t high low fits small =
    let few = word_small z fits in
    let product = times_small z t few.0 few.1 small in
    let sum = sum_small x (z *ℤ pos t) high low product.0 product.1 in
    fits_small (x +ℤ z *ℤ pos t) (omega (arith, ints, sum.0)) (omega (arith, ints, sum.1))

-- a deviation less the weight of all fits
less_fits : (x : ℤ) (t : ℕ) → x <ℤ pos (2 ^ 108) → neg_ℤ (pos (2 ^ 108)) <ℤ x → t ≤ 2 ^ 68 → SFits w128 (x -ℤ pos t)
less_fits x t high low small = fits_small (x -ℤ pos t) (omega (arith, ints)) (omega (arith, ints))

-- and with it more
more_fits : (x : ℤ) (t : ℕ) → x <ℤ pos (2 ^ 108) → neg_ℤ (pos (2 ^ 108)) <ℤ x → t ≤ 2 ^ 68 → SFits w128 (x +ℤ pos t)
more_fits x t high low small = fits_small (x +ℤ pos t) (omega (arith, ints)) (omega (arith, ints))

-- ---- a good move of the state of a plan

module _ (m : ClusterMap) (p : PoolFacts) (cs : Aim) (moves : List Move) (v : Move) (gs : List Group) (ds : List ℤ) (good : IsGood (after_moves m p moves) p cs v) (reached : IsReached m p cs moves)
    (board : IsBoardOf (after_moves m p moves) p cs gs ds) (there : pool_at m.pools p.id ≡ Some p) (t : ℕ) (is_total : t ≡ total_weight m p) (small : t ≤ 2 ^ 60) (few : AreSmall cs.carried) where
  abbrev now : ClusterMap
  now = after_moves m p moves

  abbrev ends : (is_candidate m p v.from ≡ true) × (is_candidate m p v.to ≡ true)
  ends = good_ends m p cs moves v good

  pub group_inside : v.group < length gs
  group_inside = omega (arith, good.there, long_groups now p cs gs ds board)

  pub group_is : (g : Group) → g ≡ get_or gs v.group g → g ≡ group_at now p v.group
  group_is g at = at ∙ ap (λ xs. get_or xs v.group g) board.groups ∙ get_or-map-range_with_len (group_at now p) 0 p.pg_num v.group v.group g good.there (omega arith)

  pub group_room : (g : Group) → g ≡ get_or gs v.group g → length g.pairs < 20
  unfolding group_at
  group_room g at =
      let long = ap (λ (x : Group). length x.pairs) (group_is g at) in
      omega (arith, long, room_left now p cs v good, (pool_within now p p.id reached.holds (pool_now m p moves there)).size_most)

  pub ends_few : (v.from < 4096) × (v.to < 4096)
  ends_few = (
    omega (arith, candidate_below m p v.from ends.0, long_now m p moves, reached.holds.osds.few),
    omega (arith, candidate_below m p v.to ends.1, long_now m p moves, reached.holds.osds.few),
  )

  pub from_inside : v.from < length ds
  from_inside = omega (arith, candidate_below m p v.from ends.0, long_deviations m p cs moves gs ds board)

  pub to_inside : v.to < length ds
  to_inside = omega (arith, candidate_below m p v.to ends.1, long_deviations m p cs moves gs ds board)

  pub from_is : (x : ℤ) → x ≡ get_or ds v.from x → x ≡ deviation now p cs v.from
  from_is x at = shown_now m p cs moves gs ds v.from x board ends.0 at

  pub to_is : (x z : ℤ) → x ≡ get_or (set ds v.from z) v.to x → x ≡ deviation now p cs v.to
  to_is x z at = shown_now m p cs moves gs ds v.to x board ends.1 (at ∙ get_or-set_other ds v.from v.to z x (λ e. good_apart now p cs v good.good (sym e)))

  pub from_fits : (x : ℤ) → x ≡ get_or ds v.from x → SFits w128 (x -ℤ pos (group_weight m p))
  unfolding group_weight
  from_fits x at =
      let bounds = small_now m p cs moves v.from reached there (omega (arith, is_total, small)) few ends.0 in
      rw (from_is x at) (less_fits (deviation now p cs v.from) (256 * total_weight m p) bounds.0 bounds.1 (omega (arith, is_total, small)))

  pub to_fits : (x z : ℤ) → x ≡ get_or (set ds v.from z) v.to x → SFits w128 (x +ℤ pos (group_weight m p))
  unfolding group_weight
  to_fits x z at =
      let bounds = small_now m p cs moves v.to reached there (omega (arith, is_total, small)) few ends.1 in
      rw (to_is x z at) (more_fits (deviation now p cs v.to) (256 * total_weight m p) bounds.0 bounds.1 (omega (arith, is_total, small)))

  pub board_made : (g : Group) (x y z : ℤ) → g ≡ get_or gs v.group g → x ≡ get_or ds v.from x → y ≡ get_or (set ds v.from z) v.to y
      → IsBoardOf (after_moves m p (moves ++ v ∷ [])) p cs (set gs v.group (group_after g v)) (set (set ds v.from (x -ℤ pos (group_weight m p))) v.to (y +ℤ pos (group_weight m p)))
  board_made g x y z at_g at_x at_y = (board_more m p cs moves v good reached there gs ds g x y board (group_is g at_g) (from_is x at_x) (to_is y z at_y))
