-- The greedy plan, move by move.
use Rattle.std.proofs.Common.{◌≡◌, ◌∙◌, refl, sym, ap, ℕ, zero, suc, ◌+◌, ◌-◌, ◌<◌, ◌≤◌, not, List, [], ◌∷◌, ◌++◌, length, Some, append_assoc, arith}
use Rattle.std.specs.List.{find, list_all}
use Rattle.std.specs.Option.{option_map_or}
use Rattle.std.proofs.lemmas.List.{append-nil, length_push}
use Rattle.std.proofs.lemmas.List.Sums.{fold-append}
use Rattle.maptypes.specs.Pools.{PoolFacts}
use Rattle.osdmap.specs.Maps.{ClusterMap}
use Rattle.balancer.specs.Shares.{Aim}
use Rattle.balancer.specs.declared.moves.Move.{Move}
use Rattle.balancer.specs.Moves.{after_move}
use Rattle.balancer.specs.Greedy.{good_moves, beats, best_move, greedy, after_moves}

-- where no move is good, the plan is empty
greedy_none : (m : ClusterMap) (p : PoolFacts) (cs : Aim) (k : ℕ) → good_moves m p cs ≡ [] → greedy m p cs k ≡ []
unfolding greedy best_move
greedy_none m p cs zero none = refl
greedy_none m p cs (suc k) none = ap (λ goods. option_map_or (λ v. v ∷ greedy (after_move m p v) p cs k) (find (λ v. list_all (λ u. not (beats m p cs u v)) goods) goods) []) none

-- with no move left, the plan is empty
greedy_zero : (m : ClusterMap) (p : PoolFacts) (cs : Aim) → greedy m p cs 0 ≡ []
unfolding greedy
greedy_zero m p cs = refl

-- else it is the best move and the plan of the map after it
greedy_some : (m : ClusterMap) (p : PoolFacts) (cs : Aim) (v : Move) (k : ℕ) → best_move m p cs ≡ Some v → greedy m p cs (suc k) ≡ v ∷ greedy (after_move m p v) p cs k
unfolding greedy
greedy_some m p cs v k best = rw best refl

module _ (m : ClusterMap) (p : PoolFacts) (cs : Aim) (limit : ℕ) where
  -- so many moves are made, and the rest of the plan is that of the map after them
  pub record IsUnderWay (moves : List Move) (count : ℕ) : Type 0 where
    pub long : length moves ≡ count
    pub plan : greedy m p cs limit ≡ moves ++ greedy (after_moves m p moves) p cs (limit - count)

  pub way_begins : (moves : List Move) → moves ≡ [] → IsUnderWay moves 0
  way_begins moves none = rw none (record { long = refl; plan = ap (greedy m p cs) (omega arith) })

  pub way_goes_on : (moves : List Move) (count : ℕ) (v : Move) → count < limit → IsUnderWay moves count → best_move (after_moves m p moves) p cs ≡ Some v → IsUnderWay (moves ++ v ∷ []) (count + 1)
  way_goes_on moves count v below way best =
      let left : limit - count ≡ suc (limit - (count + 1)) = omega arith in
      let step = greedy_some (after_moves m p moves) p cs v (limit - (count + 1)) best in
      let after : after_moves m p (moves ++ v ∷ []) ≡ after_move (after_moves m p moves) p v = fold-append (λ n w. after_move n p w) m moves (v ∷ []) in
      record {
        long = longer moves v way.long;
        plan = way.plan ∙ rw (left, step, after) (sym (append_assoc moves (v ∷ []) (greedy (after_move (after_moves m p moves) p v) p cs (limit - (count + 1)))));
      }
    where
      longer : (xs : List Move) (x : Move) → length xs ≡ count → length (xs ++ x ∷ []) ≡ count + 1
      longer xs x long = length_push xs x ∙ ap (λ n. n + 1) long

  pub way_ends : (moves : List Move) (count : ℕ) → limit ≤ count → IsUnderWay moves count → moves ≡ greedy m p cs limit
  way_ends moves count past way =
      let left : limit - count ≡ 0 = omega arith in
      sym (way.plan ∙ rw (left, greedy_zero (after_moves m p moves) p cs) (append-nil moves))

  pub way_stops : (moves : List Move) (count : ℕ) → IsUnderWay moves count → good_moves (after_moves m p moves) p cs ≡ [] → moves ≡ greedy m p cs limit
  way_stops moves count way none = sym (way.plan ∙ rw (greedy_none (after_moves m p moves) p cs (limit - count) none) (append-nil moves))
