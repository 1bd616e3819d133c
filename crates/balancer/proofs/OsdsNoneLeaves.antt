-- OSDs that no group may leave: none goes anywhere from there.
use Rattle.std.proofs.Common.{◌≡◌, ◌∙◌, sym, ℕ, true, false, not, ◌&&◌, eqb, List, length, get_or}
use mathlib.Core.Bool.{false≢true}
use Rattle.std.specs.Prelude.{nat_lt}
use Rattle.std.specs.List.{list_any, count_by}
use Rattle.std.proofs.lemmas.Bool.{false_from_ne_true, and_parts, and_from}
use Rattle.std.proofs.lemmas.List.Folds.{list_any_at}
use Rattle.maptypes.specs.Pools.{PoolFacts}
use Rattle.maptypes.specs.Sets.{is_of, stands}
use Rattle.osdmap.specs.Maps.{ClusterMap}
use Rattle.osdmap.specs.Placement.{steps_of}
use Rattle.balancer.specs.declared.group.Group.{Group}
use Rattle.balancer.specs.Moves.{last_level, levels_of, has_way}
use Rattle.balancer.specs.Boards.{may_go}
use Rattle.balancer.specs.Leaving.{may_leave}
use Rattle.balancer.specs.Marks.{NoneGoes}

-- a group that may go from an OSD to another may leave it
pub goer_leaves : (m : ClusterMap) (p : PoolFacts) (from to : ℕ) (g : Group) → may_go m p from to g ≡ true → may_leave p from g ≡ true
unfolding may_go may_leave
goer_leaves m p from to g goes =
    let moves = not g.is_fixed in
    let once = eqb (count_by (is_of from) g.places) 1 in
    let room = nat_lt (length g.pairs) p.size in
    let a = and_parts (moves && once && not (stands to g.places) && room) (has_way m (last_level (levels_of (steps_of m p))) from to g.places) goes in
    let b = and_parts (moves && once && not (stands to g.places)) room a.0 in
    let c = and_parts (moves && once) (not (stands to g.places)) b.0 in
    and_from (moves && once) room c.0 b.1

-- so one that may not leave it goes nowhere from there
stays_there : (m : ClusterMap) (p : PoolFacts) (from to : ℕ) (g : Group) → may_leave p from g ≡ false → may_go m p from to g ≡ false
stays_there m p from to g stays = false_from_ne_true _ (λ goes. absurd (false≢true (sym stays ∙ goer_leaves m p from to g goes)))

-- where no group may leave an OSD, none goes from there to another
pub none_leaves : (m : ClusterMap) (p : PoolFacts) (gs : List Group) (from to : ℕ) → list_any (may_leave p from) gs ≡ false → NoneGoes m p gs from to
none_leaves m p gs from to none = λ k d inside. stays_there m p from to (get_or gs k d)
    (false_from_ne_true _ (λ yes. absurd (false≢true (sym none ∙ list_any_at (may_leave p from) gs k d inside yes))))
