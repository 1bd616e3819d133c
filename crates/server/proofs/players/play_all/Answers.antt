use Rattle.std.proofs.Common.{◌≡◌, ◌<◌, ℕ, All, true, List, length, rules, sym, subst}
use Rattle.server.specs.declared.left.Left.{Left}
use Rattle.server.specs.Players.{FollowsIn, ReadsRow, made_by}
use Rattle.server.proofs.Joined.{BeginsIn, HasMemberOf, members_left, rows_left, all_left}
use Rattle.server.proofs.players.play_all.Goals as goal

pub join_state-requires-clause-members : goal.join_state-requires-clause-members
join_state-requires-clause-members g c =
    let same : c.as_slice.result.now ≡ c.in_ok-lefts.lefts.items = search rules in
    subst (All (HasMemberOf c.args.monitor)) (sym same)
    (members_left c.args.monitor 1 c.args.parts.now c.in_ok-lefts.lefts.items c.in_ok-lefts.ensures.left)

pub join_state-requires-clause-followers : goal.join_state-requires-clause-followers
join_state-requires-clause-followers g c =
    let same : c.as_slice.result.now ≡ c.in_ok-lefts.lefts.items = search rules in
    subst (All (ReadsRow c.args.monitor.row)) (sym same) (rows_left c.args.monitor 1 c.args.parts.now c.in_ok-lefts.lefts.items c.in_ok-lefts.ensures.left)

pub returns : goal.returns
returns g c =
    let same : c.as_slice.result.now ≡ c.in_ok-lefts.lefts.items = search rules in
    let same_again : c.as_slice-else-not-join_state.result.now ≡ c.in_ok-lefts.lefts.items = search rules in
    let made : c.are_made_once.result ≡ true = search rules in
    let once = subst (λ (lefts : List Left). (at : ℕ) → at < length c.join_state.new.all.history → made_by lefts at ≡ 1) same_again (c.are_made_once.ensures.0 made) in
    all_left g.K.Keeps.may_leave c.args.monitor c.join_state.new.all c.args.parts.now c.in_ok-lefts.lefts.items
    c.in_ok-lefts.ensures.left c.if-not-join_state.ensures.pass
    (subst (All (BeginsIn c.join_state.new.all.history)) same c.if-not-join_state.ensures.begin) (subst (All (FollowsIn c.join_state.new.all.history)) same c.if-not-join_state.ensures.follow) c.if-not-join_state.ensures.kept once
