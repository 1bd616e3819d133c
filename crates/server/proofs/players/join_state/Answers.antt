use Rattle.std.proofs.Common.{◌≡◌, ◌∙◌, sym, subst, ap, rules, All, List}
use Rattle.maptypes.specs.Incrementals.{Step}
use Rattle.osdmap.specs.Maps.{ClusterMap}
use Rattle.epochlog.specs.Epochs.{Seen, longer}
use Rattle.epochlog.specs.Journals.{HasAll}
use Rattle.server.specs.Serving.{journal_of, KeepsAll}
use Rattle.server.proofs.Joined.{BeginsIn, counted_left, joined_none, on_true}
use Rattle.server.proofs.players.join_state.Goals as goal

pub join_seen-requires-clause-history : goal.join_seen-requires-clause-history
join_seen-requires-clause-history g c =
    let seen : c.pass.result.now.history ≡ c.in-Some.ended.state.value.pass.history = search rules in
    joined_none c.args.all.now.history c.join.new.self.history c.in-Some.ended.state.value.pass.history
    (c.join.ensures.history ∙ ap (λ (h : List Step). longer c.args.all.now.history h) seen) c.requires.none

pub join_seen-requires-clause-members : goal.join_seen-requires-clause-members
join_seen-requires-clause-members g c =
    counted_left c.args.monitor c.in-Some.ended c.args.lefts.now (search rules) c.requires.members

pub returns-clause-kept : goal.returns-clause-kept
returns-clause-kept g c =
    let firsts : c.state-state.result.now.first ≡ c.args.monitor.first = search rules in
    let seen : c.pass.result.now.history ≡ c.in-Some.ended.state.value.pass.history = search rules in
    let joined = joined_none c.args.all.now.history c.join.new.self.history c.in-Some.ended.state.value.pass.history
    (c.join.ensures.history ∙ ap (λ (h : List Step). longer c.args.all.now.history h) seen) c.requires.none in
    let begin : c.state-state.result.now.pass.history ≡ c.in-Some.ended.state.value.pass.history = search rules in
    let histories = begin ∙ sym (c.join_seen.ensures.history ∙ joined) in
    let kept : KeepsAll g.K.Keeps.may_leave (journal_of c.args.monitor.first c.join_seen.new.all.history) = (
      c.store.result.now,
      λ left may. subst (λ (all : List Step). HasAll (journal_of c.args.monitor.first all) left) histories
          (subst (λ (m : ClusterMap). HasAll (journal_of m c.state-state.result.now.pass.history) left) firsts (c.store.ensures.left left may)),
    ) in
    on_true _ _ c.are_followed.result
    (λ same. subst (λ (s : Seen). KeepsAll g.K.Keeps.may_leave (journal_of c.args.monitor.first s.history)) (sym same) kept) c.are_followed.ensures.same

pub returns-clause-begin : goal.returns-clause-begin
returns-clause-begin g c =
    on_true _ _ c.are_followed.result
    (λ same. subst (λ (s : Seen). All (BeginsIn s.history) c.args.lefts.now) (sym same) c.join_seen.ensures.begin) c.are_followed.ensures.same
