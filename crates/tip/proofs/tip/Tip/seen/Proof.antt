-- Who has a reference to it knows where the count has been.
use Rattle.std.proofs.Common.{[], ◌∷◌, refl}
use mir.Syntax.{named}
use mir.Val.{Val, vptr}
use base.Logic.{SProp, emp}
use base.Fml.{ftrue, flft}
use types.Kit.{‵, raw, ◌⊛◌, later, ◌$◌, ◌∵◌, !, qed, by, keep, drop, split, join, move, fsplit, fjoin, use0, use2, await}
use types.Run.{no_more, and_then, returns, enter}
use types.ByLocal.{alloc_all, pass_all, free_all, look_at, get, sets}
use types.Part.{agg}
use contract.Monad.{fact_i}
use contract.Running.{tables}
use denote.Exit.{yes}
use denote.RattleType.{owns}
use denote.Signature.{types_at, plain}
use denote.Builtin.{RefOf}
use denote.Ref.{shr_vals, shr_Tells}
use denote.Opens.{unhide}
use denote.Steps.{nothing}
use denote.Triple.Walked.{Stays, stay_dropped, walk_of, Goes-dropped}
use Rattle.std.proofs.raw_atomic.Walks.{proved}
use Rattle.tip.specs.Counts.{has_reached}
use Rattle.tip.specs.contracts.tip.Tip as Tip
use Rattle.tip.proofs.Tokens.{token, Token, token_made, sees, ends}
use Rattle.tip.specs.contracts.tip.Tip.seen.{ended, clauses}
use Rattle.tip.specs.contracts.tip.Tip.seen.Key.{name as #self}
use Rattle.tip.proofs.tip.Tip.seen.Statement.{statement}
use Rattle.tip.proofs.tip.Tip.seen.Code as code

-- it is told where a count is
pub seen_spec : {M : Type 1} → statement M
seen_spec 𝓤 𝓛 𝓜 𝓡 wired =
    let H = 𝓛.H in let 𝓣 = tables 𝓤 H 𝓜 𝓡 𝓡.env in let fn = code.function in let c = clauses 𝓛 𝓜.mem 𝓡.returns in
    let self = RefOf (0 ∷ []) tt (plain (λ _. Tip.the_row)) (λ _. tt) in let hs : Stays ended.signature.params ended.kept = (stay_dropped self yes, tt) in
    proved 𝓛 ended hs c 𝓜 𝓡 (Goes-dropped 𝓛 1 self yes (λ κs x f. refl), tt) #self fn (code.unfolded 𝓤 H 𝓜 𝓡 wired)
    (λ κs. (shr_vals, tt)) (λ κs. (shr_Tells (named 0) κs.0 Tip.the_row, tt)) (λ κs qs bounds a gh are.
    let p : Val = vptr a.0.ref_ptr.0 a.0.ref_ptr.1 in let n = a.0.now in
    let y : (walk_of 𝓛 ended hs c).Ghost = ((κs, qs, bounds, a, (p ∷ [], tt)), gh) in let Post : Val → SProp 𝓤 = (walk_of 𝓛 ended hs c).post y in
    qed 𝓛 (((‵ (flft κs.0 qs.0) ⊛ ‵ ftrue) ⊛ ‵ (owns (types_at ended.signature.params κs) a y.0.4)) ∷ raw ((c κs a).requires gh) ∷ []) ∵ keep ! (0 ∷ []) $ split ! $ split ! $ move ! (2 ∷ []) $
    fsplit ! $ fsplit ! $ drop ! $ unhide ! $ fsplit ! $ drop ! $ keep ! (0 ∷ 2 ∷ []) $
    enter ! 𝓣.C 𝓣.Λ fn (p ∷ []) Post $ alloc_all ! (λ l. pass_all ! refl ((tt, tt), tt) $
    use2 𝓛 (later (‵ (flft κs.0 qs.0) ⊛ ‵ (has_reached n.name n.count))) (sees 𝓛 κs.0 qs.0 n.name n.count) $ await ! tt $ split ! $ move ! (1 ∷ []) $
    use0 𝓛 (‵ (Token.own_val (record {}, tt) (token ∷ []))) (token_made 𝓛) $ fjoin ! $
    sets ! (agg ! (no_more !)) refl (tt, tt) $ sets ! (agg ! (and_then ! (get ! refl) (no_more !))) refl (tt, (tt, tt)) $
    nothing ! $ nothing ! $ fjoin ! $ nothing ! $ move ! (3 ∷ 0 ∷ []) $ join ! $
    returns ! (look_at ! 0 refl) $ free_all ! refl $ keep ! (0 ∷ 1 ∷ 2 ∷ []) $ by ! (ends 𝓛 ended hs c y token (record { marker = record {}; name = n.name; count = n.count }) (tt, tt) (tt, tt) (fact_i 𝓤 _ (emp 𝓤) (refl, refl)))))
